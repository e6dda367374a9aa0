use Rattle.std.proofs.Common.{sym, ◌∙◌}
use Rattle.dsec_nsec3_calls.specs.Views.{nsec3_at}
use Rattle.dsec_nsec3_calls.proofs.ToldLaws.{plain_without}
use Rattle.dsec_nsec3_calls.proofs.shown.is_plain.Goals as goal

pub returns-then-not-has : goal.returns-then-not-has
returns-then-not-has c = λ zone owner. plain_without (nsec3_at zone owner c.args.nsec3.now) 0 0 c.is_cut.result (sym c.has.ensures ∙ c.if-not-has.true) (c.is_cut.ensures zone owner)
