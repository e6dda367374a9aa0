use Rattle.std.proofs.Common.{sym, ◌∙◌}
use Rattle.dsec_nsec3_calls.specs.Views.{nsec3_at}
use Rattle.dsec_nsec3_calls.proofs.ToldLaws.{plain_matched, other_bars}
use Rattle.dsec_nsec3_calls.proofs.by_record.matched.Goals as goal

pub returns-then-is_plain : goal.returns-then-is_plain
returns-then-is_plain c = λ left zone owner. plain_matched (nsec3_at zone owner c.args.nsec3.now) c.args.index left (sym (c.is_plain.ensures zone owner) ∙ c.if-is_plain.true)

pub returns-else-is_plain : goal.returns-else-is_plain
returns-else-is_plain c = λ left zone owner. other_bars (nsec3_at zone owner c.args.nsec3.now) c.args.index left (sym (c.is_plain.ensures zone owner) ∙ c.if-is_plain.false)
