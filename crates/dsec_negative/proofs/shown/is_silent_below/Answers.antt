use Rattle.std.proofs.Common.{sym, ◌∙◌}
use Rattle.dsec_spec.specs.DenyingRecords.{has}
use Rattle.dsec_spec.specs.Numbers.{DNAME}
use Rattle.dsec_absence.specs.Tests.{is_above_cut}
use Rattle.dsec_negative.specs.Views.{record_at}
use Rattle.dsec_negative.proofs.ShownLaws.{or_else}
use Rattle.dsec_negative.proofs.shown.is_silent_below.Goals as goal

pub returns-else-has : goal.returns-else-has
returns-else-has c = λ owner.
    or_else (has (record_at owner c.args.nsec.now) DNAME) (is_above_cut (record_at owner c.args.nsec.now)) c.is_above_cut.result (sym c.has.ensures ∙ c.if-has.false) (c.is_above_cut.ensures owner)
