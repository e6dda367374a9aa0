use Rattle.std.proofs.Common.{◌||◌, sym, ◌∙◌}
use Rattle.dsec_spec.specs.DenyingRecords.{has}
use Rattle.dsec_spec.specs.Names.{is_below, place}
use Rattle.dsec_spec.specs.Numbers.{DNAME}
use Rattle.dsec_absence.specs.Tests.{is_above_cut}
use Rattle.dsec_negative.specs.Views.{record_at}
use Rattle.dsec_negative.proofs.ShownLaws.{and_then}
use Rattle.dsec_negative.proofs.shown.is_refused_below.Goals as goal

pub returns-then-is_below : goal.returns-then-is_below
returns-then-is_below c =
    let r = record_at c.args.owner.now c.args.nsec.now in
    and_then (is_below (place c.args.target.now) (place c.args.owner.now)) (has r DNAME || is_above_cut r) c.is_silent_below.result (sym c.is_below.ensures ∙ c.if-is_below.true) (c.is_silent_below.ensures c.args.owner.now)
