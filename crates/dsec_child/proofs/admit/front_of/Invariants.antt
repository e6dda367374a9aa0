use Rattle.std.proofs.Common.{◌≡◌, ◌+◌, length}
use Rattle.dsec_wire.specs.DataViews.{ds_view}
use Rattle.dsec_child.specs.Admissions.{usable_ds}
use Rattle.dsec_child.proofs.FrontSteps.{passing}
use Rattle.dsec_child.proofs.admit.front_of.Given as goal

abbrev pub invariant-loop-index : goal.invariant-loop-index
invariant-loop-index l = l.left + length (passing usable_ds ds_view l.ds l.index) ≡ l.most
