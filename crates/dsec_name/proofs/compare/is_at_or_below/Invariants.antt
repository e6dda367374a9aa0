use Rattle.std.proofs.Common.{◌↔◌, length}
use Rattle.dsec_spec.specs.Names.{IsAtOrBelow, place}
use Rattle.dsec_name.specs.Keys.{IsWhole, labels_of}
use Rattle.dsec_name.proofs.compare.is_at_or_below.Given as goal

abbrev pub invariant-loop-rest : goal.invariant-loop-rest
invariant-loop-rest l =
    IsWhole l.rest × (IsAtOrBelow (place (labels_of l.rest)) (place (labels_of l.base)) ↔ IsAtOrBelow (place (labels_of l.octets)) (place (labels_of l.base)))

abbrev pub decreases-loop-rest : goal.decreases-loop-rest
decreases-loop-rest l = length l.rest
