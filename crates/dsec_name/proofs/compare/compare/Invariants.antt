use Rattle.std.proofs.Common.{◌≡◌, length}
use Rattle.std.specs.Ordering.{ordering_then}
use Rattle.dsec_spec.specs.Names.{name_cmp}
use Rattle.dsec_name.specs.Keys.{labels_of}
use Rattle.dsec_name.proofs.compare.compare.Given as goal

abbrev pub invariant-loop-label : goal.invariant-loop-label
invariant-loop-label l =
    (length (labels_of l.rest) ≡ length (labels_of l.other_rest)) × (ordering_then (name_cmp (labels_of l.rest) (labels_of l.other_rest)) l.order ≡ name_cmp (labels_of l.one) (labels_of l.other))

abbrev pub decreases-loop-label : goal.decreases-loop-label
decreases-loop-label l = length l.rest
