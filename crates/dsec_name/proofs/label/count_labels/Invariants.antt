use Rattle.std.proofs.Common.{◌≡◌, ◌+◌, ◌≤◌, length}
use Rattle.dsec_name.specs.Keys.{labels_of}
use Rattle.dsec_name.proofs.label.count_labels.Given as goal

abbrev pub invariant-loop-after : goal.invariant-loop-after
invariant-loop-after l =
    (l.labels + length (labels_of l.rest) ≡ length (labels_of l.octets)) × (l.labels + length l.rest ≤ length l.octets)

abbrev pub decreases-loop-after : goal.decreases-loop-after
decreases-loop-after l = length l.rest
