use Rattle.std.proofs.Common.{ℕ, ◌<◌, ◌≤◌, ◌⊎◌, length, take}
use Rattle.dsec_spec.specs.Names.{IsAtOrBelow, place}
use Rattle.dsec_negative.proofs.encloser.encloser_labels.Given as goal

abbrev pub invariant-loop-labels : goal.invariant-loop-labels
invariant-loop-labels l =
    (l.labels ≤ length (place l.target))
    × ((j : ℕ) → l.labels < j → j ≤ length (place l.target)
    → IsAtOrBelow (place l.owner) (take j (place l.target)) ⊎ IsAtOrBelow (place l.next) (take j (place l.target)) → ⊥)

abbrev pub decreases-loop-labels : goal.decreases-loop-labels
decreases-loop-labels l = l.labels
