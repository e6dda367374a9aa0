use Rattle.std.proofs.Common.{◌≡◌, ◌++◌, List, length, drop}
use Rattle.dsec_link.specs.declared.signing.Keyed.{Keyed}
use Rattle.dsec_link.specs.Keyed.{wholes}
use Rattle.dsec_link.proofs.signing.put_back.Given as goal

abbrev pub invariant-loop-one : goal.invariant-loop-one
invariant-loop-one l =
    (rest : List Keyed) × (l.initial.all.items ≡ l.all.items ++ rest)
    × (drop (length l.all.items) l.records ≡ wholes rest) × (length l.records ≡ length l.initial.all.items)

abbrev pub decreases-loop-one : goal.decreases-loop-one
decreases-loop-one l = length l.all.items
