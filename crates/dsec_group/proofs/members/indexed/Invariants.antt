use Rattle.std.proofs.Common.{◌≡◌, ℕ, List, take}
use Rattle.std.specs.BTreeSet.{contains}
use Rattle.std.specs.Cmp.Lexicographic.{slice_cmp}
use Rattle.std.specs.Ordering.{nat_cmp}
use Rattle.dsec_group.specs.Adding.{has_data}
use Rattle.dsec_group.proofs.members.indexed.Given as goal

abbrev pub invariant-loop-record : goal.invariant-loop-record
invariant-loop-record l = (o : List ℕ) → contains (slice_cmp nat_cmp) l.known o ≡ has_data o (take l.record-index l.records)
