use Rattle.std.proofs.Common.{◌≡◌, ◌++◌, length}
use Rattle.dsec_sorted.specs.SetViews.{members_left, members_of}
use Rattle.dsec_rrsig.specs.Lent.{lent}
use Rattle.dsec_rrsig.proofs.unsorted_set.lend.Given as goal

abbrev pub invariant-loop-one : goal.invariant-loop-one
invariant-loop-one l = lent l.records.items ++ members_left l.rest ≡ members_of l.set

abbrev pub decreases-loop-one : goal.decreases-loop-one
decreases-loop-one l = length (members_left l.rest)
