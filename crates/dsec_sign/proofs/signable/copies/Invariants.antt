use Rattle.std.proofs.Common.{◌≡◌, ◌++◌, length}
use Rattle.dsec_sorted.specs.SetViews.{members_left}
use Rattle.dsec_sign.proofs.signable.copies.Given as goal

abbrev pub invariant-loop-one : goal.invariant-loop-one
invariant-loop-one l = l.all.items ++ members_left l.rest ≡ members_left l.fn.records

abbrev pub decreases-loop-one : goal.decreases-loop-one
decreases-loop-one l = length (members_left l.rest)
