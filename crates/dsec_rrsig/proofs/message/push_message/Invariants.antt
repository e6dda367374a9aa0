use Rattle.std.proofs.Common.{◌≡◌, ◌++◌, length}
use Rattle.std.specs.List.{flat_map}
use Rattle.dsec_sorted.specs.SetViews.{members_left}
use Rattle.dsec_rrsig.specs.Messages.{piece}
use Rattle.dsec_rrsig.proofs.message.push_message.Given as goal

abbrev pub invariant-loop-one : goal.invariant-loop-one
invariant-loop-one l =
    l.message.items ++ flat_map (piece l.first) (members_left l.rest) ≡ l.initial.message.items ++ flat_map (piece l.first) (members_left l.fn.records)

abbrev pub decreases-loop-one : goal.decreases-loop-one
decreases-loop-one l = length (members_left l.rest)
