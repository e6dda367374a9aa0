use Rattle.std.proofs.Common.{◌≡◌, ◌++◌, take}
use Rattle.std.specs.List.{flat_map}
use Rattle.dsec_rrsig.specs.Lent.{lent}
use Rattle.dsec_rrsig.specs.Messages.{piece}
use Rattle.dsec_rrsig.proofs.unsorted_set.push_records.Given as goal

abbrev pub invariant-loop-one : goal.invariant-loop-one
invariant-loop-one l = l.message.items ≡ l.initial.message.items ++ flat_map (piece l.first) (lent (take l.one-index l.records))
