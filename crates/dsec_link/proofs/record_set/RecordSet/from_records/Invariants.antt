use Rattle.std.proofs.Common.{◌≡◌, ◌∷◌, map, take}
use Rattle.dsec_wire.specs.TypedData.{data_of}
use Rattle.dsec_link.proofs.record_set.RecordSet.from_records.Given as goal

abbrev pub invariant-loop-record : goal.invariant-loop-record
invariant-loop-record l = l.datas.items ≡ data_of l.first ∷ map data_of (take l.record-index l.others)
