use Rattle.std.proofs.Common.{◌≡◌, map, take}
use Rattle.dsec_wire.specs.TypedData.{data_of}
use Rattle.dsec_group.proofs.cached.set_of.Given as goal

abbrev pub invariant-loop-record : goal.invariant-loop-record
invariant-loop-record l = l.datas.items ≡ map data_of (take l.record-index l.records)
