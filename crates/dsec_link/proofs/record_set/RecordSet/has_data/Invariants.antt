use Rattle.std.proofs.Common.{◌<◌, ◌≢◌, ℕ, get_or}
use Rattle.dsec_wire.specs.TypedData.{TypedData}
use Rattle.dsec_link.proofs.record_set.RecordSet.has_data.Given as goal

abbrev pub invariant-loop-one : goal.invariant-loop-one
invariant-loop-one l = (k : ℕ) (d : TypedData) → k < l.one-index → (get_or l.datas k d).octets ≢ l.octets
