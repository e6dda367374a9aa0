use Rattle.std.proofs.Common.{◌≡◌, ◌≤◌, ◌-◌, take, length}
use Rattle.std.specs.Prelude.{All}
use Rattle.dsec_sign.proofs.zone_sets.set_length.Given as goal

abbrev pub invariant-loop-size : goal.invariant-loop-size
invariant-loop-size l = record {
  fits : l.size ≤ length l.records;
  run : All (λ r. r.rtype ≡ l.first.rtype) (take l.size l.records);
}

abbrev pub decreases-loop-size : goal.decreases-loop-size
decreases-loop-size l = length l.records - l.size
