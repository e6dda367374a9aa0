use Rattle.std.proofs.Common.{◌≡◌, ◌≤◌, ◌-◌, take, length, false}
use Rattle.std.specs.Prelude.{All}
use Rattle.dsec_spec.specs.Names.{place, is_below}
use Rattle.dsec_sorted.proofs.records_iter.length_before.Given as goal

abbrev pub invariant-loop-size : goal.invariant-loop-size
invariant-loop-size l = record {
  fits : l.size ≤ length l.records;
  none : All (λ r. is_below (place r.owner) (place l.name) ≡ false) (take l.size l.records);
}

abbrev pub decreases-loop-size : goal.decreases-loop-size
decreases-loop-size l = length l.records - l.size
