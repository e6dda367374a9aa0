use Rattle.std.proofs.Common.{◌≡◌, ◌-◌, ◌<◌, ℕ, length, slice_index_or}
use Rattle.std.specs.declared.cmp.Ordering.TheVariants.{Less}
use Rattle.dsec_spec.specs.Records.{Record}
use Rattle.dsec_spec.specs.CanonicalRecords.{record_cmp}
use Rattle.dsec_sorted.proofs.order.is_sorted_canonical.Given as goal

abbrev pub invariant-loop-i : goal.invariant-loop-i
invariant-loop-i l = record {
  some : 0 < l.i;
  risen : (a b : ℕ) (d : Record) → a < b → b < length l.records → b < l.i → record_cmp (slice_index_or l.records a d) (slice_index_or l.records b d) ≡ Less;
}

abbrev pub decreases-loop-i : goal.decreases-loop-i
decreases-loop-i l = length l.records - l.i
