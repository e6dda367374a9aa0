use Rattle.dsec_spec.proofs.CanonicalOrder.{record_cmp_total}
use Rattle.dsec_sorted.proofs.Merged.{stays_strict}
use Rattle.dsec_sorted.proofs.Extending.{merged}
use Rattle.dsec_sorted.proofs.sorted.extend_sorted.Goals as goal

pub returns-clause-ok : goal.returns-clause-ok
returns-clause-ok c = record {
  canonical = rw c.drop_duplicates.ensures (stays_strict record_cmp_total c.sort.new.records.items c.in_default.ensures.sorted);
  all = rw (c.drop_duplicates.ensures, ← c.in_ok-append.ensures.items) (merged c.append.new.self.items c.sort.new.records.items c.in_default.ensures.sorted c.in_default.ensures.stable);
}
