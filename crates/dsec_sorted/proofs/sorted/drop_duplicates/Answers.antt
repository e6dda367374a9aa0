use Rattle.std.proofs.Common.{rules}
use Rattle.std.specs.Ordering.{eq_by_cmp}
use Rattle.std.proofs.lemmas.Fn.{dedup_same}
use Rattle.dsec_spec.specs.CanonicalRecords.{record_cmp}
use Rattle.dsec_sorted.proofs.sorted.drop_duplicates.Goals as goal

pub returns : goal.returns
returns c = dedup_same _ (eq_by_cmp record_cmp) _ (λ x y b f' x' y' k. search rules) _ _ c.dedup_by.ensures.filtered
