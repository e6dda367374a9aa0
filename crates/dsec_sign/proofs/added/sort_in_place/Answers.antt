use Rattle.std.proofs.Common.{rules}
use Rattle.std.specs.Ordering.{is_lt}
use Rattle.std.proofs.lemmas.List.Sorted.{ranks_by, answers_always}
use Rattle.dsec_spec.specs.Records.{Record}
use Rattle.dsec_spec.specs.CanonicalRecords.{record_cmp}
use Rattle.dsec_spec.proofs.CanonicalOrder.{record_cmp_total}
use Rattle.dsec_sign.proofs.added.sort_in_place.Goals as goal

pub returns-clause-sorted : goal.returns-clause-sorted
returns-clause-sorted c =
    c.sort_unstable_by.ensures.sorted (λ a b. is_lt (record_cmp a b)) (ranks_by record_cmp_total (λ (r : Record). r)) (answers_always _ _ _ (λ f a r g called. search rules))
