-- Records that others were added to, once these are sorted and duplicates dropped.
use Rattle.std.proofs.Common.{◌↔◌, List, sym, ◌∙◌}
use Rattle.std.specs.Prelude.{Contains}
use Rattle.std.specs.List.{dedup}
use Rattle.std.specs.List.Sorted.{IsSorted, IsStable}
use Rattle.std.specs.Ordering.{eq_by_cmp}
use Rattle.dsec_spec.specs.Groups.{are_duplicates}
use Rattle.dsec_spec.specs.Records.{Record}
use Rattle.dsec_spec.specs.CanonicalRecords.{record_cmp, IsFirst}
use Rattle.dsec_spec.proofs.CanonicalOrder.{record_cmp_total}
use Rattle.dsec_sorted.proofs.Merged.{find_alike, firsts_stay}
use Rattle.dsec_sorted.proofs.Places.{ties_alike}

pub merged : (all inorder : List Record) → IsSorted record_cmp inorder → IsStable record_cmp all inorder → (r : Record) → Contains (dedup (eq_by_cmp record_cmp) inorder) r ↔ IsFirst all r
merged all inorder rises stable r =
    let stay = firsts_stay record_cmp_total all inorder rises stable r in
    let same = find_alike (are_duplicates r) (eq_by_cmp record_cmp r) all (ties_alike r) in
    (λ h. same ∙ stay.0 h, λ h. stay.1 (sym same ∙ h))
