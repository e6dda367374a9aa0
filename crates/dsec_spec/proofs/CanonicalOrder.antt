-- The canonical order of records is total, ties duplicates alone, and has the owners of one class in order.
use Rattle.std.proofs.Common.{◌≡◌, ◌↔◌, true, ◌&&◌, ◌==◌, ℕ, List, get_or, refl, ap, ◌∙◌, eqb-true, eq-eqb}
use Rattle.std.specs.Prelude.{IsTrue}
use Rattle.std.specs.Cmp.{IsTotalOrder, on_total}
use Rattle.std.specs.Str.{bytes_eq}
use Rattle.std.specs.FinMap.{nat_cmp-IsAntisymmetric, slice_cmp-IsAntisymmetric}
use Rattle.std.specs.Ordering.{nat_cmp, ordering_then, ordering_reverse}
use Rattle.std.specs.declared.cmp.Ordering.{Ordering}
use Rattle.std.specs.declared.cmp.Ordering.TheVariants.{Less, Equal, Greater}
use Rattle.std.proofs.lemmas.Cmp.{then_total, tied_itself, nat_cmp_total, nat_list_cmp_total}
use Rattle.std.proofs.lemmas.Slice.Eq.{bytes_eq-Decides}
use Rattle.dsec_spec.specs.Names.{place, place_cmp, same_place, Before}
use Rattle.dsec_spec.specs.RecordData.{canonical_data}
use Rattle.dsec_spec.specs.Records.{Record}
use Rattle.dsec_spec.specs.Groups.{are_duplicates}
use Rattle.dsec_spec.specs.CanonicalRecords.{record_cmp, IsCanonical, AreOrdered, AreOfOneClass}
use Rattle.dsec_spec.proofs.NameOrder.{place_cmp_total, name_cmp_total, place_cmp_same}
use Rattle.dsec_spec.proofs.CanonicalNames.{same_place_decides}
use Rattle.dsec_spec.proofs.Choosing.{both}

pub record_cmp_total : IsTotalOrder record_cmp
record_cmp_total =
    then_total (on_total (λ (r : Record). r.class) nat_cmp_total) (then_total (on_total (λ (r : Record). r.owner) name_cmp_total)
    (then_total (on_total (λ (r : Record). r.rtype) nat_cmp_total) (on_total (λ (r : Record). canonical_data r.rtype r.rdata) nat_list_cmp_total)))

-- a record that is before another of its class isn't behind it by its owner
not_behind : (r s : Record) → r.class ≡ s.class → record_cmp r s ≡ Less → Before (place s.owner) (place r.owner) → ⊥
not_behind r s class less before =
    let behind : place_cmp (place r.owner) (place s.owner) ≡ Greater = place_cmp_total.antisymm (place r.owner) (place s.owner) ∙ ap ordering_reverse before in
    let e = rw (class, same_number s.class, behind) at less in cc
  where
    same_number : (n : ℕ) → nat_cmp n n ≡ Equal
    same_number n = tied_itself nat_cmp_total n

pub canonical_ordered : (records : List Record) → AreOfOneClass records → IsCanonical records → AreOrdered records
canonical_ordered records one canonical i j d lt lj before = not_behind (get_or records i d) (get_or records j d) (one i j d lt lj) (canonical i j d lt lj) before

both_equal : (a b : Ordering) → ordering_then a b ≡ Equal → (a ≡ Equal) × (b ≡ Equal)
both_equal Less b h = absurd cc
both_equal Equal b h = (refl, h)
both_equal Greater b h = absurd cc

-- records tie in the canonical order where they are duplicates, and nowhere else
pub duplicates_tie : (r s : Record) → IsTrue (are_duplicates r s) ↔ (record_cmp r s ≡ Equal)
duplicates_tie r s = (tie, are)
  where
    tie : are_duplicates r s ≡ true → record_cmp r s ≡ Equal
    tie h =
        let p = both ((same_place (place r.owner) (place s.owner) && (r.class == s.class)) && (r.rtype == s.rtype)) (bytes_eq (canonical_data r.rtype r.rdata) (canonical_data s.rtype s.rdata)) h in
        let q = both (same_place (place r.owner) (place s.owner) && (r.class == s.class)) (r.rtype == s.rtype) p.0 in
        let o = both (same_place (place r.owner) (place s.owner)) (r.class == s.class) q.0 in
        rw (
          (same_place_decides (place r.owner) (place s.owner)).0 o.0,
          eqb-true r.class s.class o.1,
          (bytes_eq-Decides (canonical_data r.rtype r.rdata) (canonical_data s.rtype s.rdata)).0 p.1,
          eqb-true r.rtype s.rtype q.1,
          tied_itself nat_cmp_total s.class,
          tied_itself place_cmp_total (place s.owner),
          tied_itself nat_cmp_total s.rtype,
          tied_itself nat_list_cmp_total (canonical_data s.rtype s.rdata),
        ) refl

    are : record_cmp r s ≡ Equal → are_duplicates r s ≡ true
    are h =
        let c = both_equal (nat_cmp r.class s.class) _ h in
        let o = both_equal (place_cmp (place r.owner) (place s.owner)) _ c.1 in
        let t = both_equal (nat_cmp r.rtype s.rtype) _ o.1 in
        rw (
          (same_place_decides (place r.owner) (place s.owner)).1 (place_cmp_same (place r.owner) (place s.owner) o.0),
          eq-eqb r.class s.class (nat_cmp-IsAntisymmetric r.class s.class c.0),
          eq-eqb r.rtype s.rtype (nat_cmp-IsAntisymmetric r.rtype s.rtype t.0),
          (bytes_eq-Decides (canonical_data r.rtype r.rdata) (canonical_data s.rtype s.rdata)).1 (slice_cmp-IsAntisymmetric nat_cmp-IsAntisymmetric (canonical_data r.rtype r.rdata) (canonical_data s.rtype s.rdata) t.1),
        ) refl
