-- Records with their canonical data, sorted.
use Rattle.std.proofs.Common.{◌≡◌, ℕ, zero, suc, ◌+◌, ◌<◌, ◌++◌, List, [], ◌∷◌, Bool, get_or, length, map, refl, sym, ap, arith, ◌∙◌, subst, Some, None}
use Rattle.std.specs.Prelude.{All, IsPermutation, IsSorted, slice_get}
use Rattle.std.specs.List.{flat_map}
use Rattle.std.specs.List.Sorted.{IsSortedBy}
use Rattle.std.specs.Ordering.{nat_cmp, is_lt}
use Rattle.std.specs.Cmp.Lexicographic.{slice_cmp}
use Rattle.std.proofs.lemmas.List.{length-map}
use Rattle.std.proofs.lemmas.List.Elements.{All-head, All-tail}
use Rattle.std.proofs.lemmas.List.Sorted.{IsPermutation-map, All-permutation, length_permutation}
use Rattle.dsec_spec.specs.RecordData.{canonical_data}
use Rattle.dsec_spec.specs.Records.{Record, Rrsig}
use Rattle.dsec_spec.proofs.AscendingOrder.{ascending_is}
use Rattle.dsec_link.specs.Sets.{AreRecordsOf, OfOneType, canonical_record}
use Rattle.dsec_link.specs.Signing.{front_octets, head_octets, signed_of, whole_record}
use Rattle.dsec_link.specs.Keyed.{IsInOrder, canonicals, keyed_of, wholes}
use Rattle.dsec_link.specs.declared.signing.Keyed.{Keyed}

wholes-keyed_of : (records : List Record) → wholes (map keyed_of records) ≡ records
wholes-keyed_of [] = refl
wholes-keyed_of (r ∷ records) = ap (λ (rs : List Record). r ∷ rs) (wholes-keyed_of records)

canonicals-keyed_of : (records : List Record) → canonicals (map keyed_of records) ≡ map canonical_record records
canonicals-keyed_of [] = refl
canonicals-keyed_of (r ∷ records) = ap (λ (xs : List (List ℕ)). canonical_record r ∷ xs) (canonicals-keyed_of records)

abbrev IsKeyed : Keyed → Type 0
IsKeyed one = one.canonical ≡ canonical_record one.whole

all_keyed : (records : List Record) → All IsKeyed (map keyed_of records)
all_keyed [] k d below = absurd (omega (arith, below))
all_keyed (r ∷ records) zero d below = refl
all_keyed (r ∷ records) (suc k) d below = all_keyed records k d (omega (arith, below))

canonicals-keyed : (all : List Keyed) → All IsKeyed all → canonicals all ≡ map canonical_record (wholes all)
canonicals-keyed [] h = refl
canonicals-keyed (one ∷ all) h =
    let first : one.canonical ≡ canonical_record one.whole = All-head IsKeyed one all h in
    let others = canonicals-keyed all (All-tail IsKeyed one all h) in
    rw (first, others) refl

at_canonical : (all : List Keyed) (k : ℕ) (d : Keyed) (x : List ℕ) → k < length all → get_or (canonicals all) k x ≡ (get_or all k d).canonical
at_canonical [] k d x below = absurd (omega (arith, below))
at_canonical (one ∷ all) zero d x below = refl
at_canonical (one ∷ all) (suc k) d x below = at_canonical all k d x (omega (arith, below))

-- whether one comes before another
abbrev pub before : Keyed → Keyed → Bool
before a b = is_lt (slice_cmp nat_cmp a.canonical b.canonical)

-- what is sorted by its canonical data has them in order
canonicals_sorted : (all : List Keyed) (d : Keyed) → IsSortedBy before all → IsSorted (slice_cmp nat_cmp) (canonicals all)
canonicals_sorted all d sorted k x low below =
    let within : k + 1 < length all = omega (arith, length-map all (λ (one : Keyed). one.canonical), below) in
    rw (at_canonical all (k + 1) d x within, at_canonical all k d x (omega (arith, within))) (sorted k d low within)

none_sorted : (all : List Keyed) → IsSortedBy before all → IsSorted (slice_cmp nat_cmp) (canonicals all)
none_sorted [] sorted = λ k x low below. absurd (omega (arith, below))
none_sorted (one ∷ all) sorted = canonicals_sorted (one ∷ all) one sorted

-- records that were sorted by their canonical data are in order
pub in_order_is : (records : List Record) (all : List Keyed) → IsPermutation (map keyed_of records) all → IsSortedBy before all → IsInOrder records all
in_order_is records all same sorted = record {
  same = subst (λ (rs : List Record). IsPermutation rs (wholes all)) (wholes-keyed_of records) (IsPermutation-map (λ (one : Keyed). one.whole) (map keyed_of records) all same);
  theirs = canonicals-keyed all (All-permutation IsKeyed (map keyed_of records) all same (all_keyed records));
  ordered = ascending_is (map canonical_record records) (canonicals all)
      (subst (λ (xs : List (List ℕ)). IsPermutation xs (canonicals all)) (canonicals-keyed_of records) (IsPermutation-map (λ (one : Keyed). one.canonical) (map keyed_of records) all same))
      (none_sorted all sorted);
}

-- there are as many
pub in_order_length : (records : List Record) (all : List Keyed) → IsInOrder records all → length records ≡ length all
in_order_length records all is = sym (length_permutation records (wholes all) is.same) ∙ length-map all (λ (one : Keyed). one.whole)

-- records of one type are signed by that type
typed_canonical : (rtype : ℕ) (records : List Record) → AreRecordsOf rtype records → map canonical_record records ≡ map (canonical_data rtype) (map (λ (r : Record). r.rdata) records)
typed_canonical rtype [] typed = refl
typed_canonical rtype (r ∷ records) typed =
    let first : r.rtype ≡ rtype = All-head (λ (x : Record). x.rtype ≡ rtype) r records typed in
    let others = typed_canonical rtype records (All-tail (λ (x : Record). x.rtype ≡ rtype) r records typed) in
    rw (first, others) refl

-- what is signed of some records
pub signed_some : (sig : Rrsig) (records : List Record) (all : List Keyed) (first : Record) → slice_get records 0 ≡ Some first → OfOneType records → IsInOrder records all
    → head_octets sig ++ flat_map (whole_record (front_octets sig first.owner first.class first.rtype)) (canonicals all) ≡ signed_of sig records
signed_some sig [] all first some typed ordered = absurd cc
signed_some sig (r ∷ others) all first some typed ordered =
    let is : first ≡ r = cc in
    rw (is, ordered.ordered, typed_canonical r.rtype others typed) refl

-- what is signed of no records
pub signed_none : (sig : Rrsig) (records : List Record) → slice_get records 0 ≡ None → signed_of sig records ≡ head_octets sig
signed_none sig [] none = refl
signed_none sig (r ∷ records) none = absurd cc
