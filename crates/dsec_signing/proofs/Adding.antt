-- A record that is inserted among records in canonical order is added to them.
use Rattle.std.proofs.Common.{◌≡◌, ◌↔◌, suc, Bool, true, false, cond, List, [], ◌∷◌, ◌++◌, Option, Some, None, refl, sym, ap, ◌∙◌, subst, arith, inl, inr}
use Rattle.std.specs.Prelude.{Contains, IsPermutation, find}
use Rattle.std.specs.List.{list_any}
use Rattle.std.specs.Ordering.{ordering_reverse}
use Rattle.std.specs.declared.cmp.Ordering.TheVariants.{Less, Equal, Greater}
use Rattle.std.proofs.lemmas.Bool.{or_parts, true≢false}
use Rattle.std.proofs.lemmas.Cmp.{tied_itself}
use Rattle.std.proofs.lemmas.List.Elements.{All-contains}
use Rattle.std.proofs.lemmas.List.Sorted.{Contains-permutation, IsPermutation-sym}
use Rattle.std.proofs.lemmas.Option.{same_Some}
use Rattle.dsec_spec.specs.Records.{Record}
use Rattle.dsec_spec.specs.Groups.{are_duplicates}
use Rattle.dsec_spec.specs.CanonicalRecords.{IsCanonical, IsFirst, record_cmp}
use Rattle.dsec_spec.specs.SignedZones.{IsUnion}
use Rattle.dsec_spec.proofs.CanonicalOrder.{duplicates_tie, record_cmp_total}
use Rattle.dsec_spec.proofs.Members.{first_in, from_find, from_no_find, in_either, in_more, later_in, not_in_none, some_passes}
use Rattle.dsec_sorted.specs.Inserting.{IsNew, IsPresent}

-- ---- what is found

abbrev or_then : {A : Type 0} → Option A → Option A → Option A
or_then None other = other
or_then (Some x) other = Some x

find_append : {A : Type 0} (test : A → Bool) (xs ys : List A) → find test (xs ++ ys) ≡ or_then (find test xs) (find test ys)
find_append test [] ys = refl
find_append test (x ∷ xs) ys = by (test x) (find_append test xs ys)
  where
    by : (b : Bool) → find test (xs ++ ys) ≡ or_then (find test xs) (find test ys) → cond b (Some x) (find test (xs ++ ys)) ≡ or_then (cond b (Some x) (find test xs)) (find test ys)
    by true h = refl
    by false h = h

none_found : {A : Type 0} (test : A → Bool) (xs : List A) → list_any test xs ≡ false → find test xs ≡ None
none_found test [] h = refl
none_found test (x ∷ xs) h =
    let both = or_parts (test x) (list_any test xs) h in
    ap (λ (t : Bool). cond t (Some x) (find test xs)) both.0 ∙ none_found test xs both.1

-- ---- duplicates

itself : (r : Record) → are_duplicates r r ≡ true
itself r = (duplicates_tie r r).1 (tied_itself record_cmp_total r)

not_before : (r y : Record) → record_cmp y r ≡ Less → are_duplicates r y ≡ false
not_before r y less = by (are_duplicates r y) refl
  where
    by : (t : Bool) → are_duplicates r y ≡ t → t ≡ false
    by true e =
        let tie = (duplicates_tie r y).0 e in
        let behind : record_cmp r y ≡ Greater = record_cmp_total.antisymm r y ∙ ap ordering_reverse less in
        let clash : Equal ≡ Greater = sym tie ∙ behind in absurd cc
    by false e = refl

-- of records in canonical order each is the first of its duplicates
pub first_of_canonical : (old : List Record) (r : Record) → IsCanonical old → Contains old r → IsFirst old r
first_of_canonical [] r canonical h = absurd (not_in_none r h)
first_of_canonical (y ∷ ys) r canonical h = elim (in_more y r ys h) [
  | inl e ↦ subst (λ (z : Record). find (are_duplicates r) (z ∷ ys) ≡ Some r) (sym e) (ap (λ (t : Bool). cond t (Some r) (find (are_duplicates r) ys)) (itself r))
  | inr later ↦
      let less : record_cmp y r ≡ Less = All-contains (λ (s : Record). record_cmp y s ≡ Less) ys r (λ k d l. canonical 0 (suc k) d (omega arith) (omega (arith, l))) later in
      ap (λ (t : Bool). cond t (Some y) (find (are_duplicates r) ys)) (not_before r y less)
      ∙ first_of_canonical ys r (λ i j d lt l. canonical (suc i) (suc j) d (omega (arith, lt)) (omega (arith, l))) later
]

front_first : (old : List Record) (item r : Record) → IsFirst old r → IsFirst (old ++ item ∷ []) r
front_first old item r first = find_append (are_duplicates r) old (item ∷ []) ∙ ap (λ (o : Option Record). or_then o (find (are_duplicates r) (item ∷ []))) first

new_first : (old : List Record) (item : Record) → IsNew item old → IsFirst (old ++ item ∷ []) item
new_first old item new =
    find_append (are_duplicates item) old (item ∷ [])
    ∙ ap (λ (o : Option Record). or_then o (find (are_duplicates item) (item ∷ []))) (none_found (are_duplicates item) old new)
    ∙ ap (λ (t : Bool). cond t (Some item) None) (itself item)

-- ---- one record more

-- a new one, inserted
pub union_new : (old new : List Record) (item : Record) → IsCanonical old → IsCanonical new → IsPermutation (item ∷ old) new → IsNew item old → IsUnion old (item ∷ []) new
union_new old new item before after moved fresh = record { canonical = after; all = λ r. (is_first r, is_there r) }
  where
    is_first : (r : Record) → Contains new r → IsFirst (old ++ item ∷ []) r
    is_first r h = elim (in_more item r old (Contains-permutation new (item ∷ old) r (IsPermutation-sym (item ∷ old) new moved) h)) [
      | inl e ↦ subst (IsFirst (old ++ item ∷ [])) e (new_first old item fresh)
      | inr there ↦ front_first old item r (first_of_canonical old r before there)
    ]

    is_there : (r : Record) → IsFirst (old ++ item ∷ []) r → Contains new r
    is_there r first =
        let found = from_find (are_duplicates r) (old ++ item ∷ []) r first in
        Contains-permutation (item ∷ old) new r moved (elim (in_either r old (item ∷ []) found.1) [
          | inl there ↦ later_in item r old there
          | inr last ↦ elim (in_more item r [] last) [
            | inl e ↦ subst (λ (z : Record). Contains (z ∷ old) r) (sym e) (first_in r old)
            | inr none ↦ absurd (not_in_none r none)
          ]
        ])

-- one that is there already
pub union_present : (old : List Record) (item : Record) → IsCanonical old → IsPresent item old → IsUnion old (item ∷ []) old
union_present old item before present = record { canonical = before; all = λ r. (is_first r, is_there r) }
  where
    is_first : (r : Record) → Contains old r → IsFirst (old ++ item ∷ []) r
    is_first r h = front_first old item r (first_of_canonical old r before h)

    no_item : (r : Record) → find (are_duplicates r) old ≡ None → item ≡ r → ⊥
    no_item r none e =
        let other = some_passes (are_duplicates item) old present in
        let not : are_duplicates r other.0 ≡ false = from_no_find (are_duplicates r) old none other.0 other.1 in
        true≢false (sym other.2 ∙ subst (λ (z : Record). are_duplicates z other.0 ≡ false) (sym e) not)

    by : (r : Record) (o : Option Record) → find (are_duplicates r) old ≡ o → or_then o (find (are_duplicates r) (item ∷ [])) ≡ Some r → Contains old r
    by r (Some x) e f = subst (Contains old) (same_Some x r f) (from_find (are_duplicates r) old x e).1
    by r None e f = elim (in_more item r [] (from_find (are_duplicates r) (item ∷ []) r f).1) [
      | inl same ↦ absurd (no_item r e same)
      | inr none ↦ absurd (not_in_none r none)
    ]

    is_there : (r : Record) → IsFirst (old ++ item ∷ []) r → Contains old r
    is_there r first = by r (find (are_duplicates r) old) refl (sym (find_append (are_duplicates r) old (item ∷ [])) ∙ first)

-- all records of a union are of the old ones or of those that were added
pub from_union : (old added new : List Record) (r : Record) → IsUnion old added new → Contains new r → Contains (old ++ added) r
from_union old added new r union h = (from_find (are_duplicates r) (old ++ added) r ((union.all r).0 h)).1

-- records that none were extended by are the union of all but the last, and the last
pub union_of_all : (source old all new : List Record) (last : Record) → old ≡ [] → all ≡ source ++ last ∷ [] → IsCanonical new → ((r : Record) → Contains new r ↔ IsFirst (old ++ all) r) → IsUnion source (last ∷ []) new
union_of_all source old all new last none is canonical h = record {
  canonical = canonical;
  all = λ r. subst (λ (xs : List Record). Contains new r ↔ IsFirst xs r) (ap (λ (o : List Record). o ++ all) none ∙ is) (h r);
}
