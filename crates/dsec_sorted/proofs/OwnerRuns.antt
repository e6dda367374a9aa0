-- The first owner of records that stand together by owner, and the first record below a name.
use Rattle.std.proofs.Common.{◌≡◌, ◌≢◌, ℕ, zero, suc, ◌+◌, ◌<◌, ◌≤◌, Bool, true, false, List, [], ◌∷◌, length, take, drop, get_or, refl, sym, ap, ◌∙◌, subst, inl, inr, ◌⊎◌, arith, length-drop}
use Rattle.std.specs.Prelude.{All}
use Rattle.std.proofs.Math.Bool.{not}
use Rattle.std.proofs.lemmas.Bool.{cases_lt, true≢false}
use Rattle.std.proofs.lemmas.List.{take-append-drop, get_or-drop}
use Rattle.std.proofs.lemmas.List.Elements.{All-contains}
use Rattle.dsec_spec.specs.Names.{Labels, Place, place, Before, IsAtOrBelow, is_below}
use Rattle.dsec_spec.specs.Records.{Record}
use Rattle.dsec_spec.specs.CanonicalRecords.{AreOrdered}
use Rattle.dsec_spec.proofs.NameOrder.{in_order}
use Rattle.dsec_sorted.specs.OwnersOf.{AreTogether, IsFirstOwner, IsFrom}

-- ordered records stand together by owner
pub ordered_together : (records : List Record) → AreOrdered records → AreTogether records
ordered_together records ordered i j k d ij jk within e =
    elim (in_order (place (get_or records j d).owner) (place (get_or records i d).owner)) [
      | inl before ↦ absurd (ordered i j d ij (omega arith) before)
      | inr (inl same) ↦ same
      | inr (inr behind) ↦ absurd (ordered j k d jk within (subst (λ (p : Place). Before p (place (get_or records j d).owner)) e behind))
    ]

-- and so do those after some of them
pub together_after : (records : List Record) (n : ℕ) → AreTogether records → AreTogether (drop n records)
together_after records n together i j k d ij jk within e =
    let len = length-drop n records in
    rw (get_or-drop n records i d, get_or-drop n records j d) (together (n + i) (n + j) (n + k) d (omega arith) (omega arith) (omega (arith, len)) (rw (get_or-drop n records i d, get_or-drop n records k d) at e))

-- one run of an owner's records
pub first_owner : (records : List Record) (first : Record) (tail : List Record) (name : Labels) (size : ℕ) → AreTogether records → records ≡ first ∷ tail → name ≡ first.owner → size ≤ length records
    → All (λ r. place r.owner ≡ place name) (take size records) → ((d : Record) → size < length records → place (get_or records size d).owner ≢ place name)
    → IsFirstOwner records name (take size records) (drop size records)
first_owner records first tail name zero together begins is fits run next =
    absurd (next first (omega (arith, ap length begins)) (ap (λ (xs : List Record). place (get_or xs 0 first).owner) begins ∙ sym (ap place is)))
first_owner records first tail name (suc n) together begins is fits run next = record {
  split = sym (take-append-drop (suc n) records);
  first = first;
  others = take n tail;
  head = ap (take (suc n)) begins;
  name_is = is;
  all = λ r h. All-contains (λ (r : Record). place r.owner ≡ place name) (take (suc n) records) r run h;
  only = λ r h e.
      let len = length-drop (suc n) records in
      let below = h.1 in
      let there : get_or records (suc n + h.0) r ≡ r = sym (get_or-drop (suc n) records h.0 r) ∙ h.2 in
      let head_at : place (get_or records 0 r).owner ≡ place name = ap (λ (xs : List Record). place (get_or xs 0 r).owner) begins ∙ sym (ap place is) in
      let last_at : place (get_or records (suc n + h.0) r).owner ≡ place name = ap (λ (x : Record). place x.owner) there ∙ e in
      elim (cases_lt 0 h.0) [
        | inl more ↦ next r (omega (arith, len)) (together 0 (suc n) (suc n + h.0) r (omega arith) (omega arith) (omega (arith, len)) (head_at ∙ sym last_at) ∙ head_at)
        | inr here ↦
            let z : suc n + h.0 ≡ suc n = omega arith in
            next r (omega (arith, len)) (subst (λ (k : ℕ). place (get_or records k r).owner ≡ place name) z last_at)
      ];
}

-- where the records before are none that stand there
pub from_there : (name : Place) (records : List Record) (size : ℕ) → size ≤ length records → All (λ r. is_below (place r.owner) name ≡ false) (take size records)
    → ((size < length records) → (d : Record) → IsAtOrBelow (place (get_or records size d).owner) name) → IsFrom name records (drop size records)
from_there name records size fits none found = record {
  before = take size records;
  split = sym (take-append-drop size records);
  none = none;
  begins = by (drop size records) refl;
}
  where
    by : (xs : List Record) → drop size records ≡ xs → (xs ≡ []) ⊎ ((first : Record) × (others : List Record) × (xs ≡ first ∷ others) × IsAtOrBelow (place first.owner) name)
    by [] e = inl refl
    by (x ∷ xs) e =
        let len = length-drop size records in
        let more = ap length e in
        let at : get_or records (size + 0) x ≡ x = sym (get_or-drop size records 0 x) ∙ ap (λ (ys : List Record). get_or ys 0 x) e in
        let z : size + 0 ≡ size = omega arith in
        inr (x, xs, refl, subst (λ (r : Record). IsAtOrBelow (place r.owner) name) (ap (λ (k : ℕ). get_or records k x) (sym z) ∙ at) (found (omega (arith, len, more)) x))

-- a test that fails where its negation passes, and the other way round
pub not_true : (b : Bool) → not b ≡ true → b ≡ false
not_true true h = absurd (true≢false (sym h))
not_true false h = refl

pub not_false : (b : Bool) → not b ≡ false → b ≡ true
not_false true h = refl
not_false false h = absurd (true≢false h)
