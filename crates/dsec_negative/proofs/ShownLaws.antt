-- The tests of a record, one by one.
use Rattle.std.proofs.Common.{◌≡◌, ◌↔◌, ℕ, ◌==◌, ◌&&◌, ◌||◌, Bool, true, false, [], ◌∷◌, length, refl, sym, ap, ◌∙◌, arith, IsTrue}
use Rattle.std.proofs.Math.Bool.{not}
use Rattle.std.proofs.lemmas.Bool.{true≢false, eq-eqb}
use Rattle.dsec_cause.specs.declared.cause.Cause.TheVariants.{NsecFromApexForDs, NsecFromParent, NsecDnameOrDelegation}
use Rattle.dsec_spec.specs.Names.{Labels, Place, place, same_place, is_below}
use Rattle.dsec_spec.specs.Numbers.{CNAME, DS, DNAME}
use Rattle.dsec_spec.specs.DenyingRecords.{NsecAt, owner_of, next_of, has}
use Rattle.dsec_absence.specs.Tests.{Shown, refutes, denies, covers, is_above_cut, is_apex, is_ds_above, own_shows, shows_type, encloser_by, shows_missing}
use Rattle.dsec_spec.proofs.PlaceLemmas.{length_of_place}

module _ (r : NsecAt) (n : Place) (q : ℕ) where
  module _ (no_type : has r q ≡ false) (no_alias : has r CNAME ≡ false) where
    pub own_apex : is_ds_above n q ≡ true → is_apex r ≡ true → refutes NsecFromApexForDs ≡ own_shows r n q
    own_apex d p = rw (no_type, no_alias, d, p) refl

    pub own_ds : is_ds_above n q ≡ true → is_apex r ≡ false → denies tt ≡ own_shows r n q
    own_ds d p = rw (no_type, no_alias, d, p) refl

    pub own_parent : is_ds_above n q ≡ false → is_above_cut r ≡ true → refutes NsecFromParent ≡ own_shows r n q
    own_parent d p = rw (no_type, no_alias, d, p) refl

    pub own_type : is_ds_above n q ≡ false → is_above_cut r ≡ false → denies tt ≡ own_shows r n q
    own_type d p = rw (no_type, no_alias, d, p) refl

  pub shown_own : (shown : Shown (Unit {0})) → same_place (owner_of r) n ≡ true → shown ≡ own_shows r n q → shown ≡ shows_type r n q
  shown_own shown same is = rw same is

module _ (r : NsecAt) (n : Place) where
  module _ (not_own : same_place (owner_of r) n ≡ false) (in_gap : covers r n ≡ true) (no_below : is_below (next_of r) n ≡ false) where
    pub missing_refused : (is_below n (owner_of r) && (has r DNAME || is_above_cut r)) ≡ true → refutes NsecDnameOrDelegation ≡ shows_missing r n
    missing_refused e = rw (not_own, in_gap, no_below, e) refl

    pub missing_denied : (c : Place) → (is_below n (owner_of r) && (has r DNAME || is_above_cut r)) ≡ false → c ≡ encloser_by r n → denies c ≡ shows_missing r n
    missing_denied c e is = rw (not_own, in_gap, no_below, e) (ap denies is)

-- a conjunction whose first test passes
pub and_then : (a b x : Bool) → a ≡ true → x ≡ b → x ≡ (a && b)
and_then a b x e f = f ∙ ap (λ (y : Bool). y && b) (sym e)

-- a disjunction whose first test fails
pub or_else : (a b x : Bool) → a ≡ false → x ≡ b → x ≡ (a || b)
or_else a b x e f = f ∙ ap (λ (y : Bool). y || b) (sym e)

root_place : (p : Place) → length p ≡ 0 → p ≡ []
root_place [] e = refl
root_place (label ∷ p) e = absurd (omega (arith, e))

above : (p : Place) (q : ℕ) → (p ≡ [] → ⊥) → is_ds_above p q ≡ (q == DS)
above [] q some = absurd (some refl)
above (label ∷ p) q some = refl

-- a DS question is for the zone above but at the root
pub ds_above_is : (n : Labels) (q : ℕ) (root : Bool) → IsTrue root ↔ (n ≡ []) → q ≡ DS → not root ≡ is_ds_above (place n) q
ds_above_is n q true at ds = ap (λ (m : Labels). is_ds_above (place m) q) (sym (at.0 refl))
ds_above_is n q false at ds = sym (above (place n) q (λ e. true≢false (sym (at.1 (empty e)))) ∙ eq-eqb q DS ds)
  where
    none : (m : Labels) → length m ≡ 0 → m ≡ []
    none [] e = refl
    none (label ∷ m) e = absurd (omega (arith, e))

    empty : place n ≡ [] → n ≡ []
    empty e = none n (sym (length_of_place n) ∙ ap length e)
