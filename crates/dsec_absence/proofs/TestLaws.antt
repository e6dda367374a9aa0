-- What a record shows by the tests, it shows by the relations (RFC 4035 5.4, RFC 6840 4.1).
use Rattle.std.proofs.Common.{◌≡◌, ℕ, ◌&&◌, ◌||◌, Bool, true, false, cond, [], ◌∷◌, refl, sym, ap, ◌∙◌}
use Rattle.std.specs.Prelude.{◌≢◌}
use Rattle.std.proofs.Math.Bool.{not}
use Rattle.std.specs.Ordering.{is_lt}
use Rattle.std.specs.declared.cmp.Ordering.{Ordering}
use Rattle.std.specs.declared.cmp.Ordering.TheVariants.{Less, Equal, Greater}
use Rattle.std.proofs.lemmas.Bool.{true≢false, false≢true, and_parts, eq-eqb, eqb-true}
use Rattle.dsec_cause.specs.declared.cause.Cause.TheVariants.{NsecProvesType, NsecFromApexForDs, NsecFromParent, NsecMatches, NsecShowsEmptyNonTerminal, NsecDnameOrDelegation}
use Rattle.dsec_spec.specs.Names.{Place, place_cmp, same_place, is_below, Before, IsAtOrBelow}
use Rattle.dsec_spec.specs.Numbers.{NS, CNAME, SOA, DS, DNAME}
use Rattle.dsec_spec.specs.DenyingRecords.{NsecAt, owner_of, next_of, has, Matches, Covers}
use Rattle.dsec_spec.proofs.CanonicalNames.{same_place_decides}
use Rattle.dsec_spec.proofs.SignedTests.{below_decides}
use Rattle.dsec_absence.specs.Tests.{Shown, silent, refutes, denies, covers, is_above_cut, is_apex, is_ds_above, own_shows, shows_type, encloser_by, shows_missing}
use Rattle.dsec_absence.proofs.TypeLaws.{IsWithout}
use Rattle.dsec_absence.proofs.NameLaws.{IsPlain, ShowsMissing}
use Rattle.dsec_absence.proofs.EncloserLaws.{encloser_by_is}

less_is : (o : Ordering) → is_lt o ≡ true → o ≡ Less
less_is Less e = refl
less_is Equal e = absurd (false≢true e)
less_is Greater e = absurd (false≢true e)

-- a name that passes the test is in the gap
pub covers_is : (r : NsecAt) (n : Place) → covers r n ≡ true → Covers r n
covers_is r n e =
    let both = and_parts _ _ e in
    record { after = less_is (place_cmp (owner_of r) n) both.0; before = λ b. by (is_lt (place_cmp n (next_of r))) refl both.1 b }
  where
    by : (x : Bool) → is_lt (place_cmp n (next_of r)) ≡ x → (x || not (is_lt (place_cmp (owner_of r) (next_of r)))) ≡ true → Before (owner_of r) (next_of r) → Before n (next_of r)
    by true f g b = less_is (place_cmp n (next_of r)) f
    by false f g b = absurd (false≢true (sym (ap (λ (o : Ordering). not (is_lt o)) b) ∙ g))

-- a disjunction of tests that fails fails in both
neither : (a b : Bool) → (a || b) ≡ false → (a ≡ false) × (b ≡ false)
neither true b e = absurd (true≢false e)
neither false b e = (refl, e)

not_both : (a b : Bool) → (a && not b) ≡ false → a ≡ true → b ≡ true
not_both true true e f = refl
not_both true false e f = absurd (true≢false e)
not_both false b e f = absurd (false≢true f)

neither_both : (a b : Bool) → (a && b) ≡ false → a ≡ true → b ≡ true → ⊥
neither_both true true e f g = true≢false e
neither_both true false e f g = false≢true g
neither_both false b e f g = false≢true f

-- DS is looked for in the zone above, but the root's
pub above_is : (n : Place) (q : ℕ) → is_ds_above n q ≡ true → (q ≡ DS) × (n ≢ [])
above_is [] q e = absurd (false≢true e)
above_is (label ∷ n) q e = (eqb-true q DS e, λ root. absurd cc)

pub not_above_is : (n : Place) (q : ℕ) → is_ds_above n q ≡ false → q ≡ DS → n ≢ [] → ⊥
not_above_is [] q e ds some = some refl
not_above_is (label ∷ n) q e ds some = true≢false (sym (eq-eqb q DS ds) ∙ e)

-- the name's own record, where it denies, is without the type
own_without : (r : NsecAt) (n : Place) (q : ℕ) → own_shows r n q ≡ denies tt → IsWithout r n q
own_without r n q e = by (has r q || has r CNAME) refl (is_ds_above n q) refl e
  where
    yes : Shown (Unit {0})
    yes = denies tt

    bits : (has r q || has r CNAME) ≡ false → (has r q ≡ false) × (has r CNAME ≡ false)
    bits = neither (has r q) (has r CNAME)

    at_parent : (x : Bool) → is_apex r ≡ x → cond x (refutes NsecFromApexForDs) yes ≡ yes → x ≡ false
    at_parent true f g = absurd cc
    at_parent false f g = refl

    at_child : (x : Bool) → is_above_cut r ≡ x → cond x (refutes NsecFromParent) yes ≡ yes → x ≡ false
    at_child true f g = absurd cc
    at_child false f g = refl

    by : (x : Bool) → (has r q || has r CNAME) ≡ x → (y : Bool) → is_ds_above n q ≡ y
        → cond x (refutes NsecProvesType) (cond y (cond (is_apex r) (refutes NsecFromApexForDs) yes) (cond (is_above_cut r) (refutes NsecFromParent) yes)) ≡ yes
        → IsWithout r n q
    by true f y g h = absurd cc
    by false f true g h =
        let off = bits f in
        let apex = at_parent (is_apex r) refl h in
        record {
          no_type = off.0;
          no_alias = off.1;
          not_above = λ other. absurd (other (above_is n q g).0);
          not_below = λ _ _. neither_both (has r NS) (has r SOA) apex;
        }
    by false f false g h =
        let off = bits f in
        let cut = at_child (is_above_cut r) refl h in
        record {
          no_type = off.0;
          no_alias = off.1;
          not_above = λ _. not_both (has r NS) (has r SOA) cut;
          not_below = λ ds some. absurd (not_above_is n q g ds some);
        }

-- what a record that denies a type at a name is: its own, without the type, or one with the name in its gap, and names under it
pub data DeniesType (r : NsecAt) (n : Place) (q : ℕ) : Type 0 where
  by_own : Matches r n → IsWithout r n q → DeniesType r n q
  by_gap : Covers r n → IsAtOrBelow (next_of r) n → DeniesType r n q

pub type_shown : (r : NsecAt) (n : Place) (q : ℕ) → shows_type r n q ≡ denies tt → DeniesType r n q
type_shown r n q e = by (same_place (owner_of r) n) refl (covers r n && is_below (next_of r) n) refl e
  where
    yes : Shown (Unit {0})
    yes = denies tt

    by : (x : Bool) → same_place (owner_of r) n ≡ x → (y : Bool) → (covers r n && is_below (next_of r) n) ≡ y
        → cond x (own_shows r n q) (cond y yes silent) ≡ yes → DeniesType r n q
    by true f y g h = by_own ((same_place_decides (owner_of r) n).0 f) (own_without r n q h)
    by false f true g h = let both = and_parts _ _ g in by_gap (covers_is r n both.0) ((below_decides (next_of r) n).0 both.1)
    by false f false g h = absurd cc

-- what a record that denies a name shows
pub missing_shown : (r : NsecAt) (n c : Place) → shows_missing r n ≡ denies c → ShowsMissing r n c
missing_shown r n c e = by (same_place (owner_of r) n) refl (covers r n) refl (is_below (next_of r) n) refl (is_below n (owner_of r)) refl (has r DNAME || is_above_cut r) refl e
  where
    plain : (has r DNAME || is_above_cut r) ≡ false → IsPlain r
    plain f = let off = neither (has r DNAME) (is_above_cut r) f in record { no_dname = off.0; no_cut = not_both (has r NS) (has r SOA) off.1 }

    shows : covers r n ≡ true → is_below (next_of r) n ≡ false → (IsAtOrBelow n (owner_of r) → IsPlain r) → denies (encloser_by r n) ≡ denies c → ShowsMissing r n c
    shows f g p h =
        let out : IsAtOrBelow (next_of r) n → ⊥ = λ b. true≢false (sym ((below_decides (next_of r) n).1 b) ∙ g) in
        let is : encloser_by r n ≡ c = cc in
        record { around = rw is at (encloser_by_is r n (covers_is r n f) out); not_above_next = out; plain = p }

    by : (v : Bool) → same_place (owner_of r) n ≡ v → (w : Bool) → covers r n ≡ w → (x : Bool) → is_below (next_of r) n ≡ x → (y : Bool) → is_below n (owner_of r) ≡ y → (d : Bool) → (has r DNAME || is_above_cut r) ≡ d
        → cond v (refutes NsecMatches) (cond (not w) silent (cond x (refutes NsecShowsEmptyNonTerminal) (cond (y && d) (refutes NsecDnameOrDelegation) (denies (encloser_by r n))))) ≡ denies c
        → ShowsMissing r n c
    by true f w g x h y i d j k = absurd cc
    by false f false g x h y i d j k = absurd cc
    by false f true g true h y i d j k = absurd cc
    by false f true g false h true i true j k = absurd cc
    by false f true g false h true i false j k = shows g h (λ _. plain j) k
    by false f true g false h false i d j k = shows g h (λ b. absurd (true≢false (sym ((below_decides n (owner_of r)).1 b) ∙ i))) k
