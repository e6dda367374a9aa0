-- The SOA set that counts, and why none does (RFC 2308 2.1, RFC 4033 2).
use Rattle.std.proofs.Common.{◌≡◌, ◌≢◌, ℕ, ◌<◌, ◌&&◌, ◌==◌, Bool, true, false, cond, List, length, get_or, Option, Some, None, refl, sym, ◌∙◌}
use Rattle.std.specs.Prelude.{Contains}
use Rattle.std.specs.List.{list_any}
use Rattle.std.proofs.Math.Bool.{not}
use Rattle.std.proofs.lemmas.Bool.{true≢false, and_parts, eqb-true, eq-eqb}
use Rattle.std.proofs.lemmas.List.Quantifiers.{position-Some}
use Rattle.dsec_cause.specs.declared.cause.Cause.{Cause}
use Rattle.dsec_cause.specs.declared.cause.Cause.TheVariants.{SoaWrongClass, SoaWrongName}
use Rattle.dsec_spec.specs.Names.{Place, place, is_below, IsAtOrBelow, IsStrictlyBelow}
use Rattle.dsec_spec.specs.Numbers.{SOA}
use Rattle.dsec_spec.specs.Groups.{Group}
use Rattle.dsec_spec.specs.Islands.{is_above}
use Rattle.dsec_spec.proofs.SignedTests.{below_decides, strictly_below_decides}
use Rattle.dsec_spec.proofs.Members.{some_passes}
use Rattle.dsec_absence.specs.Replies.{is_soa, is_soa_for, IsSoaFor, soa_at, is_soa_elsewhere, is_other_soa, no_soa_cause}

not_true : (b : Bool) → not b ≡ true → b ≡ false
not_true true e = absurd (true≢false (sym e))
not_true false e = refl

not_above : (top : Option Place) (p : Place) → is_above top p ≡ false → (island : Place) → top ≡ Some island → IsStrictlyBelow island p → ⊥
not_above None p e island is below = absurd cc
not_above (Some t) p e island is below =
    let same : t ≡ island = cc in
    true≢false (sym ((strictly_below_decides t p).1 (rw same below)) ∙ e)

-- a set that passes the test counts
pub soa_counts : (top : Option Place) (n : Place) (class : ℕ) (g : Group) → is_soa_for top n class g ≡ true → IsSoaFor top n class g
soa_counts top n class g e =
    let last = and_parts (is_soa class g && is_below n (place g.owner)) (not (is_above top (place g.owner))) e in
    let front = and_parts (is_soa class g) (is_below n (place g.owner)) last.0 in
    let both = and_parts (g.rtype == SOA) (g.class == class) front.0 in
    record {
      of_type = eqb-true g.rtype SOA both.0;
      of_class = eqb-true g.class class both.1;
      over = (below_decides n (place g.owner)).0 front.1;
      in_island = not_above top (place g.owner) (not_true _ last.1);
    }

module _ {A : Type 0} (n : Place) (class : ℕ) (group : A → Group) (xs : List A) where
  -- the one at the index counts, and none before it
  pub first_soa : (top : Option Place) (i : ℕ) (d : A) → soa_at top n class group xs ≡ Some i → (i < length xs) × IsSoaFor top n class (group (get_or xs i d))
  first_soa top i d e =
      let at = position-Some (λ (x : A). is_soa_for top n class (group x)) xs i d e in
      (at.0, soa_counts top n class (group (get_or xs i d)) at.1)

  same : (c d : Cause) → Some c ≡ Some d → c ≡ d
  same c d e = cc

  -- one of the class isn't at or above the name
  pub wrong_name : no_soa_cause n class group xs ≡ Some SoaWrongName → (x : A) × Contains xs x × ((group x).rtype ≡ SOA) × ((group x).class ≡ class) × (IsAtOrBelow n (place (group x).owner) → ⊥)
  wrong_name e = by (list_any (λ (x : A). is_soa_elsewhere n class (group x)) xs) refl (list_any (λ (x : A). is_other_soa class (group x)) xs) e
    where
      by : (p : Bool) → list_any (λ (x : A). is_soa_elsewhere n class (group x)) xs ≡ p → (q : Bool) → cond p (Some SoaWrongName) (cond q (Some SoaWrongClass) None) ≡ Some SoaWrongName
          → (x : A) × Contains xs x × ((group x).rtype ≡ SOA) × ((group x).class ≡ class) × (IsAtOrBelow n (place (group x).owner) → ⊥)
      by true f q g =
          let one = some_passes (λ (x : A). is_soa_elsewhere n class (group x)) xs f in
          let front = and_parts (is_soa class (group one.0)) (not (is_below n (place (group one.0).owner))) one.2 in
          let both = and_parts ((group one.0).rtype == SOA) ((group one.0).class == class) front.0 in (
            one.0,
            one.1,
            eqb-true (group one.0).rtype SOA both.0,
            eqb-true (group one.0).class class both.1,
            λ below. true≢false (sym ((below_decides n (place (group one.0).owner)).1 below) ∙ not_true _ front.1),
          )
      by false f true g = absurd cc
      by false f false g = absurd cc

  -- one is of another class
  pub wrong_class : no_soa_cause n class group xs ≡ Some SoaWrongClass → (x : A) × Contains xs x × ((group x).rtype ≡ SOA) × ((group x).class ≢ class)
  wrong_class e = by (list_any (λ (x : A). is_soa_elsewhere n class (group x)) xs) (list_any (λ (x : A). is_other_soa class (group x)) xs) refl e
    where
      by : (p q : Bool) → list_any (λ (x : A). is_other_soa class (group x)) xs ≡ q → cond p (Some SoaWrongName) (cond q (Some SoaWrongClass) None) ≡ Some SoaWrongClass
          → (x : A) × Contains xs x × ((group x).rtype ≡ SOA) × ((group x).class ≢ class)
      by true q f g = absurd cc
      by false false f g = absurd cc
      by false true f g =
          let one = some_passes (λ (x : A). is_other_soa class (group x)) xs f in
          let both = and_parts ((group one.0).rtype == SOA) (not ((group one.0).class == class)) one.2 in
          (one.0, one.1, eqb-true (group one.0).rtype SOA both.0, λ is. true≢false (sym (eq-eqb (group one.0).class class is) ∙ not_true _ both.1))
