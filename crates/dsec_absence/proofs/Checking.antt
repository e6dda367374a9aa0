-- Zones and records that a test finds right: so that examples can be worked out (RFC 1034 4.2, RFC 4034 4).
use Rattle.std.proofs.Common.{◌≡◌, ℕ, zero, suc, ◌/◌, ◌==◌, ◌&&◌, ◌||◌, ◌<◌, ◌≤◌, Bool, true, false, List, [], ◌∷◌, length, Option, Some, refl, sym, ap, ◌∙◌, subst, inl, inr, ◌⊎◌, arith, ◌↔◌, IsTrue}
use Rattle.std.specs.Prelude.{nat_lt, Contains, unwrap_or}
use Rattle.std.specs.List.{list_any}
use Rattle.std.specs.Ordering.{is_lt}
use Rattle.std.proofs.Math.Bool.{not}
use Rattle.std.specs.declared.cmp.Ordering.{Ordering}
use Rattle.std.specs.declared.cmp.Ordering.TheVariants.{Less, Equal, Greater}
use Rattle.std.proofs.lemmas.Bool.{true≢false, and_parts, and_from, eqb-true, eq-eqb, ltb-true, cases_lt, false_from_ne_true}
use Rattle.dsec_spec.specs.Names.{Place, place_cmp, same_place, is_below, is_strictly_below}
use Rattle.dsec_spec.specs.Numbers.{NS, SOA, NSEC}
use Rattle.dsec_spec.specs.RecordData.{Block, blocks_in}
use Rattle.dsec_spec.specs.TypeBitmaps.{block_has, blocks_have, has_type}
use Rattle.dsec_spec.specs.Zones.{Zone, IsZone, Owns}
use Rattle.dsec_spec.specs.DenyingRecords.{NsecAt, owner_of, next_of, has}
use Rattle.dsec_spec.specs.DenialTruth.{IsNsecTrue, IsGap}
use Rattle.dsec_spec.proofs.CanonicalNames.{same_place_decides}
use Rattle.dsec_spec.proofs.SignedTests.{below_decides, strictly_below_decides}
use Rattle.dsec_spec.proofs.Members.{none_passes, some_passes}
use Rattle.dsec_spec.proofs.Choosing.{passes}

less_is : (o : Ordering) → is_lt o ≡ true → o ≡ Less
less_is Less e = refl
less_is Equal e = absurd (true≢false (sym e))
less_is Greater e = absurd (true≢false (sym e))

-- whether a set is of this type at this name
abbrev is_set : Place → ℕ → Place × ℕ → Bool
is_set n t s = same_place s.0 n && (s.1 == t)

abbrev pub owns : Zone → Place → ℕ → Bool
owns z n t = list_any (is_set n t) z.sets

pub owns_is : (z : Zone) (n : Place) (t : ℕ) → owns z n t ≡ true → Owns z n t
owns_is z n t e =
    let found = some_passes (is_set n t) z.sets e in
    let both = and_parts _ _ found.2 in
    let name = (same_place_decides found.0.0 n).0 both.0 in
    let rtype = eqb-true found.0.1 t both.1 in
    subst (λ (p : Place). Contains z.sets (p, t)) name (subst (λ (u : ℕ). Contains z.sets (found.0.0, u)) rtype found.1)

pub owns_told : (z : Zone) (n : Place) (t : ℕ) → Owns z n t → owns z n t ≡ true
owns_told z n t o = passes (is_set n t) z.sets (n, t) o (and_from _ _ ((same_place_decides n n).1 refl) (eq-eqb t t refl))

-- whether each set is at or below the apex, an SOA stands elsewhere, and a set stands strictly below a delegation
abbrev is_outside : Zone → Place × ℕ → Bool
is_outside z s = not (is_below s.0 z.apex)

abbrev is_second_soa : Zone → Place × ℕ → Bool
is_second_soa z s = (s.1 == SOA) && not (same_place s.0 z.apex)

abbrev is_over_set : Zone → Place × ℕ → Bool
is_over_set z s = ((s.1 == NS) && not (same_place s.0 z.apex)) && list_any (λ (t : Place × ℕ). is_strictly_below t.0 s.0) z.sets

-- whether it is a zone
pub record PassesAsZone (z : Zone) : Type 0 where
  pub soa : owns z z.apex SOA ≡ true
  pub ns : owns z z.apex NS ≡ true
  pub outside : list_any (is_outside z) z.sets ≡ false
  pub one_soa : list_any (is_second_soa z) z.sets ≡ false
  pub cuts : list_any (is_over_set z) z.sets ≡ false

not_false : (b : Bool) → not b ≡ false → b ≡ true
not_false true e = refl
not_false false e = absurd (true≢false e)

from_not : (a b : Bool) → (a && not b) ≡ false → a ≡ true → b ≡ true
from_not true true e f = refl
from_not true false e f = absurd (true≢false e)
from_not false b e f = absurd (true≢false (sym f))

pub zone_is : (z : Zone) → PassesAsZone z → IsZone z
zone_is z p = record {
  soa = owns_is z z.apex SOA p.soa;
  ns = owns_is z z.apex NS p.ns;
  within = λ n t o. (below_decides n z.apex).0 (not_false _ (none_passes (is_outside z) z.sets p.outside (n, t) o));
  one_soa = λ n o. (same_place_decides n z.apex).0 (from_not _ _ (none_passes (is_second_soa z) z.sets p.one_soa (n, SOA) o) (eq-eqb SOA SOA refl));
  nothing_below_cuts = λ cut n d below s.
      let under = passes (λ (t : Place × ℕ). is_strictly_below t.0 cut) z.sets (n, s.0) s.1 ((strictly_below_decides n cut).1 below) in
      let other = false_from_ne_true (same_place cut z.apex) (λ e. d.below ((same_place_decides cut z.apex).0 e)) in
      let here = and_from _ _ (and_from _ _ (eq-eqb NS NS refl) (ap not other)) under in
      true≢false (sym here ∙ none_passes (is_over_set z) z.sets p.cuts (cut, NS) d.ns);
}

-- a test that passes below a number
unfoldable pub below : (ℕ → Bool) → ℕ → Bool
below test zero = true
below test (suc n) = test n && below test n

below_each : (test : ℕ → Bool) (n : ℕ) → below test n ≡ true → (t : ℕ) → t < n → test t ≡ true
unfolding below
below_each test zero e t lt = absurd (omega (arith, lt))
below_each test (suc n) e t lt =
    elim (cases_lt t n) [
      | inl less ↦ below_each test n (and_parts (test n) (below test n) e).1 t less
      | inr more ↦ let same : n ≡ t = omega (arith, lt, more) in subst (λ (u : ℕ). test u ≡ true) same (and_parts (test n) (below test n) e).0
    ]

-- whether two tests agree
abbrev pub agree : Bool → Bool → Bool
agree a b = (a && b) || (not a && not b)

agreed : (a b : Bool) → agree a b ≡ true → a ≡ b
agreed true true e = refl
agreed true false e = absurd (true≢false (sym e))
agreed false true e = absurd (true≢false (sym e))
agreed false false e = refl

-- whether a set is in the gap between two names, or after the first
abbrev is_between : Place → Place → Place × ℕ → Bool
is_between owner next s = is_lt (place_cmp owner s.0) && is_lt (place_cmp s.0 next)

abbrev is_after : Place → Place × ℕ → Bool
is_after owner s = is_lt (place_cmp owner s.0)

-- whether the gap is empty: to the next name, or from the last name to the apex
pub data PassesAsGap (z : Zone) (owner next : Place) : Type 0 where
  to_next : is_lt (place_cmp owner next) ≡ true → list_any (is_between owner next) z.sets ≡ false → PassesAsGap z owner next
  to_apex : next ≡ z.apex → list_any (is_after owner) z.sets ≡ false → PassesAsGap z owner next

gap_is : (z : Zone) (owner next : Place) → PassesAsGap z owner next → IsGap z owner next
gap_is z owner next (to_next up none) = inl (
  less_is (place_cmp owner next) up,
  λ m s after before. true≢false (sym (and_from _ _ (ap is_lt after) (ap is_lt before)) ∙ none_passes (is_between owner next) z.sets none (m, s.0) s.1),
)
gap_is z owner next (to_apex top none) = inr (top, λ m s after. true≢false (sym (ap is_lt after) ∙ none_passes (is_after owner) z.sets none (m, s.0) s.1))

-- whether a type is past the first window
abbrev is_large : Place × ℕ → Bool
is_large s = not (nat_lt s.1 256)

-- whether a record is true of a zone of types of the first window
pub record PassesAsNsec (z : Zone) (r : NsecAt) : Type 0 where
  pub block : Block
  pub one : blocks_in (length r.says.types) r.says.types ≡ Some (block ∷ [])
  pub window : block.window ≡ 0
  pub small : list_any is_large z.sets ≡ false
  pub types : below (λ t. agree (has r t) (owns z (owner_of r) t)) 256 ≡ true
  pub owner : owns z (owner_of r) NSEC ≡ true
  pub next : owns z (next_of r) NSEC ≡ true
  pub gap : PassesAsGap z (owner_of r) (next_of r)

left_one : (a : Bool) → (a || false) ≡ true → a ≡ true
left_one true e = refl
left_one false e = e

-- whether a bitmap has the types of a name in a zone of types of the first window
pub record PassesAsTypes (z : Zone) (n : Place) (types : List ℕ) : Type 0 where
  pub block : Block
  pub one : blocks_in (length types) types ≡ Some (block ∷ [])
  pub window : block.window ≡ 0
  pub small : list_any is_large z.sets ≡ false
  pub agree_each : below (λ t. agree (has_type types t) (owns z n t)) 256 ≡ true

pub types_are : (z : Zone) (n : Place) (types : List ℕ) → PassesAsTypes z n types → (t : ℕ) → t < 65536 → IsTrue (has_type types t) ↔ Owns z n t
types_are z n types p t small = (there (cases_lt t 256), back)
  where
    same : t < 256 → has_type types t ≡ owns z n t
    same lt = agreed (has_type types t) (owns z n t) (below_each (λ u. agree (has_type types u) (owns z n u)) 256 p.agree_each t lt)

    in_window : has_type types t ≡ true → t < 256
    in_window e =
        let blocks : blocks_have (p.block ∷ []) t ≡ true = ap (λ (bs : Option (List Block)). blocks_have (unwrap_or bs []) t) (sym p.one) ∙ e in
        let both = and_parts _ _ (left_one (block_has t p.block) blocks) in
        let window = eqb-true p.block.window (t / 256) both.0 in
        omega (arith, window, p.window)

    there : (t < 256) ⊎ (256 ≤ t) → IsTrue (has_type types t) → Owns z n t
    there (inl lt) e = owns_is z n t (sym (same lt) ∙ e)
    there (inr ge) e = absurd (let lt = in_window e in omega (arith, lt, ge))

    back : Owns z n t → IsTrue (has_type types t)
    back o =
        let lt = ltb-true t 256 (not_false (nat_lt t 256) (none_passes is_large z.sets p.small (n, t) o)) in
        same lt ∙ owns_told z n t o

pub nsec_is : (z : Zone) (r : NsecAt) → PassesAsNsec z r → IsNsecTrue z r
nsec_is z r p = record {
  owner = (NSEC, owns_is z (owner_of r) NSEC p.owner);
  types = types_are z (owner_of r) r.says.types (record { block = p.block; one = p.one; window = p.window; small = p.small; agree_each = p.types });
  next = (NSEC, owns_is z (next_of r) NSEC p.next);
  gap = gap_is z (owner_of r) (next_of r) p.gap;
}
