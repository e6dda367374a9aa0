-- The tests to Bool decide the facts that they stand for.
use Rattle.std.proofs.Common.{◌≡◌, ℕ, ◌<◌, ◌≤◌, ◌%◌, ◌/◌, ◌^◌, ◌==◌, ◌∷◌, ◌++◌, refl, sym, ap, ◌∙◌, arith, length, length-append, take, drop, inl, inr}
use Rattle.std.specs.Prelude.{nat_le}
use Rattle.std.specs.Bool.{Decides}
use Rattle.std.proofs.lemmas.Bool.{leb-true, le-leb, eqb-true, eq-eqb}
use Rattle.std.proofs.lemmas.Bool.Decides.{Decides-and, Decides-like, Decides-ltb}
use Rattle.std.proofs.lemmas.List.{take_at, take-append-drop}
use Rattle.dsec_spec.specs.Names.{Place, place, is_below, is_strictly_below, IsAtOrBelow, IsStrictlyBelow}
use Rattle.dsec_spec.specs.Records.{RecordSet, Key, Rrsig, beside}
use Rattle.dsec_spec.specs.KeyTag.{key_tag}
use Rattle.dsec_spec.specs.Accepts.{Accepts}
use Rattle.dsec_spec.specs.Period.{InPeriod, in_period, seconds_after}
use Rattle.dsec_spec.specs.Signed.{IsZoneKey, Signed, names_key, is_zone_key, signs}
use Rattle.dsec_spec.proofs.CanonicalNames.{same_place_decides}
use Rattle.dsec_spec.proofs.NamesBelow.{at_or_below, same_or_below}

-- two numbers are equal or not
equal_decides : (m n : ℕ) → Decides (m == n) (m ≡ n)
equal_decides m n = (eqb-true m n, eq-eqb m n)

at_most_decides : (m n : ℕ) → Decides (nat_le m n) (m ≤ n)
at_most_decides m n = (leb-true m n, le-leb m n)

-- at or below a name
pub below_decides : (n z : Place) → Decides (is_below n z) (IsAtOrBelow n z)
below_decides n z = (
  λ yes. record { under = drop (length z) n; is = sym (take-append-drop (length z) n) ∙ ap (λ (front : Place). front ++ drop (length z) n) ((same_place_decides (take (length z) n) z).0 yes) },
  λ below. (same_place_decides (take (length z) n) z).1 (ap (take (length z)) below.is ∙ take_at z below.under (length z) refl),
)

-- strictly below a name
pub strictly_below_decides : (n z : Place) → Decides (is_strictly_below n z) (IsStrictlyBelow n z)
strictly_below_decides n z = Decides-like (is_strictly_below n z) there back (Decides-and _ _ (below_decides n z) (Decides-ltb (length z) (length n)))
  where
    there : IsAtOrBelow n z × (length z < length n) → IsStrictlyBelow n z
    there h = elim (same_or_below n z h.0) [
      | inl e ↦ absurd (let l : length n ≡ length z = ap length e in omega (arith, h.1, l))
      | inr strictly ↦ strictly
    ]

    back : IsStrictlyBelow n z → IsAtOrBelow n z × (length z < length n)
    back h = (at_or_below n z h, let l : length n ≡ length (z ++ h.next ∷ h.under) = ap length h.is in omega (arith, l, length-append z (h.next ∷ h.under)))

-- a moment in a period
pub period_decides : (inception expiration t : ℕ) → Decides (in_period inception expiration t) (InPeriod inception expiration t)
period_decides inception expiration t = Decides-like (in_period inception expiration t)
    (λ h. record { ordered = h.0; within = h.1 }) (λ h. (h.ordered, h.within))
    (Decides-and _ _ (Decides-ltb (seconds_after inception expiration) (2 ^ 31)) (at_most_decides (seconds_after inception t) (seconds_after inception expiration)))

-- a key for zone data
pub zone_key_decides : (key : Key) → Decides (is_zone_key key) (IsZoneKey key)
zone_key_decides key = Decides-like (is_zone_key key)
    (λ h. record { flag = h.0; of_dnssec = h.1 }) (λ h. (h.flag, h.of_dnssec))
    (Decides-and _ _ (equal_decides (key.flags / 256 % 2) 1) (equal_decides key.protocol 3))

-- a signature that names a zone and a key
pub record NamesKey (zone : Place) (sig : Rrsig) (key : Key) : Type 0 where
  pub signer : place sig.signer ≡ zone
  pub algorithm : sig.algorithm ≡ key.algorithm
  pub tag : sig.tag ≡ key_tag key

pub names_key_decides : (zone : Place) (sig : Rrsig) (key : Key) → Decides (names_key zone sig key) (NamesKey zone sig key)
names_key_decides zone sig key = Decides-like (names_key zone sig key)
    (λ h. record { signer = h.0.0; algorithm = h.0.1; tag = h.1 }) (λ h. ((h.signer, h.algorithm), h.tag))
    (Decides-and _ _ (Decides-and _ _ (same_place_decides (place sig.signer) zone) (equal_decides sig.algorithm key.algorithm)) (equal_decides sig.tag (key_tag key)))

-- the test of a signature beside a set is the eleven tests of `Signed`
pub signs_decides : (accepts : Accepts) (set : RecordSet) (zone : Place) (t : ℕ) (sig : Rrsig) (key : Key)
    → Decides (signs accepts set zone t sig key) (Signed accepts set (beside set sig) key zone t)
unfolding signs
signs_decides accepts set zone t sig key = Decides-like (signs accepts set zone t sig key)
    (λ h. record {
      same_owner = refl;
      same_class = refl;
      covers = h.0.0.0.0.0.0;
      signer = h.0.0.0.0.0.1.signer;
      within = h.0.0.0.0.1;
      labels = h.0.0.0.1;
      algorithm = h.0.0.0.0.0.1.algorithm;
      tag = h.0.0.0.0.0.1.tag;
      zone_key = h.0.0.1;
      period = h.0.1;
      accepted = h.1;
    })
    (λ s. ((((((s.covers, record { signer = s.signer; algorithm = s.algorithm; tag = s.tag }), s.within), s.labels), s.zone_key), s.period), s.accepted))
    (Decides-and _ _ (Decides-and _ _ (Decides-and _ _ (Decides-and _ _ (Decides-and _ _ (Decides-and _ _
    (equal_decides sig.covered set.rtype) (names_key_decides zone sig key)) (below_decides (place set.owner) zone))
    (at_most_decides sig.labels (length set.owner))) (zone_key_decides key)) (period_decides sig.inception sig.expiration t))
    ((λ yes. yes), (λ yes. yes)))
