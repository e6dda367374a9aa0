-- A hash as a label before the apex is a name.
use Rattle.std.proofs.Common.{◌≡◌, ℕ, zero, suc, ◌+◌, ◌*◌, ◌/◌, ◌≤◌, List, [], ◌∷◌, ◌++◌, length, sym, ap, ◌∙◌, arith, append_assoc}
use Rattle.std.specs.Prelude.{All}
use Rattle.std.specs.List.{flat_map}
use Rattle.std.proofs.lemmas.List.Sums.{sum_by-cons}
use Rattle.dsec_spec.specs.Names.{Labels, IsLabel, IsName, wire_length, label_octets, wire_octets}
use Rattle.dsec_spec.specs.Base32hex.{base32hex}
use Rattle.dsec_spec.proofs.Base32hexLaws.{length-base32hex}
use Rattle.dsec_spec.proofs.CanonicalNames.{wire_octets_injective}

label_size : (hash : List ℕ) → length hash ≡ 20 → length (base32hex hash) ≡ 32
label_size hash e = length-base32hex hash ∙ ap (λ (n : ℕ). (8 * n + 4) / 5) e

pub owner_name : (hash : List ℕ) (apex : Labels) → length hash ≡ 20 → IsName apex → wire_length apex ≤ 222 → IsName (base32hex hash ∷ apex)
owner_name hash apex e name short = record {
  labels = each;
  at_most = let size = label_size hash e in omega (arith, size, short, sum_by-cons (λ (label : List ℕ). length label + 1) (base32hex hash) apex);
}
  where
    each : All IsLabel (base32hex hash ∷ apex)
    each zero d lt = let size = label_size hash e in record { not_empty = omega (arith, size); at_most = omega (arith, size) }
    each (suc k) d lt = name.labels k d (omega (arith, lt))

owner_octets : (hash : List ℕ) (apex : Labels) → length hash ≡ 20 → ((32 ∷ []) ++ base32hex hash) ++ wire_octets apex ≡ wire_octets (base32hex hash ∷ apex)
owner_octets hash apex e =
    ap (λ (n : ℕ). n ∷ (base32hex hash ++ wire_octets apex)) (sym (label_size hash e)) ∙ sym (append_assoc (label_octets (base32hex hash)) (flat_map label_octets apex) (0 ∷ []))

pub owner_is : (hash octets : List ℕ) (apex owner : Labels) → length hash ≡ 20 → octets ≡ ((32 ∷ []) ++ base32hex hash) ++ wire_octets apex → octets ≡ wire_octets owner → owner ≡ base32hex hash ∷ apex
owner_is hash octets apex owner e is reads = wire_octets_injective owner (base32hex hash ∷ apex) (sym reads ∙ (is ∙ owner_octets hash apex e))
