-- The hash that the first label of an owner writes, by the owner's octets on the wire (RFC 1035 3.1, RFC 5155 3.3).
use Rattle.std.proofs.Common.{◌≡◌, ℕ, ◌≤◌, List, [], ◌∷◌, ◌++◌, length, Option, None, append_assoc, refl, sym, ap, ◌∙◌}
use Rattle.std.specs.List.{flat_map}
use Rattle.std.proofs.lemmas.List.Elements.{recursion_from_All}
use Rattle.dsec_spec.specs.Names.{Labels, IsLabel, IsName, label_octets, wire_octets}
use Rattle.dsec_spec.specs.Base32hex.{octets_in_base32hex}
use Rattle.dsec_nodes.specs.MissingByHash.{owner_hash_in}

-- the root writes none
pub root_writes_none : (owner : Labels) → owner ≡ [] → None ≡ owner_hash_in owner
root_writes_none owner e = sym (ap owner_hash_in e)

-- another writes what its first label does
pub first_writes : (owner : Labels) (octets : List ℕ) (hash : Option (List ℕ)) → (owner ≡ [] → ⊥) → IsName owner → octets ≡ wire_octets owner
    → ((label rest : List ℕ) → octets ≡ length label ∷ label ++ rest → length label ≤ 63 → hash ≡ octets_in_base32hex label) → hash ≡ owner_hash_in owner
first_writes [] octets hash some named is writes = absurd (some refl)
first_writes (label ∷ above) octets hash some named is writes =
    writes label (wire_octets above) (is ∙ append_assoc (label_octets label) (flat_map label_octets above) (0 ∷ [])) (recursion_from_All IsLabel (label ∷ above) named.labels).0.at_most
