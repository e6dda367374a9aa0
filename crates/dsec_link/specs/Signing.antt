-- Signed bytes in pieces, as the code writes them (RFC 4034 3.1.8.1).
use Rattle.std.specs.Prelude.{ℕ, nat_lt, List, [], ◌∷◌, ◌++◌, length, Option, Some, None, if◌then◌else◌}
use Rattle.std.specs.Int.{w16, w32, to_be_bytes}
use Rattle.dsec_spec.specs.Names.{Labels, canonical_octets}
use Rattle.dsec_spec.specs.Records.{Record, Rrsig, set_of, fixed_octets}
use Rattle.dsec_spec.specs.SignedBytes.{rightmost, signed_owner, signed_bytes}

-- the RRSIG's data up to the signature
abbrev pub head_octets : Rrsig → List ℕ
head_octets sig = fixed_octets sig ++ canonical_octets sig.signer

-- a record as it is signed, up to the length of its data
abbrev pub front_octets : Rrsig → Labels → ℕ → ℕ → List ℕ
front_octets sig owner class rtype =
    canonical_octets (signed_owner sig.labels owner) ++ to_be_bytes w16 rtype ++ to_be_bytes w16 class ++ to_be_bytes w32 sig.original_ttl

-- a record as it is signed, by its front and its canonical data
abbrev pub whole_record : List ℕ → List ℕ → List ℕ
whole_record front canonical = front ++ to_be_bytes w16 (length canonical) ++ canonical

-- what is signed of records: of their set, and of no records the RRSIG's data alone
abbrev pub signed_of : Rrsig → List Record → List ℕ
signed_of sig [] = head_octets sig
signed_of sig (first ∷ others) = signed_bytes sig (set_of first others)

-- the closest encloser that a signature counts the labels of, where the owner has more (RFC 4035 5.3.4)
abbrev pub encloser_of : ℕ → Labels → Option Labels
encloser_of labels owner = if nat_lt labels (length owner) then Some (rightmost labels owner) else None
