-- The octets that a signature is over (RFC 4034 3.1.8.1, 6.2, 6.3; RFC 4035 5.3.2).
use Rattle.std.specs.Prelude.{◌≢◌, ℕ, ◌-◌, ◌<◌, nat_lt, List, [], ◌∷◌, ◌++◌, length, drop, map, if◌then◌else◌}
use Rattle.std.specs.List.{flat_map}
use Rattle.std.specs.Int.{w16, w32, to_be_bytes}
use Rattle.std.specs.Ordering.{nat_cmp, is_lt}
use Rattle.std.specs.Cmp.Lexicographic.{slice_cmp}
use Rattle.dsec_spec.specs.Names.{Labels, place, asterisk, canonical_octets}
use Rattle.dsec_spec.specs.RecordData.{canonical_data}
use Rattle.dsec_spec.specs.Records.{RecordSet, Rrsig, fixed_octets}

-- one more string among strings in ascending order
unfoldable pub inserted : List ℕ → List (List ℕ) → List (List ℕ)
inserted x [] = x ∷ []
inserted x (y ∷ ys) = if is_lt (slice_cmp nat_cmp y x) then y ∷ inserted x ys else x ∷ y ∷ ys

-- the strings of octets in ascending order, a missing octet first (RFC 4034 6.3)
unfoldable pub ascending : List (List ℕ) → List (List ℕ)
ascending [] = []
ascending (x ∷ xs) = inserted x (ascending xs)

-- the name of the last labels of a name, so many of them
abbrev pub rightmost : ℕ → Labels → Labels
rightmost labels name = drop (length name - labels) name

-- the owner as it is signed: a wildcard, where the signature counts fewer labels than the owner has (RFC 4035 5.3.2)
abbrev pub signed_owner : ℕ → Labels → Labels
signed_owner labels owner = if nat_lt labels (length owner) then asterisk ∷ rightmost labels owner else owner

-- a set that a wildcard's signature stands beside, under another name than the wildcard's own (RFC 4035 5.3.4)
pub record IsExpansion (labels : ℕ) (owner : Labels) : Type 0 where
  pub fewer : labels < length owner
  pub elsewhere : place owner ≢ place (signed_owner labels owner)

-- a record as it is signed: owner, type, class, original TTL, length and canonical data (RFC 4034 3.1.8.1)
abbrev pub signed_record : Rrsig → RecordSet → List ℕ → List ℕ
signed_record sig set canonical =
    canonical_octets (signed_owner sig.labels set.owner) ++ to_be_bytes w16 set.rtype ++ to_be_bytes w16 set.class
    ++ to_be_bytes w32 sig.original_ttl ++ to_be_bytes w16 (length canonical) ++ canonical

-- what is signed: the RRSIG's data up to the signature, and the records in ascending order of canonical data (RFC 4034 3.1.8.1)
abbrev pub signed_bytes : Rrsig → RecordSet → List ℕ
signed_bytes sig set =
    fixed_octets sig ++ canonical_octets sig.signer
    ++ flat_map (signed_record sig set) (ascending (map (canonical_data set.rtype) set.datas))
