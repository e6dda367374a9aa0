-- NSEC and NSEC3 records at their owners: which names they match and cover (RFC 4034 4, RFC 5155 1.3, 3).
use Rattle.std.specs.Prelude.{◌≡◌, ◌⊎◌, ℕ, ◌%◌, ◌==◌, List, Bool, reverse}
use Rattle.std.specs.Cmp.Lexicographic.{slice_cmp}
use Rattle.std.specs.Ordering.{nat_cmp}
use Rattle.std.specs.declared.cmp.Ordering.TheVariants.{Less}
use Rattle.dsec_spec.specs.Names.{Labels, Place, place, wire_octets, Before}
use Rattle.dsec_spec.specs.RecordViews.{Nsec, Hashing, Nsec3}
use Rattle.dsec_spec.specs.Digests.{iterated_hash}
use Rattle.dsec_spec.specs.TypeBitmaps.{has_type}

-- an NSEC record: its owner, and what its data say
pub record NsecAt : Type 0 where
  pub owner : Labels
  pub says : Nsec

abbrev pub owner_of : NsecAt → Place
owner_of r = place r.owner

abbrev pub next_of : NsecAt → Place
next_of r = place r.says.next_name

-- its bitmap has the type
abbrev pub has : NsecAt → ℕ → Bool
has r t = has_type r.says.types t

-- the record is the name's own
abbrev pub Matches : NsecAt → Place → Type 0
Matches r n = owner_of r ≡ n

-- n is after the owner, and before next where next is after the owner
pub record IsInRange (owner next n : Place) : Type 0 where
  pub after : Before owner n
  pub before : Before owner next → Before n next

-- the name is in the record's gap (RFC 4034 4.1.1)
abbrev pub Covers : NsecAt → Place → Type 0
Covers r n = IsInRange (owner_of r) (next_of r) n

-- an NSEC3 record: the zone that its owner is a label above, the hash that this label writes, and what its data say
pub record Nsec3At : Type 0 where
  pub zone : Place
  pub owner_hash : List ℕ
  pub says : Nsec3

abbrev pub has_hashed : Nsec3At → ℕ → Bool
has_hashed r t = has_type r.says.types t

-- the flag Opt-Out (RFC 5155 3.1.2.1)
abbrev pub opts_out : Nsec3At → Bool
opts_out r = r.says.hashing.flags % 2 == 1

-- a name's hash: of its canonical octets, with this salt and so many iterations (RFC 5155 5)
abbrev pub hash_by : Hashing → Place → List ℕ
hash_by how n = iterated_hash how.salt (wire_octets (reverse n)) how.iterations

abbrev pub hashed_by : Nsec3At → Place → List ℕ
hashed_by r n = hash_by r.says.hashing n

-- the order of hashes (RFC 5155 1.3, hash order)
abbrev pub HashBefore : List ℕ → List ℕ → Type 0
HashBefore x y = slice_cmp nat_cmp x y ≡ Less

-- x is strictly inside the arc from a to b of the circle of hashes; the arc from a hash to itself, or to one before it, goes by the end
abbrev pub IsBetween : List ℕ → List ℕ → List ℕ → Type 0
IsBetween a b x = (HashBefore a x × HashBefore x b) ⊎ ((HashBefore a b → ⊥) × (HashBefore a x ⊎ HashBefore x b))

-- the record is the name's own (RFC 5155 1.3, to match)
abbrev pub MatchesHash : Nsec3At → Place → Type 0
MatchesHash r n = hashed_by r n ≡ r.owner_hash

-- the name's hash is in the record's gap (RFC 5155 1.3, to cover)
abbrev pub CoversHash : Nsec3At → Place → Type 0
CoversHash r n = IsBetween r.owner_hash r.says.next_owner (hashed_by r n)
