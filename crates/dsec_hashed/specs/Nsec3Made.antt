-- NSEC3 records, made of hashes and types.
use Rattle.std.specs.Prelude.{◌≡◌, ℕ, List, [], ◌∷◌, Some}
use Rattle.dsec_spec.specs.Names.{Labels, place, IsName}
use Rattle.dsec_spec.specs.Numbers.{NSEC3}
use Rattle.dsec_spec.specs.Records.{Record}
use Rattle.dsec_spec.specs.RecordViews.{Hashing, Nsec3, nsec3_of, nsec3_octets}
use Rattle.dsec_spec.specs.Base32hex.{base32hex}
use Rattle.dsec_spec.specs.TypeBitmaps.{IsBitmapOf}
use Rattle.dsec_wire.specs.TypedData.{TypedData}
use Rattle.dsec_hashed.specs.HashedTypes.{Standing, hashed_types}

-- the data are those of an NSEC3 record with this next hash and these types, and read as they were written
pub record IsNsec3Data (how : Hashing) (next types : List ℕ) (it : TypedData) : Type 0 where
  pub nsec3 : Nsec3
  pub hashing : nsec3.hashing ≡ how
  pub next_is : nsec3.next_owner ≡ next
  pub bitmap : IsBitmapOf types nsec3.types
  pub is : it ≡ record { rtype = NSEC3; octets = nsec3_octets nsec3 }
  pub says : nsec3_of (nsec3_octets nsec3) ≡ Some nsec3

-- the record is the NSEC3 record of a name with this hash and what stands there
pub record IsMadeOf (how : Hashing) (apex : Labels) (class ttl : ℕ) (one : Standing) (next : List ℕ) (r : Record) : Type 0 where
  pub it : TypedData
  pub data_is : IsNsec3Data how next (hashed_types (place apex) one) it
  pub is : r ≡ record { owner = base32hex one.hash ∷ apex; class = class; rtype = it.rtype; ttl = ttl; rdata = it.octets }
  pub owner : IsName (base32hex one.hash ∷ apex)

-- the hash of the first; where there is none, the one given
abbrev pub hash_after : List ℕ → List Standing → List ℕ
hash_after hash [] = hash
hash_after hash (one ∷ standing) = one.hash

-- one record of each, with the next one's hash, and after the last this one
abbrev pub AreMade : Hashing → Labels → ℕ → ℕ → List ℕ → List Standing → List Record → Type 0
AreMade how apex class ttl first [] [] = Unit {0}
AreMade how apex class ttl first (one ∷ standing) (r ∷ nsec3s) = IsMadeOf how apex class ttl one (hash_after first standing) r × AreMade how apex class ttl first standing nsec3s
AreMade how apex class ttl first _ _ = ⊥

-- the same in a circle
abbrev pub AreMadeOf : Hashing → Labels → ℕ → ℕ → List Standing → List Record → Type 0
AreMadeOf how apex class ttl standing nsec3s = AreMade how apex class ttl (hash_after [] standing) standing nsec3s
