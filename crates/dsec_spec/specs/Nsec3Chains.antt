-- The chain of NSEC3 records of a zone (RFC 5155 3, 4, 7.1).
use Rattle.std.specs.Prelude.{◌≡◌, ◌↔◌, ℕ, List, [], ◌∷◌, AllPairs, Contains, Some}
use Rattle.dsec_spec.specs.Names.{Labels, Place, place, IsName}
use Rattle.dsec_spec.specs.Numbers.{NSEC3, NSEC3PARAM}
use Rattle.dsec_spec.specs.Records.{Record}
use Rattle.dsec_spec.specs.RecordViews.{Hashing, hashing_octets, Nsec3, nsec3_of, nsec3_octets}
use Rattle.dsec_spec.specs.Base32hex.{base32hex}
use Rattle.dsec_spec.specs.TypeBitmaps.{IsBitmapOf}
use Rattle.dsec_spec.specs.Zones.{Zone}
use Rattle.dsec_spec.specs.ZonesOfRecords.{zone_of, soas_at}
use Rattle.dsec_spec.specs.DenyingRecords.{hash_by, HashBefore}
use Rattle.dsec_spec.specs.NsecChains.{IsChainTtl}
use Rattle.dsec_spec.specs.HashedNames.{has_opt_out, IsHashed, types_at, hashed_zone}

-- the owner of a name's NSEC3 record: the hash as a label before the apex (RFC 5155 3)
abbrev pub hashed_owner : Hashing → Labels → Place → Labels
hashed_owner how apex n = base32hex (hash_by how n) ∷ apex

-- the record is the name's NSEC3 record in the zone, with the hash of this next name, and reads as it was written (RFC 5155 3.2, 7.1)
pub record IsNsec3Of (how : Hashing) (apex : Labels) (z : Zone) (class ttl : ℕ) (n next : Place) (r : Record) : Type 0 where
  pub nsec3 : Nsec3
  pub hashing : nsec3.hashing ≡ how
  pub next_is : nsec3.next_owner ≡ hash_by how next
  pub types : IsBitmapOf (types_at z n) nsec3.types
  pub is : r ≡ record { owner = hashed_owner how apex n; class = class; rtype = NSEC3; ttl = ttl; rdata = nsec3_octets nsec3 }
  pub owner : IsName (hashed_owner how apex n)
  pub says : nsec3_of (nsec3_octets nsec3) ≡ Some nsec3

-- the first of the names; where there is none, the one given
abbrev pub first_name : Place → List Place → Place
first_name n [] = n
first_name n (m ∷ names) = m

-- the records are those of the names, one of each: the next is the next of the names, and after the last `first` (RFC 5155 3.1.7)
abbrev pub AreNsec3sOf : Hashing → Labels → Zone → ℕ → ℕ → Place → List Place → List Record → Type 0
AreNsec3sOf how apex z class ttl first [] [] = Unit {0}
AreNsec3sOf how apex z class ttl first (n ∷ names) (r ∷ nsec3s) =
    IsNsec3Of how apex z class ttl n (first_name first names) r × AreNsec3sOf how apex z class ttl first names nsec3s
AreNsec3sOf how apex z class ttl first _ _ = ⊥

-- the NSEC3PARAM record at the apex: how names are hashed, with flags 0 (RFC 5155 4.1)
abbrev pub nsec3param_record : Hashing → Labels → ℕ → ℕ → Record
nsec3param_record how apex class ttl = record {
  owner = apex;
  class = class;
  rtype = NSEC3PARAM;
  ttl = ttl;
  rdata = hashing_octets (record { hash_algorithm = how.hash_algorithm; flags = 0; iterations = how.iterations; salt = how.salt });
}

-- these are the NSEC3 records of the zone that the records make: one of each name that is hashed so, in the order of hashes and in a
-- circle, of the class of the one SOA record at the apex, and kept as long as that says; and its NSEC3PARAM record (RFC 5155 7.1)
pub record IsNsec3Chain (how : Hashing) (apex : Labels) (records nsec3s : List Record) (param : Record) : Type 0 where
  pub soa : Record
  pub one : soas_at (place apex) records ≡ soa ∷ []
  pub ttl : ℕ
  pub kept : IsChainTtl soa ttl
  pub names : List Place
  pub are : (n : Place) → Contains names n ↔ IsHashed (has_opt_out how) (zone_of (place apex) records) n
  pub rise : AllPairs (λ m n. HashBefore (hash_by how m) (hash_by how n)) names
  pub each : AreNsec3sOf how apex (hashed_zone (place apex) records) soa.class ttl (first_name (place apex) names) names nsec3s
  pub param_is : param ≡ nsec3param_record how apex soa.class ttl
