-- The chain of NSEC records of a zone (RFC 4034 4, RFC 4035 2.3, RFC 9077 3).
use Rattle.std.specs.Prelude.{◌≡◌, ℕ, nat_lt, List, [], ◌∷◌, ◌++◌, All, Some, if◌then◌else◌}
use Rattle.dsec_spec.specs.Names.{Labels, place}
use Rattle.dsec_spec.specs.Numbers.{RRSIG, NSEC}
use Rattle.dsec_spec.specs.Records.{Record}
use Rattle.dsec_spec.specs.RecordViews.{Soa, soa_of, Nsec, nsec_of, nsec_octets}
use Rattle.dsec_spec.specs.TypeBitmaps.{IsBitmapOf}
use Rattle.dsec_spec.specs.Zones.{Zone, with_types}
use Rattle.dsec_spec.specs.ZonesOfRecords.{zone_of, soas_at}
use Rattle.dsec_spec.specs.OwnersInside.{IsWritten, Owner, AreOwners}

-- the types that the NSEC record of an owner names: its own, RRSIG and NSEC (RFC 4034 4.1.2, RFC 4035 2.3)
abbrev pub signed_types : List ℕ → List ℕ
signed_types types = types ++ RRSIG ∷ NSEC ∷ []

-- the lesser of two numbers
abbrev pub lesser : ℕ → ℕ → ℕ
lesser m n = if nat_lt m n then m else n

-- the record is the owner's NSEC record, with this next name, and reads as it was written (RFC 4034 4.1)
pub record IsNsecOf (o : Owner) (next : Labels) (class ttl : ℕ) (r : Record) : Type 0 where
  pub nsec : Nsec
  pub next_is : nsec.next_name ≡ next
  pub types : IsBitmapOf (signed_types o.types) nsec.types
  pub is : r ≡ record { owner = o.name; class = class; rtype = NSEC; ttl = ttl; rdata = nsec_octets nsec }
  pub says : nsec_of (nsec_octets nsec) ≡ Some nsec

-- the name of the first of the owners; the apex where there is none
abbrev pub next_name : Labels → List Owner → Labels
next_name apex [] = apex
next_name apex (o ∷ owners) = o.name

-- the records are those of the owners, one of each: the next name is that of the next owner, and after the last the apex (RFC 4034 4.1.1)
abbrev pub AreNsecsOf : Labels → ℕ → ℕ → List Owner → List Record → Type 0
AreNsecsOf apex class ttl [] [] = Unit {0}
AreNsecsOf apex class ttl (o ∷ owners) (r ∷ nsecs) = IsNsecOf o (next_name apex owners) class ttl r × AreNsecsOf apex class ttl owners nsecs
AreNsecsOf apex class ttl _ _ = ⊥

-- how long an NSEC record is kept: the lesser of the SOA record's TTL and its minimum field (RFC 9077 3)
pub record IsChainTtl (soa : Record) (ttl : ℕ) : Type 0 where
  pub start : Soa
  pub says : soa_of soa.rdata ≡ Some start
  pub is : ttl ≡ lesser soa.ttl start.minimum

-- these are the NSEC records of the zone that the records make: one of each of its owners, of the class of the one SOA record at the
-- apex, and kept as long as that says (RFC 4035 2.3)
pub record IsNsecChain (apex : Labels) (records nsecs : List Record) : Type 0 where
  pub soa : Record
  pub one : soas_at (place apex) records ≡ soa ∷ []
  pub ttl : ℕ
  pub kept : IsChainTtl soa ttl
  pub owners : List Owner
  pub are : AreOwners (zone_of (place apex) records) owners
  pub written : All (λ o. IsWritten records o.name) owners
  pub each : AreNsecsOf apex soa.class ttl owners nsecs

-- the zone once its NSEC records and the signatures stand
abbrev pub signed_zone : Zone → Zone
signed_zone z = with_types (RRSIG ∷ NSEC ∷ []) z
