-- When what NSEC and NSEC3 records say is true of a zone (RFC 4034 4, RFC 5155 3.1, 6, 7.1).
use Rattle.std.specs.Prelude.{◌≡◌, ◌↔◌, ◌⊎◌, ℕ, ◌<◌, List, ◌∷◌, true, false, IsTrue, Some}
use Rattle.dsec_spec.specs.Names.{Labels, Place, place, Before, IsAtOrBelow}
use Rattle.dsec_spec.specs.Base32hex.{octets_in_base32hex}
use Rattle.dsec_spec.specs.Numbers.{NSEC, NSEC3}
use Rattle.dsec_spec.specs.Records.{Record}
use Rattle.dsec_spec.specs.RecordViews.{Hashing, Nsec, nsec_of, Nsec3, nsec3_of}
use Rattle.dsec_spec.specs.Zones.{Zone, Owns, Stands, IsInsecureDelegation, Exists}
use Rattle.dsec_spec.specs.DenyingRecords.{NsecAt, owner_of, next_of, has, Nsec3At, has_hashed, opts_out, hash_by, hashed_by, CoversHash}

-- no name of the zone stands between the two, or the second is the apex and none stands after the first
abbrev pub IsGap : Zone → Place → Place → Type 0
IsGap z owner next =
    (Before owner next × ((m : Place) → Stands z m → Before owner m → Before m next → ⊥))
    ⊎ ((next ≡ z.apex) × ((m : Place) → Stands z m → Before owner m → ⊥))

-- the owner stands in the zone with the types of the bitmap, and no name between it and the next, which stands too, or is the apex
-- after the last (RFC 4034 4.1)
pub record IsNsecTrue (z : Zone) (r : NsecAt) : Type 0 where
  pub owner : Stands z (owner_of r)
  pub types : (t : ℕ) → t < 65536 → IsTrue (has r t) ↔ Owns z (owner_of r) t
  pub next : Stands z (next_of r)
  pub gap : IsGap z (owner_of r) (next_of r)

-- the record is an NSEC record that is true of the zone
pub record IsTrueNsec (z : Zone) (r : Record) : Type 0 where
  pub rtype : r.rtype ≡ NSEC
  pub nsec : Nsec
  pub says : nsec_of r.rdata ≡ Some nsec
  pub holds : IsNsecTrue z (record { owner = r.owner; says = nsec })

-- what stands at or below the name are delegations without DS alone (RFC 5155 6)
abbrev pub IsOptedOut : Zone → Place → Type 0
IsOptedOut z n = (m : Place) → Stands z m → IsAtOrBelow m n → IsInsecureDelegation z m

-- the owner's hash is that of a name that exists, with the types of the bitmap; the gap has the hash of no such name, or with Opt-Out of
-- those alone that are opted out (RFC 5155 3.1, 7.1)
pub record IsNsec3True (z : Zone) (r : Nsec3At) : Type 0 where
  pub of_zone : r.zone ≡ z.apex
  pub name : Place
  pub found : Exists z name
  pub owner : hashed_by r name ≡ r.owner_hash
  pub types : (t : ℕ) → t < 65536 → IsTrue (has_hashed r t) ↔ Owns z name t
  pub gap : opts_out r ≡ false → (n : Place) → Exists z n → CoversHash r n → ⊥
  pub gap_but_opted_out : opts_out r ≡ true → (n : Place) → Exists z n → CoversHash r n → IsOptedOut z n

-- the record is an NSEC3 record that is true of the zone: its owner is a label with the hash, before the zone's apex (RFC 5155 3)
pub record IsTrueNsec3 (z : Zone) (r : Record) : Type 0 where
  pub rtype : r.rtype ≡ NSEC3
  pub label : List ℕ
  pub above : Labels
  pub owner : r.owner ≡ label ∷ above
  pub owner_hash : List ℕ
  pub writes : octets_in_base32hex label ≡ Some owner_hash
  pub nsec3 : Nsec3
  pub says : nsec3_of r.rdata ≡ Some nsec3
  pub holds : IsNsec3True z (record { zone = place above; owner_hash = owner_hash; says = nsec3 })

-- no two of the names that exist in the zone and of the listed ones share a hash
abbrev pub IsFree : Hashing → Zone → (Place → Type 0) → Type 0
IsFree how z Listed = (m n : Place) → Exists z m ⊎ Listed m → Exists z n ⊎ Listed n → hash_by how m ≡ hash_by how n → m ≡ n
