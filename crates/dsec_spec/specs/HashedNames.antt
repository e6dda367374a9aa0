-- The names that a zone hashes, and the types that stand there (RFC 5155 6, 7.1).
use Rattle.std.specs.Prelude.{◌≡◌, ◌≢◌, ℕ, ◌%◌, ◌==◌, List, ◌∷◌, ◌++◌, map, filter, Bool, true}
use Rattle.dsec_spec.specs.Names.{Place, place, same_place, IsAtOrBelow}
use Rattle.dsec_spec.specs.Numbers.{RRSIG, NSEC3PARAM}
use Rattle.dsec_spec.specs.Records.{Record}
use Rattle.dsec_spec.specs.RecordViews.{Hashing}
use Rattle.dsec_spec.specs.Zones.{Zone, Stands, IsInsecureDelegation}
use Rattle.dsec_spec.specs.ZonesOfRecords.{is_of_zone, zone_of}
use Rattle.dsec_spec.specs.DenyingRecords.{hash_by}
use Rattle.dsec_spec.specs.SetsToSign.{to_sign}

-- the flag Opt-Out (RFC 5155 3.1.2.1)
abbrev pub has_opt_out : Hashing → Bool
has_opt_out how = how.flags % 2 == 1

-- the zone hashes the name, which exists: a set stands at it or under it, with Opt-Out one of an owner that is no insecure delegation
-- (RFC 5155 7.1)
pub record IsHashed (opt_out : Bool) (z : Zone) (n : Place) : Type 0 where
  pub within : IsAtOrBelow n z.apex
  pub owner : Place
  pub stands : Stands z owner
  pub owes : opt_out ≡ true → IsInsecureDelegation z owner → ⊥
  pub at_or_below : IsAtOrBelow owner n

-- two names that the zone hashes have one hash
pub record HasCollision (how : Hashing) (z : Zone) : Type 0 where
  pub first : Place
  pub second : Place
  pub hashes_first : IsHashed (has_opt_out how) z first
  pub hashes_second : IsHashed (has_opt_out how) z second
  pub differ : first ≢ second
  pub alike : hash_by how first ≡ hash_by how second

-- the types that stand at a name; none at an empty non-terminal
abbrev pub types_at : Zone → Place → List ℕ
types_at z n = map (λ (s : Place × ℕ). s.1) (filter (λ (s : Place × ℕ). same_place s.0 n) z.sets)

-- the name of a record, as the owner of signatures
abbrev pub signature_key : Record → Place × ℕ
signature_key r = (place r.owner, RRSIG)

-- the zone that the records make, once its NSEC3PARAM record stands at the apex and a signature where one of its sets is signed
abbrev pub hashed_zone : Place → List Record → Zone
hashed_zone apex records = record {
  apex = apex;
  sets = (zone_of apex records).sets ++ (apex, NSEC3PARAM) ∷ map signature_key (filter (is_of_zone apex records) (to_sign apex records));
}
