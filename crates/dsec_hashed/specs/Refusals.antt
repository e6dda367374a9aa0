-- When the NSEC3 records of a zone aren't made (RFC 5155 7.1).
use Rattle.std.specs.Prelude.{◌≡◌, ◌≢◌, ◌+◌, ◌<◌, ◌≤◌, List, length}
use Rattle.dsec_spec.specs.Names.{Labels, place, wire_length}
use Rattle.dsec_spec.specs.Records.{Record}
use Rattle.dsec_spec.specs.RecordViews.{Hashing}
use Rattle.dsec_spec.specs.ZonesOfRecords.{zone_of, soas_at}
use Rattle.dsec_spec.specs.HashedNames.{HasCollision}
use Rattle.dsec_chain.specs.declared.error.Nsec3HashError.TheVariants.{CollisionDetected, Nsec3NameTooLong}
use Rattle.dsec_chain.specs.declared.error.DenialError.{DenialError}
use Rattle.dsec_chain.specs.declared.error.DenialError.TheVariants.{SoaRecordCouldNotBeDetermined, Nsec3Hashing, NoMemory}

-- no two names that are hashed have one hash, and a hash as a label before the apex is a name
pub record Fits (how : Hashing) (apex : Labels) (records : List Record) : Type 0 where
  pub no_collision : HasCollision how (zone_of (place apex) records) → ⊥
  pub short : wire_length apex + 33 ≤ 255

-- each refusal has its reason, and the first that holds is the answer; but for want of memory, which may come at any time
abbrev pub IsRefusal : Hashing → Labels → List Record → DenialError → Type 0
IsRefusal how apex records SoaRecordCouldNotBeDetermined = length (soas_at (place apex) records) ≢ 1
IsRefusal how apex records (Nsec3Hashing CollisionDetected) = (length (soas_at (place apex) records) ≡ 1) × HasCollision how (zone_of (place apex) records)
IsRefusal how apex records (Nsec3Hashing Nsec3NameTooLong) =
    (length (soas_at (place apex) records) ≡ 1) × (HasCollision how (zone_of (place apex) records) → ⊥) × (255 < wire_length apex + 33)
IsRefusal how apex records (Nsec3Hashing _) = ⊥
IsRefusal how apex records NoMemory = Unit {0}
