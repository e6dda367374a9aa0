-- Zones with their signatures (RFC 4035 2).
use Rattle.std.specs.Prelude.{◌↔◌, ◌==◌, ◌&&◌, ◌++◌, List, map, filter, Bool, Contains}
use Rattle.dsec_spec.specs.Names.{Place, place, same_place}
use Rattle.dsec_spec.specs.Records.{Record}
use Rattle.dsec_spec.specs.Groups.{firsts}
use Rattle.dsec_spec.specs.CanonicalRecords.{IsCanonical, IsFirst}
use Rattle.dsec_spec.specs.SetsToSign.{to_sign}
use Rattle.dsec_spec.specs.Signatures.{Signs, Signer, Period, AreSignatures}

-- whether two records are of one set: of one owner, class and type (RFC 2181 5)
abbrev pub of_one_set : Record → Record → Bool
of_one_set r s = same_place (place r.owner) (place s.owner) && (r.class == s.class) && (r.rtype == s.rtype)

-- the sets that records fall into, in the order of their first records
abbrev pub sets_of : List Record → List (List Record)
sets_of records = map (λ first. filter (of_one_set first) records) (firsts of_one_set records)

-- the sets that are signed in the zone that the records make (RFC 4035 2.2)
abbrev pub sets_to_sign : Place → List Record → List (List Record)
sets_to_sign apex records = sets_of (to_sign apex records)

-- these are the signatures of that zone: of each set that is signed, by each signer
abbrev pub AreZoneSignatures : Signs → Period → List Signer → Place → List Record → List Record → Type 0
AreZoneSignatures signs period signers apex records signatures = AreSignatures signs period (sets_to_sign apex records) signers signatures

-- the records were added to the old ones: all of both stand there, in canonical order, and of duplicates the first, so that an old record
-- stays as it was (RFC 2181 5, RFC 4034 6.3)
pub record IsUnion (old added new : List Record) : Type 0 where
  pub canonical : IsCanonical new
  pub all : (r : Record) → Contains new r ↔ IsFirst (old ++ added) r

-- The zone was signed: to the old records its chain of denial and its signatures were added, which made the new ones. The signatures are
-- those of zone and chain merged; nothing else was added, and nothing taken away. Where a zone is signed in place, the old records are
-- the zone's.
pub record IsSignedZone (signs : Signs) (period : Period) (signers : List Signer) (apex : Place) (zone chain old new : List Record) : Type 0 where
  pub whole : List Record
  pub merged : IsUnion zone chain whole
  pub signatures : List Record
  pub signed : AreZoneSignatures signs period signers apex whole signatures
  pub added : IsUnion old (chain ++ signatures) new
