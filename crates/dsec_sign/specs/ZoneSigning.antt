-- What signing a zone leaves, and why it isn't signed.
use Rattle.std.specs.Prelude.{◌≡◌, ◌⊎◌, List}
use Rattle.dsec_spec.specs.Names.{Labels, place}
use Rattle.dsec_spec.specs.Records.{Record}
use Rattle.dsec_spec.specs.Signatures.{Signs, Signer, Period}
use Rattle.dsec_spec.specs.SignedZones.{AreZoneSignatures, IsSignedZone, IsUnion, sets_to_sign}
use Rattle.dsec_sorted.specs.declared.config.DenialConfig.{DenialConfig}
use Rattle.dsec_rrsig.specs.declared.error.SigningError.{SigningError}
use Rattle.dsec_rrsig.specs.declared.error.SigningError.TheVariants as signing
use Rattle.dsec_sign.specs.Refusals.{AreAllowed, IsSetsRefusal}
use Rattle.dsec_sign.specs.ZoneChains.{IsChainOf, IsChainRefusal}
use Rattle.dsec_sign.specs.declared.config.SigningConfig.{SigningConfig}

-- the period of a zone's signatures
abbrev pub zone_period : SigningConfig → Period
zone_period it = record { inception = it.inception; expiration = it.expiration }

-- the signatures of the zone that the old records make were added to them
pub record AddsZoneSignatures (signs : Signs) (period : Period) (signers : List Signer) (apex : Labels) (old new : List Record) : Type 0 where
  pub signatures : List Record
  pub signed : AreZoneSignatures signs period signers (place apex) old signatures
  pub added : IsUnion old signatures new

-- the zone was signed: its chain and its signatures were added to the old records (`IsSignedZone`); nothing stood against it
pub record SignsZone (signs : Signs) (config : SigningConfig) (signers : List Signer) (apex : Labels) (zone old new : List Record) : Type 0 where
  pub chain : List Record
  pub made : IsChainOf config.denial apex zone chain
  pub signed : IsSignedZone signs (zone_period config) signers (place apex) zone chain old new
  pub allowed : AreAllowed (sets_to_sign (place apex) signed.whole) signers (zone_period config)

-- the zone's whole chain was added to the old records, and no signature
pub record AddsChain (denial : DenialConfig) (apex : Labels) (zone old new : List Record) : Type 0 where
  pub chain : List Record
  pub made : IsChainOf denial apex zone chain
  pub added : IsUnion old chain new

-- the same, and the sets of zone and chain merged aren't signed for this reason
pub record RefusesSets (config : SigningConfig) (signers : List Signer) (cause : Type 0) (apex : Labels) (zone old new : List Record) (error : SigningError) : Type 0 where
  pub adds : AddsChain config.denial apex zone old new
  pub whole : List Record
  pub merged : IsUnion zone adds.chain whole
  pub reason : IsSetsRefusal (sets_to_sign (place apex) whole) signers (zone_period config) cause error

-- why the zone isn't signed, and what was added. The chain comes first: where it isn't made, nothing was added. Where sets aren't signed,
-- the whole chain was, and no signature. Where memory was wanted, it is one of these two
abbrev pub IsZoneRefusal : SigningConfig → List Signer → Type 0 → Labels → List Record → List Record → List Record → SigningError → Type 0
IsZoneRefusal config signers cause apex zone old new signing.OutOfMemory = (new ≡ old) ⊎ AddsChain config.denial apex zone old new
IsZoneRefusal config signers cause apex zone old new signing.SoaRecordCouldNotBeDetermined =
    IsChainRefusal config.denial apex zone signing.SoaRecordCouldNotBeDetermined × (new ≡ old)
IsZoneRefusal config signers cause apex zone old new (signing.Nsec3HashingError error) = IsChainRefusal config.denial apex zone (signing.Nsec3HashingError error) × (new ≡ old)
IsZoneRefusal config signers cause apex zone old new error = RefusesSets config signers cause apex zone old new error
