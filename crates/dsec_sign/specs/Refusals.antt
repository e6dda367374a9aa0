-- Why the sets of a zone aren't signed.
use Rattle.std.specs.Prelude.{◌≡◌, ◌≢◌, List, [], true, false}
use Rattle.std.specs.List.{list_any}
use Rattle.dsec_spec.specs.Records.{Record}
use Rattle.dsec_spec.specs.Signatures.{Signer, Period, IsValidPeriod}
use Rattle.dsec_sorted.specs.Sets.{differ_in_ttl}
use Rattle.dsec_rrsig.specs.declared.error.SignError.TheVariants as sign
use Rattle.dsec_rrsig.specs.declared.error.SigningError.{SigningError}
use Rattle.dsec_rrsig.specs.declared.error.SigningError.TheVariants as signing

-- one of the sets differs in TTL (RFC 2181 5.2)
abbrev pub HaveSeveralTtls : List (List Record) → Type 0
HaveSeveralTtls sets = list_any differ_in_ttl sets ≡ true

-- none does
abbrev pub HaveOneTtl : List (List Record) → Type 0
HaveOneTtl sets = list_any differ_in_ttl sets ≡ false

-- a signature is asked for: there is a set, and a signer
pub record IsAsked (sets : List (List Record)) (signers : List Signer) : Type 0 where
  pub some_set : sets ≢ []
  pub some_signer : signers ≢ []

-- the sets may be signed: each is of one TTL, and the period is one, where a signature is asked for
pub record AreAllowed (sets : List (List Record)) (signers : List Signer) (period : Period) : Type 0 where
  pub ttls : HaveOneTtl sets
  pub valid : IsAsked sets signers → IsValidPeriod period

-- the period is none, of sets that are each of one TTL, and a signature is asked for
pub record HaveNoPeriod (sets : List (List Record)) (signers : List Signer) (period : Period) : Type 0 where
  pub ttls : HaveOneTtl sets
  pub asked : IsAsked sets signers
  pub invalid : IsValidPeriod period → ⊥

-- why sets aren't signed: for their TTLs, else for the period, else since a signer failed with a cause; memory may be wanted at any time
abbrev pub IsSetsRefusal : List (List Record) → List Signer → Period → Type 0 → SigningError → Type 0
IsSetsRefusal sets signers period cause signing.MultipleTtlValues = HaveSeveralTtls sets
IsSetsRefusal sets signers period cause (signing.InvalidSignatureValidityPeriod inception expiration) =
    HaveNoPeriod sets signers period × (inception ≡ period.inception) × (expiration ≡ period.expiration)
IsSetsRefusal sets signers period cause (signing.SigningError sign.Failed) = AreAllowed sets signers period × cause
IsSetsRefusal sets signers period cause signing.OutOfMemory = Unit {0}
IsSetsRefusal sets signers period cause _ = ⊥
