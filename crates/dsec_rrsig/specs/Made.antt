-- What is signed of a set, and the record that is made of the signature.
use Rattle.std.specs.Prelude.{◌≡◌, ◌≢◌, ◌≤◌, ℕ, List, [], ◌∷◌, length}
use Rattle.dsec_spec.specs.Numbers.{RRSIG}
use Rattle.dsec_spec.specs.Records.{Record, rrsig_octets, set_of}
use Rattle.dsec_spec.specs.SignedBytes.{signed_bytes}
use Rattle.dsec_spec.specs.Signatures.{Signs, Signer, Period, IsValidPeriod, rrsig_for}
use Rattle.dsec_rrsig.specs.declared.error.SignError.TheVariants as sign
use Rattle.dsec_rrsig.specs.declared.error.SigningError.{SigningError}
use Rattle.dsec_rrsig.specs.declared.error.SigningError.TheVariants as signing

-- what is signed of a set
abbrev pub message_for : Signer → Period → List Record → List ℕ
message_for by period [] = []
message_for by period (first ∷ others) = signed_bytes (rrsig_for by period first []) (set_of first others)

-- the record is the RRSIG record with a signature over the message, of the set of the first record
pub record IsRrsigOver (signs : Signs) (by : Signer) (period : Period) (first : Record) (message : List ℕ) (r : Record) : Type 0 where
  pub signature : List ℕ
  pub signed : signs by.key message signature
  pub at_most : length signature ≤ 60000
  pub is : r ≡ record { owner = first.owner; class = first.class; rtype = RRSIG; ttl = first.ttl; rdata = rrsig_octets (rrsig_for by period first signature) }

-- why a set of the type isn't signed: for its type, else for the period; else memory was wanted, or the signer failed with a cause
abbrev pub IsSetRefusal : ℕ → Period → Type 0 → SigningError → Type 0
IsSetRefusal rtype period cause signing.RrsigRrsMustNotBeSigned = rtype ≡ RRSIG
IsSetRefusal rtype period cause (signing.InvalidSignatureValidityPeriod inception expiration) =
    (rtype ≢ RRSIG) × (IsValidPeriod period → ⊥) × (inception ≡ period.inception) × (expiration ≡ period.expiration)
IsSetRefusal rtype period cause signing.OutOfMemory = (rtype ≢ RRSIG) × IsValidPeriod period
IsSetRefusal rtype period cause (signing.SigningError sign.Failed) = (rtype ≢ RRSIG) × IsValidPeriod period × cause
IsSetRefusal rtype period cause _ = ⊥
