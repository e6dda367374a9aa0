-- What the errors display, and what other errors become.
use Rattle.std.specs.Prelude.{ℕ, List, ◌++◌, codes, decimal}
use Rattle.dsec_chain.specs.Errors.{hash_error_text}
use Rattle.dsec_chain.specs.declared.error.DenialError.{DenialError}
use Rattle.dsec_chain.specs.declared.error.DenialError.TheVariants as denial
use Rattle.dsec_chain.specs.declared.error.Nsec3HashError.{Nsec3HashError}
use Rattle.dsec_chain.specs.declared.error.Nsec3HashError.TheVariants as hash
use Rattle.dsec_sorted.specs.declared.rrset.RrsetError.{RrsetError}
use Rattle.dsec_sorted.specs.declared.rrset.RrsetError.TheVariants as rrset
use Rattle.dsec_rrsig.specs.declared.error.SignError.{SignError}
use Rattle.dsec_rrsig.specs.declared.error.SignError.TheVariants as sign
use Rattle.dsec_rrsig.specs.declared.error.SigningError.{SigningError}
use Rattle.dsec_rrsig.specs.declared.error.SigningError.TheVariants as signing

abbrev pub sign_error_text : SignError → List ℕ
sign_error_text sign.Failed = codes "signing failed"
sign_error_text sign.NoMemory = codes "out of memory"

abbrev pub inception_text : ℕ → List ℕ
inception_text inception = codes "RFC 4034 violation: RRSIG validity period (" ++ decimal inception

abbrev pub expiration_text : ℕ → List ℕ
expiration_text expiration = codes " <= " ++ decimal expiration ++ codes ") is invalid"

-- that these are no inception and expiration
abbrev pub period_error_text : ℕ → ℕ → List ℕ
period_error_text inception expiration = inception_text inception ++ expiration_text expiration

abbrev pub signing_error_text : SigningError → List ℕ
signing_error_text signing.NoSignatureValidityPeriodProvided = codes "No signature validity period found for key"
signing_error_text signing.OutOfMemory = codes "Out of memory"
signing_error_text signing.SoaRecordCouldNotBeDetermined = codes "No apex SOA or too many apex SOA records found"
signing_error_text signing.EmptyRecordSlice = codes "Empty slice of Record"
signing_error_text signing.MultipleTtlValues = codes "Multiple TTL values in RRset"
signing_error_text (signing.Nsec3HashingError error) = codes "NSEC3 hashing error: " ++ hash_error_text error
signing_error_text signing.RrsigRrsMustNotBeSigned = codes "RFC 4035 violation: RRSIG RRs MUST NOT be signed"
signing_error_text (signing.InvalidSignatureValidityPeriod inception expiration) = period_error_text inception expiration
signing_error_text (signing.SigningError error) = codes "Signing error: " ++ sign_error_text error

-- a signer's want of memory is told as such
abbrev pub of_sign_error : SignError → SigningError
of_sign_error sign.Failed = signing.SigningError sign.Failed
of_sign_error sign.NoMemory = signing.OutOfMemory

abbrev pub of_hash_error : Nsec3HashError → SigningError
of_hash_error hash.AppendError = signing.OutOfMemory
of_hash_error error = signing.Nsec3HashingError error

abbrev pub of_denial_error : DenialError → SigningError
of_denial_error denial.SoaRecordCouldNotBeDetermined = signing.SoaRecordCouldNotBeDetermined
of_denial_error (denial.Nsec3Hashing error) = of_hash_error error
of_denial_error denial.NoMemory = signing.OutOfMemory

abbrev pub of_rrset_error : RrsetError → SigningError
of_rrset_error rrset.EmptyRecordSlice = signing.EmptyRecordSlice
of_rrset_error rrset.MultipleTtlValues = signing.MultipleTtlValues
