-- What the errors display.
use Rattle.std.specs.Prelude.{ℕ, List, ◌++◌, codes}
use Rattle.dsec_chain.specs.declared.error.Nsec3HashError.{Nsec3HashError}
use Rattle.dsec_chain.specs.declared.error.Nsec3HashError.TheVariants.{UnsupportedAlgorithm, AppendError, OwnerHashError, CollisionDetected, MissingHash, Nsec3NameTooLong}
use Rattle.dsec_chain.specs.declared.error.DenialError.{DenialError}
use Rattle.dsec_chain.specs.declared.error.DenialError.TheVariants.{SoaRecordCouldNotBeDetermined, Nsec3Hashing, NoMemory}

abbrev pub hash_error_text : Nsec3HashError → List ℕ
hash_error_text UnsupportedAlgorithm = codes "Unsupported algorithm"
hash_error_text AppendError = codes "Append error: out of memory?"
hash_error_text OwnerHashError = codes "Hashing produced an invalid owner hash"
hash_error_text CollisionDetected = codes "Hash collision detected"
hash_error_text MissingHash = codes "Missing hash for owner name"
hash_error_text Nsec3NameTooLong = codes "Resulting NSEC3 owner name too long"

abbrev pub denial_error_text : DenialError → List ℕ
denial_error_text SoaRecordCouldNotBeDetermined = codes "No apex SOA or too many apex SOA records found"
denial_error_text (Nsec3Hashing error) = codes "NSEC3 hashing error: " ++ hash_error_text error
denial_error_text NoMemory = codes "out of memory"
