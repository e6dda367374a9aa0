-- What calls of signers leave.
use Rattle.std.specs.Prelude.{◌≡◌, ◌<◌, ◌≤◌, ◌++◌, ℕ, List, Result, Ok, Err, length, map, slice_index_or, slice_set}
use Rattle.std.specs.List.{AllZip}
use Rattle.dsec_spec.specs.KeyTag.{key_tag}
use Rattle.dsec_spec.specs.Outside.{Rose, risen}
use Rattle.dsec_spec.specs.Records.{Key, Record}
use Rattle.dsec_spec.specs.Signatures.{Signs, Signer, Period, AreSignatures, IsSignature}
use Rattle.dsec_rrsig.specs.Signers.{count_in, flags_in, signer_of}
use Rattle.dsec_rrsig.specs.declared.error.SignError.{SignError}
use Rattle.dsec_rrsig.specs.declared.error.SignError.TheVariants as sign
use Rattle.dsec_rrsig.specs.declared.error.SigningError.{SigningError}
use Rattle.dsec_rrsig.specs.declared.error.SigningError.TheVariants as signing
use Rattle.dsec_rrsig.specs.declared.signing_key.SigningKey.{SigningKey}

-- the tags of signers' keys
abbrev pub tags_of : List Signer → List ℕ
tags_of signers = map (λ (by : Signer). key_tag by.key) signers

-- the keys are of the signers that they were, with the same flags, and no count of faults fell
pub record AreSameSigners {I : Type 0} (key_of : I → Key) (count_of : I → ℕ) (old new : List (SigningKey I)) : Type 0 where
  pub kept : map (signer_of key_of) new ≡ map (signer_of key_of) old
  pub flags : map flags_in new ≡ map flags_in old
  pub later : (k : ℕ) (d : SigningKey I) → k < length old → count_in count_of (slice_index_or old k d) ≤ count_in count_of (slice_index_or new k d)

-- the count of faults of one of the keys rose
pub record SomeRose {I : Type 0} (count_of : I → ℕ) (old new : List (SigningKey I)) : Type 0 where
  pub at : ℕ
  pub within : at < length old
  pub rose : (d : SigningKey I) → Rose (count_in count_of (slice_index_or old at d)) (count_in count_of (slice_index_or new at d))

-- how often each of keys failed, or was asked
abbrev pub counts_of : {I : Type 0} → (I → ℕ) → List (SigningKey I) → List ℕ
counts_of count_of keys = map (count_in count_of) keys

-- of the keys one failed, and once: its count rose by one, and all others are as they were
pub record OneFailed {I : Type 0} (count_of : I → ℕ) (old new : List (SigningKey I)) : Type 0 where
  pub at : ℕ
  pub within : at < length old
  pub is : counts_of count_of new ≡ slice_set (counts_of count_of old) at (risen (slice_index_or (counts_of count_of old) at 0))

-- where a signer failed, one failed once, and where memory was wanted all counts are as they were
abbrev pub CountErrors : {I : Type 0} → (I → ℕ) → List (SigningKey I) → List (SigningKey I) → SignError → Type 0
CountErrors count_of old new sign.Failed = OneFailed count_of old new
CountErrors count_of old new sign.NoMemory = counts_of count_of new ≡ counts_of count_of old

-- and so they are where there are signatures
abbrev pub CountSignings : {I T : Type 0} → (I → ℕ) → List (SigningKey I) → List (SigningKey I) → Result T SignError → Type 0
CountSignings count_of old new (Ok value) = counts_of count_of new ≡ counts_of count_of old
CountSignings count_of old new (Err error) = CountErrors count_of old new error

-- the same where signing is refused for it
abbrev pub CountRefusals : {I T : Type 0} → (I → ℕ) → List (SigningKey I) → List (SigningKey I) → Result T SigningError → Type 0
CountRefusals count_of old new (Ok value) = counts_of count_of new ≡ counts_of count_of old
CountRefusals count_of old new (Err (signing.SigningError error)) = OneFailed count_of old new
CountRefusals count_of old new (Err error) = counts_of count_of new ≡ counts_of count_of old

-- the signatures of a set by each signer were added
pub record AddsOfSet (signs : Signs) (period : Period) (set : List Record) (signers : List Signer) (old new : List Record) : Type 0 where
  pub signatures : List Record
  pub is : new ≡ old ++ signatures
  pub are : AllZip (IsSignature signs period) (map (λ (by : Signer). (set, by)) signers) signatures

-- the signatures of sets by each signer were added
pub record AddsSignatures (signs : Signs) (period : Period) (sets : List (List Record)) (signers : List Signer) (old new : List Record) : Type 0 where
  pub signatures : List Record
  pub is : new ≡ old ++ signatures
  pub are : AreSignatures signs period sets signers signatures
