-- How the zone is signed (the code's own).
use Rattle.std.specs.Prelude.{List, ⊤, Result, Ok, Err}
use Rattle.dsec_rrsig.specs.declared.error.SigningError.{SigningError}
use Rattle.dsec_rrsig.specs.declared.error.SigningError.TheVariants as signing
use Rattle.dsec_spec.specs.Records.{Record}
use Rattle.dsec_signing.specs.Signed.{IsMade, IsUnsigned}
use Rattle.dsec_signing.specs.declared.error.Unsigned.{Unsigned}
use Rattle.dsec_signing.specs.declared.error.Unsigned.TheVariants as unsigned
use Rattle.dsec_signing.specs.declared.words.SignWords.{SignWords}

-- a refusal of signing; want of memory is told as such
abbrev pub unsigned_of : SigningError → Unsigned
unsigned_of signing.OutOfMemory = unsigned.NoMemory
unsigned_of error = unsigned.Refused error

-- a call answers with what is made of a zone's records, or why it isn't signed; want of memory may come at any time
abbrev pub AnswersSigning : {X : Type 0} → (X → List Record) → SignWords → List Record → Result X Unsigned → Type 0
AnswersSigning view words source (Ok x) = IsMade words source (view x)
AnswersSigning view words source (Err (unsigned.Refused error)) = IsUnsigned words source error
AnswersSigning view words source (Err unsigned.NoMemory) = ⊤
