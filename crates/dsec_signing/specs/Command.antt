-- What the command `sign` promises.
use Rattle.std.specs.Prelude.{◌≡◌, ◌⊎◌, ◌++◌, ◌∷◌, [], ℕ, List, codes, Option, Ok, Err, IfSome}
use Rattle.std.specs.Io.KnownBytes.{Appends, Consumes, IsAtEnd, Keeps}
use Rattle.dsec_spec.specs.Outside.{SentFront}
use Rattle.dsec_spec.specs.Records.{Record}
use Rattle.dsec_record_text.specs.Parts.{SentPart}
use Rattle.dsec_record_text.specs.RecordText.{records_text}
use Rattle.dsec_record_text.specs.TextBack.{ReadsAs}
use Rattle.dsec_rrsig.specs.declared.error.SigningError.{SigningError}
use Rattle.dsec_rrsig.specs.Errors.{signing_error_text}
use Rattle.dsec_signing.specs.Refusals.{refused_text}
use Rattle.dsec_signing.specs.Signed.{IsMade, IsUnsigned}
use Rattle.dsec_signing.specs.Zone.{SaysSource}
use Rattle.dsec_signing.specs.declared.error.Refused.{Refused}
use Rattle.dsec_signing.specs.declared.words.SignWords.{SignWords}

-- why the zone isn't signed, in a line
unfoldable pub error_line : SigningError → List ℕ
error_line error = codes "error: " ++ signing_error_text error ++ 10 ∷ []

-- the content is zone text, and the text of what was made of its records went out, which reads back as that
pub record SignedFrom (words : SignWords) (content : List ℕ) (before after : Option (List ℕ)) : Type 0 where
  pub source : List Record
  pub reads : SaysSource content (Ok source)
  pub made : List Record
  pub is_made : IsMade words source made
  pub sent : Appends before after (records_text made)
  pub back : ReadsAs (records_text made) made

-- the same, but of that text a part went out, and not all
pub record PartFrom (words : SignWords) (content : List ℕ) (before after : Option (List ℕ)) : Type 0 where
  pub source : List Record
  pub reads : SaysSource content (Ok source)
  pub made : List Record
  pub is_made : IsMade words source made
  pub sent : SentPart before after (records_text made)

-- the content is refused, and its first refused line was named
pub record RefusedAt (content : List ℕ) (before after : Option (List ℕ)) : Type 0 where
  pub refused : Refused
  pub reads : SaysSource content (Err refused)
  pub sent : Appends before after (refused_text refused)

-- the content is zone text that isn't signed, and it was said why
pub record UnsignedFrom (words : SignWords) (content : List ℕ) (before after : Option (List ℕ)) : Type 0 where
  pub source : List Record
  pub reads : SaysSource content (Ok source)
  pub error : SigningError
  pub why : IsUnsigned words source error
  pub sent : Appends before after (error_line error)

-- of some content, this went out: nothing, or a front of the line that names the refused one, of that which says why it isn't signed, or of
-- the text of what was made
pub data SentFor (words : SignWords) (content : List ℕ) (before after : Option (List ℕ)) : Type 0 where
  nothing : Keeps before after → SentFor words content before after
  refused : (r : Refused) → SaysSource content (Err r) → SentFront before after (refused_text r) → SentFor words content before after
  unsigned : (source : List Record) (error : SigningError) → SaysSource content (Ok source) → IsUnsigned words source error → SentFront before after (error_line error)
      → SentFor words content before after
  signed : (source made : List Record) → SaysSource content (Ok source) → IsMade words source made → SentFront before after (records_text made) → SentFor words content before after

-- this was read of the source, and something holds of it
pub record HasRead (left rest : Option (List ℕ)) (Holds : List ℕ → Type 0) : Type 0 where
  pub content : List ℕ
  pub read : Consumes left rest content
  pub holds : Holds content

-- the same, and it was all that the source had
pub record HasReadAll (left rest : Option (List ℕ)) (Holds : List ℕ → Type 0) : Type 0 where
  pub content : List ℕ
  pub read : Consumes left rest content
  pub whole : IsAtEnd rest
  pub holds : Holds content

-- A run of the command with these words ended with the status. Each of 0, 3 and 7 is said twice: of what was read, and, where the source
-- tells its octets, of its whole content. At 4 nothing went out, and at 6 nothing, or a part of the signed text, and never all of it. At any
-- status nothing went out, or a front of what the content makes.
pub record IsSignRun (words : SignWords) (status : ℕ) (left rest before after : Option (List ℕ)) : Type 0 where
  pub done : status ≡ 0 → HasReadAll left rest (λ content. SignedFrom words content before after)
  pub told : status ≡ 0 → IfSome left (λ content. SignedFrom words content before after)
  pub refused : status ≡ 3 → HasRead left rest (λ content. RefusedAt content before after)
  pub first : status ≡ 3 → IfSome left (λ content. RefusedAt content before after)
  pub unsigned : status ≡ 7 → HasReadAll left rest (λ content. UnsignedFrom words content before after)
  pub why : status ≡ 7 → IfSome left (λ content. UnsignedFrom words content before after)
  pub unread : status ≡ 4 → Keeps before after
  pub short : status ≡ 6 → Keeps before after ⊎ HasReadAll left rest (λ content. PartFrom words content before after)
  pub front : Keeps before after ⊎ HasRead left rest (λ content. SentFor words content before after)
  pub made : IfSome left (λ content. SentFor words content before after)
  pub statuses : (status ≡ 0) ⊎ ((status ≡ 3) ⊎ ((status ≡ 4) ⊎ ((status ≡ 5) ⊎ ((status ≡ 6) ⊎ (status ≡ 7)))))
