-- How zone text is read, record by record (the code's own).
use Rattle.std.specs.Prelude.{◌≡◌, ℕ, ◌<◌, ◌≤◌, ◌⊎◌, List, [], ◌∷◌, ◌++◌, length, ⊤, Some, None, Result, Ok, Err}
use Rattle.dsec_spec.specs.Records.{Record}
use Rattle.dsec_zonefile.specs.Entries.{Reader}
use Rattle.dsec_zonefile.specs.declared.entry.Entry.{Entry}
use Rattle.dsec_zonefile.specs.declared.error.ZonefileError.{ZonefileError}
use Rattle.dsec_zonefile.specs.declared.error.ZonefileError.TheVariants as zone
use Rattle.dsec_signing.specs.Zone.{SaysSource, SaysZone, fit_in, most_records}
use Rattle.dsec_signing.specs.declared.error.Refused.{Refused}
use Rattle.dsec_signing.specs.declared.error.SourceError.{SourceError}
use Rattle.dsec_signing.specs.declared.error.SourceError.TheVariants as errors
use Rattle.dsec_signing.specs.declared.error.Word.TheVariants as words

-- the refusal of a line of zone text
abbrev pub refused_at : ℕ → Refused
refused_at line = record { line = line; word = words.Zone }

-- an error of zone text
abbrev pub error_of : ZonefileError → SourceError
error_of (zone.Inplace error) = errors.Refused (refused_at error.line)
error_of zone.NoMemory = errors.NoMemory

-- a call answers with what the text says; want of memory may come at any time
abbrev pub AnswersSource : {X : Type 0} → (X → List Record) → List ℕ → Result X SourceError → Type 0
AnswersSource view content (Ok x) = SaysSource content (Ok (view x))
AnswersSource view content (Err (errors.Refused refused)) = SaysSource content (Err refused)
AnswersSource view content (Err errors.NoMemory) = ⊤

-- the same for what is left of it
abbrev pub AnswersZone : {X : Type 0} → (X → List Record) → Reader → Result X SourceError → Type 0
AnswersZone view reader (Ok x) = SaysZone most_records reader (Ok (view x))
AnswersZone view reader (Err (errors.Refused refused)) = (refused ≡ refused_at refused.line) × SaysZone most_records reader (Err refused.line)
AnswersZone view reader (Err errors.NoMemory) = ⊤

-- the line where an entry begins is refused, or there is no memory
abbrev pub Refuses : Entry → ℕ → List Record → SourceError → Type 0
Refuses it line old (errors.Refused refused) = (refused ≡ refused_at line) × ((fit_in it ≡ None) ⊎ (most_records ≤ length old))
Refuses it line old errors.NoMemory = ⊤

-- its record was added to those before it
abbrev pub Adds : Entry → List Record → List Record → Type 0
Adds it old new = (length old < most_records) × (r : Record) × (fit_in it ≡ Some r) × (new ≡ old ++ r ∷ [])

-- one of these
abbrev pub Keeps : {X : Type 0} → Entry → ℕ → List Record → List Record → Result X SourceError → Type 0
Keeps it line old new (Ok x) = Adds it old new
Keeps it line old new (Err error) = Refuses it line old error
