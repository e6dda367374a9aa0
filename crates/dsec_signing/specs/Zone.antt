-- Zone text that is to be signed: its records, or the line that is refused.
use Rattle.std.specs.Prelude.{◌≡◌, ℕ, ◌+◌, ◌<◌, ◌≤◌, ◌==◌, ◌&&◌, ◌||◌, not, Bool, List, [], ◌∷◌, length, Option, Some, None, Result, Ok, Err, if◌then◌else◌}
use Rattle.dsec_spec.specs.Numbers.{IN, RRSIG, NSEC, NSEC3, NSEC3PARAM}
use Rattle.dsec_spec.specs.Records.{Record}
use Rattle.dsec_outside.specs.Limit.{limit, line_past}
use Rattle.dsec_zonefile.specs.Entries.{IsNext, Reader, ended, found, refused}
use Rattle.dsec_zonefile.specs.Setting.{at_first}
use Rattle.dsec_zonefile.specs.declared.entry.Entry.{Entry}
use Rattle.dsec_zonefile.specs.declared.entry.Entry.TheVariants as entries
use Rattle.dsec_signing.specs.declared.error.Refused.{Refused}
use Rattle.dsec_signing.specs.declared.error.Word.TheVariants as words

-- the types that signing makes (RFC 4034 3, 4, RFC 5155 3, 4)
abbrev pub is_made : ℕ → Bool
is_made t = (t == RRSIG) || (t == NSEC) || (t == NSEC3) || (t == NSEC3PARAM)

-- the record that an entry is, if it may stand there: of class IN, and of a type that signing doesn't make; `$INCLUDE` may not
abbrev pub fit_in : Entry → Option Record
fit_in (entries.Record r) = if (r.class == IN) && not (is_made r.rtype) then Some r else None
fit_in (entries.Include path origin) = None

-- how many records may stand there (this project's choice)
abbrev pub most_records : ℕ
most_records = 1000000

-- one more record before others, or the line that is refused behind it
abbrev pub before : Record → Result (List Record) ℕ → Result (List Record) ℕ
before r (Ok records) = Ok (r ∷ records)
before r (Err line) = Err line

-- What is left of a text says this, where so many records may still come: its records, up to the end; or the first line that is refused,
-- since the grammar refuses it, or an entry begins there that may not stand in the zone, or is a record too many.
pub data SaysZone : ℕ → Reader → Result (List Record) ℕ → Type 0 where
  no_more : (room : ℕ) (reader last : Reader) → IsNext reader (ended last) → SaysZone room reader (Ok [])
  bad : (room : ℕ) (reader : Reader) (line : ℕ) → IsNext reader (refused line) → SaysZone room reader (Err line)
  unfit : (room : ℕ) (reader next : Reader) (it : Entry) → IsNext reader (found it next) → fit_in it ≡ None → SaysZone room reader (Err next.begun)
  too_many : (reader next : Reader) (it : Entry) → IsNext reader (found it next) → SaysZone 0 reader (Err next.begun)
  goes_on : (room : ℕ) (reader next : Reader) (it : Entry) (r : Record) (said : Result (List Record) ℕ) → IsNext reader (found it next) → fit_in it ≡ Some r
      → SaysZone room next said → SaysZone (room + 1) reader (before r said)

-- at the start of a text, with the class IN where none is given, and with the root for the origin (RFC 1035 5.1)
abbrev pub start_of : List ℕ → Reader
start_of content = record { text = content; passed = 0; setting = record at_first { class = Some IN }; refused = None; begun = 0 }

-- the line that is refused, by name
abbrev pub at_line : Result (List Record) ℕ → Result (List Record) Refused
at_line (Ok records) = Ok records
at_line (Err line) = Err (record { line = line; word = words.Zone })

-- What a whole text says: its records, or its first line that is refused. Where it is longer than the limit, that is the line of the first
-- octet past it, before any line is read.
pub data SaysSource : List ℕ → Result (List Record) Refused → Type 0 where
  long : (content : List ℕ) → limit < length content → SaysSource content (Err (record { line = line_past content; word = words.Size }))
  short : (content : List ℕ) (said : Result (List Record) ℕ) → length content ≤ limit → SaysZone most_records (start_of content) said → SaysSource content (at_line said)
