-- The entries of zone text, line by line (RFC 1035 5.1).
use Rattle.std.specs.Prelude.{◌≡◌, ℕ, ◌+◌, List, [], ◌∷◌, drop, Bool, true, false, Option, Some, None, Result, Ok, Err}
use Rattle.dsec_text.specs.Finding.{line_at}
use Rattle.dsec_text.specs.Lines.{first_line_of, line_ends}
use Rattle.dsec_text.specs.declared.line.BadLine.{BadLine}
use Rattle.dsec_text.specs.declared.line.Span.{Span}
use Rattle.dsec_zonefile.specs.Lines.{said_in}
use Rattle.dsec_zonefile.specs.Setting.{after, entry_of}
use Rattle.dsec_zonefile.specs.declared.entry.Entry.{Entry}
use Rattle.dsec_zonefile.specs.declared.error.InplaceError.{InplaceError}
use Rattle.dsec_zonefile.specs.declared.error.ZonefileError.{ZonefileError}
use Rattle.dsec_zonefile.specs.declared.error.ZonefileError.TheVariants as errors
use Rattle.dsec_zonefile.specs.declared.setting.Said.{Said}
use Rattle.dsec_zonefile.specs.declared.setting.Setting.{Setting}
use Rattle.dsec_zonefile.specs.declared.step.Step.{Step}

-- want of memory, which may come at any time
abbrev pub wants_memory : ZonefileError → Bool
wants_memory errors.NoMemory = true
wants_memory (errors.Inplace error) = false

-- how far a text was read: what is left of it, how many line ends were passed, the setting, the line that was refused, and the line on
-- which what was read last begins, 0 before that
pub record Reader : Type 0 where
  pub text : List ℕ
  pub passed : ℕ
  pub setting : Setting
  pub refused : Option ℕ
  pub begun : ℕ

-- zone text as it is held: how far it was read, and how many of the octets that were read are still kept
pub record HeldText : Type 0 where
  pub reader : Reader
  pub kept : ℕ

-- the line behind so many line ends is refused; lines are numbered from 1
abbrev pub refused_behind : ℕ → Result (Option Step) ZonefileError
refused_behind lines = Err (errors.Inplace (record { line = lines + 1 }))

-- what a line says, how many octets it and those before it take, how many line ends are in these, and on which line it begins; or its
-- refusal
abbrev pub told : ℕ → Span → List ℕ → Option Said → Result (Option Step) ZonefileError
told passed span line None = refused_behind (passed + span.before)
told passed span line (Some said) = Ok (Some (record { said = said; octets = span.end; lines = span.before + line_ends line; begins = passed + span.before + 1 }))

-- the same, where the first line with a word was looked for
abbrev pub first_told : Reader → Result (Option Span) BadLine → Result (Option Step) ZonefileError
first_told reader (Err bad) = refused_behind (reader.passed + bad.before)
first_told reader (Ok None) = Ok None
first_told reader (Ok (Some span)) =
    told reader.passed span (line_at reader.text span) (said_in reader.setting (line_at reader.text span))

-- what the first line with a word says under the setting, if there is one, or its refusal
abbrev pub step_of : Reader → Result (Option Step) ZonefileError
step_of reader = first_told reader (first_line_of reader.text)

-- behind what a line says
abbrev pub behind : Reader → Step → Reader
behind reader step = record {
  text = drop step.octets reader.text;
  passed = reader.passed + step.lines;
  setting = after reader.setting step.said;
  refused = None;
  begun = step.begins;
}

-- at the end: nothing is left, and what was left was passed
abbrev pub at_end : Reader → Reader
at_end reader = record reader { text = []; passed = reader.passed + line_ends reader.text }

-- what comes next: an entry, and the reader behind it; the end, and the reader there; or the refusal of the line with this number
pub data Next : Type 0 where
  found : Entry → Reader → Next
  ended : Reader → Next
  refused : ℕ → Next

-- This comes next. A refusal stays. Else it is the entry of the first line that gives one, where each line is read under the
-- setting that those before it leave; the end, behind the last line, where no line with a word is left; or the refusal of a
-- line before these.
pub data IsNext : Reader → Next → Type 0 where
  again : (reader : Reader) (line : ℕ) → reader.refused ≡ Some line → IsNext reader (refused line)
  bad : (reader : Reader) (error : InplaceError) → reader.refused ≡ None → step_of reader ≡ Err (errors.Inplace error) → IsNext reader (refused error.line)
  end : (reader : Reader) → reader.refused ≡ None → step_of reader ≡ Ok None → IsNext reader (ended (at_end reader))
  entry : (reader : Reader) (step : Step) (it : Entry) → reader.refused ≡ None → step_of reader ≡ Ok (Some step) → entry_of step.said ≡ Some it
      → IsNext reader (found it (behind reader step))
  later : (reader : Reader) (step : Step) (next : Next) → reader.refused ≡ None → step_of reader ≡ Ok (Some step) → entry_of step.said ≡ None
      → IsNext (behind reader step) next → IsNext reader next

-- the entries of what is left, in order, and the line that is refused behind them, if one is
pub data HasEntries : Reader → List Entry → Option ℕ → Type 0 where
  no_more : (reader last : Reader) → IsNext reader (ended last) → HasEntries reader [] None
  stops : (reader : Reader) (line : ℕ) → IsNext reader (refused line) → HasEntries reader [] (Some line)
  goes_on : (reader next : Reader) (it : Entry) (entries : List Entry) (end : Option ℕ) → IsNext reader (found it next)
      → HasEntries next entries end → HasEntries reader (it ∷ entries) end

-- A call answers with what comes next. Behind a refusal nothing but that is kept, and after want of memory all is as before.
abbrev pub Answers : Reader → Result (Option Entry) ZonefileError → Reader → Type 0
Answers before (Ok (Some it)) after = IsNext before (found it after)
Answers before (Ok None) after = IsNext before (ended after)
Answers before (Err (errors.Inplace error)) after = IsNext before (refused error.line) × (after ≡ record before { refused = Some error.line })
Answers before (Err errors.NoMemory) after = after ≡ before
