-- What is found first in zone text, as the code has it.
use Rattle.std.specs.Prelude.{◌≡◌, ℕ, ◌+◌, ◌<◌, ◌≤◌, List, [], ◌∷◌, length, map, take, drop, slice_range, Option, Some, None, Result, Ok, Err}
use Rattle.dsec_text.specs.Lines.{begins_with_blank, first_line_of, line_ends, lines_of}
use Rattle.dsec_text.specs.Words.{word_view, words_of}
use Rattle.dsec_text.specs.declared.line.Found.{Found}
use Rattle.dsec_text.specs.declared.line.Found.TheVariants as found
use Rattle.dsec_text.specs.declared.line.Line.{Line}
use Rattle.dsec_text.specs.declared.line.LineError.{LineError}
use Rattle.dsec_text.specs.declared.line.LineError.TheVariants as errors
use Rattle.dsec_text.specs.declared.line.Span.{Span}
use Rattle.dsec_text.specs.declared.pass.Passed.{Passed}
use Rattle.dsec_text.specs.declared.token.Kind.{Kind}
use Rattle.dsec_text.specs.declared.token.Kind.TheVariants.{LineEnd}

-- the octets of a line at its place
abbrev pub line_at : List ℕ → Span → List ℕ
line_at text span = slice_range text span.start span.end

-- the first line of a text with a word, as it was read
pub record IsFirst (text : List ℕ) (line : Line) : Type 0 where
  pub place : first_line_of text ≡ Ok (Some line.span)
  pub words : map word_view line.words.items ≡ words_of (line_at text line.span)
  pub ends : line.line_ends ≡ line_ends (line_at text line.span)
  pub begins : line.begins_with_blank ≡ begins_with_blank (line_at text line.span)

-- the first line with a word is found; or the end, with the line ends before it; or the first bad line. Want of memory may
-- come at any time.
abbrev pub Finds : List ℕ → Result Found LineError → Type 0
Finds text (Ok (found.Line line)) = IsFirst text line
Finds text (Ok (found.End ends)) = (first_line_of text ≡ Ok None) × (ends ≡ line_ends text)
Finds text (Err (errors.Bad bad)) = first_line_of text ≡ Err bad
Finds text (Err errors.NoMemory) = Unit {0}

-- what was found stands within so many octets, and line ends are octets
abbrev pub IsPlaced : ℕ → Result Found LineError → Type 0
IsPlaced size (Ok (found.Line line)) =
    (line.span.start < line.span.end) × (line.span.end ≤ size) × (line.span.before + line.line_ends ≤ line.span.end)
IsPlaced size (Ok (found.End ends)) = ends ≤ size
IsPlaced size (Err (errors.Bad bad)) = bad.before ≤ size
IsPlaced size (Err errors.NoMemory) = Unit {0}

-- how many line ends a token of this kind has
abbrev pub line_ends_in : Kind → ℕ
line_ends_in LineEnd = 1
line_ends_in _ = 0

-- a line at the front of a text, as it was passed
pub record IsPassed (text : List ℕ) (passed : Passed) : Type 0 where
  pub line : lines_of text ≡ Some (take passed.octets text) ∷ lines_of (drop passed.octets text)
  pub words : map word_view passed.words.items ≡ words_of (take passed.octets text)
  pub ends : passed.line_ends ≡ line_ends (take passed.octets text)

-- the first line of a text was passed, or it is refused
abbrev pub PassesLine : List ℕ → Option Passed → Type 0
PassesLine text None = lines_of text ≡ None ∷ []
PassesLine text (Some passed) = IsPassed text passed

-- a line that was passed has an octet, and stands within the text; its line ends are octets of it
abbrev pub IsSized : List ℕ → Option Passed → Type 0
IsSized text None = Unit {0}
IsSized text (Some passed) = (0 < passed.octets) × (passed.octets ≤ length text) × (passed.line_ends ≤ passed.octets)
