-- A text's lines, and their words.
use Rattle.std.specs.Prelude.{ℕ, ◌==◌, ◌||◌, List, [], ◌∷◌, filter, map, Bool, true, false, Option, Some, None, if◌then◌else◌}
use Rattle.std.proofs.Math.Bool.{not}
use Rattle.dsec_spec.specs.Cuts.{cut_of}
use Rattle.dsec_bind.specs.declared.line.Mark.{Mark}
use Rattle.dsec_bind.specs.declared.line.Mark.TheVariants as marks
use Rattle.dsec_bind.specs.declared.line.Until.{Until}
use Rattle.dsec_bind.specs.declared.line.Until.TheVariants as until

-- LF ends a line; `;` begins a comment; space and tab stand between words
abbrev pub is_mark : Mark → ℕ → Bool
is_mark marks.LineEnd octet = octet == 10
is_mark marks.Comment octet = octet == 59
is_mark marks.Blank octet = (octet == 32) || (octet == 9)

-- whether a part ends here: at the end or before a mark
abbrev pub ends_part : (ℕ → Bool) → List ℕ → Bool
ends_part is_end [] = true
ends_part is_end (octet ∷ text) = is_end octet

-- an octet at the front of the first part
abbrev pub onto : ℕ → List (List ℕ) → List (List ℕ)
onto octet [] = (octet ∷ []) ∷ []
onto octet (part ∷ parts) = (octet ∷ part) ∷ parts

-- the parts of a text that marks separate; each has an octet
unfoldable pub parts : (ℕ → Bool) → List ℕ → List (List ℕ)
parts is_end [] = []
parts is_end (octet ∷ text) =
    if is_end octet then parts is_end text
    else if ends_part is_end text then (octet ∷ []) ∷ parts is_end text
    else onto octet (parts is_end text)

-- what ends a stretch: a mark, or any octet that is none
abbrev pub is_end : Until → ℕ → Bool
is_end (until.Mark mark) octet = is_mark mark octet
is_end (until.Other mark) octet = not (is_mark mark octet)

-- the lines of a text that aren't empty
abbrev pub lines_of : List ℕ → List (List ℕ)
lines_of text = parts (is_mark marks.LineEnd) text

-- a line up to its comment
abbrev pub uncommented : List ℕ → List ℕ
uncommented line = (cut_of (is_mark marks.Comment) line).0

-- the words of a line, or of a piece of one
abbrev pub words_of : List ℕ → List (List ℕ)
words_of line = parts (is_mark marks.Blank) line

-- whether there is a word
abbrev pub has_words : List (List ℕ) → Bool
has_words [] = false
has_words (word ∷ words) = true

-- the lines of a text that have a word outside of a comment, by their words
abbrev pub worded_lines : List ℕ → List (List (List ℕ))
worded_lines text = filter has_words (map (λ line. words_of (uncommented line)) (lines_of text))

-- the only one
abbrev pub only : {A : Type 0} → List A → Option A
only (one ∷ []) = Some one
only _ = None
