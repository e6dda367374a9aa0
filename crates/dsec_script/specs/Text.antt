-- A text's lines, and their words.
use Rattle.std.specs.Prelude.{ℕ, ◌==◌, ◌&&◌, ◌||◌, List, [], ◌∷◌, Bool, true, false, Option, Some, None, if◌then◌else◌}
use Rattle.std.proofs.Math.Bool.{not}
use Rattle.dsec_spec.specs.Cuts.{cut_of}

-- LF, which ends a line
abbrev pub is_line_end : ℕ → Bool
is_line_end octet = octet == 10

-- CR
abbrev pub is_return : ℕ → Bool
is_return octet = octet == 13

-- space and tab, which stand between words
abbrev pub is_blank : ℕ → Bool
is_blank octet = (octet == 32) || (octet == 9)

-- whether the next octet ends a line
abbrev pub ends_line : List ℕ → Bool
ends_line [] = false
ends_line (octet ∷ text) = is_line_end octet

-- an octet at the front of the first line
abbrev pub onto : ℕ → List (List ℕ) → List (List ℕ)
onto octet [] = (octet ∷ []) ∷ []
onto octet (line ∷ lines) = (octet ∷ line) ∷ lines

-- the lines of a text: LF ends each, and a last one without LF is one where it has an octet; a CR directly before an LF is dropped
unfoldable pub lines_of : List ℕ → List (List ℕ)
lines_of [] = []
lines_of (octet ∷ text) =
    if is_line_end octet then [] ∷ lines_of text
    else if is_return octet && ends_line text then lines_of text
    else onto octet (lines_of text)

-- whether a word ends here: at the end or before a blank
abbrev pub ends_word : List ℕ → Bool
ends_word [] = true
ends_word (octet ∷ text) = is_blank octet

-- the words of a line, which blanks separate
unfoldable pub words_of : List ℕ → List (List ℕ)
words_of [] = []
words_of (octet ∷ line) =
    if is_blank octet then words_of line
    else if ends_word line then (octet ∷ []) ∷ words_of line
    else onto octet (words_of line)

-- what words consist of
abbrev pub is_no_blank : ℕ → Bool
is_no_blank octet = not (is_blank octet)

-- what stands from the first word on
abbrev pub after_blanks : List ℕ → List ℕ
after_blanks line = (cut_of is_no_blank line).1

-- the word that a text begins with, and what stands after it; none where it is empty
abbrev pub cut_word : List ℕ → Option (List ℕ × List ℕ)
cut_word [] = None
cut_word (octet ∷ text) = Some (cut_of is_blank (octet ∷ text))

-- the first word of a line, and what stands after it; none where it has no word
abbrev pub first_word_of : List ℕ → Option (List ℕ × List ℕ)
first_word_of line = cut_word (after_blanks line)

-- a line without a CR at its end
unfoldable pub without_return : List ℕ → List ℕ
without_return [] = []
without_return (octet ∷ []) = if is_return octet then [] else octet ∷ []
without_return (octet ∷ next ∷ line) = octet ∷ without_return (next ∷ line)
