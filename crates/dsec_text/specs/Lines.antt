-- The lines of zone text, which parentheses join (RFC 1035 5.1).
use Rattle.std.specs.Prelude.{◌≡◌, ℕ, zero, suc, ◌+◌, List, [], ◌∷◌, ◌++◌, length, Bool, true, false, Option, Some, None, Result, Ok, Err, if◌then◌else◌}
use Rattle.std.specs.List.{count_by}
use Rattle.dsec_text.specs.Escapes.{is_blank, is_line_end}
use Rattle.dsec_text.specs.Tokens.{Token, tokens_of}
use Rattle.dsec_text.specs.Words.{Word, words_of}
use Rattle.dsec_text.specs.declared.token.Kind.{Kind}
use Rattle.dsec_text.specs.declared.token.Kind.TheVariants.{LineEnd, Open, Close, Bad}
use Rattle.dsec_text.specs.declared.line.Span.{Span}
use Rattle.dsec_text.specs.declared.line.BadLine.{BadLine}

-- whether a token ends its line: LF outside parentheses
abbrev pub ends_line : ℕ → Kind → Bool
ends_line zero LineEnd = true
ends_line _ _ = false

-- how many parentheses are open after a token; none where it may not stand here
abbrev pub depth_after : ℕ → Kind → Option ℕ
depth_after depth Open = Some (suc depth)
depth_after zero Close = None
depth_after (suc depth) Close = Some depth
depth_after depth Bad = None
depth_after depth _ = Some depth

-- octets at the front of the first line; a line that is refused stays so
abbrev pub onto : List ℕ → List (Option (List ℕ)) → List (Option (List ℕ))
onto octets [] = Some octets ∷ []
onto octets (None ∷ lines) = None ∷ []
onto octets (Some line ∷ lines) = Some (octets ++ line) ∷ lines

-- the line goes on by a token, unless it may not stand there
abbrev pub going_on : List ℕ → (ℕ → List (Option (List ℕ))) → Option ℕ → List (Option (List ℕ))
going_on octets others None = None ∷ []
going_on octets others (Some depth) = onto octets (others depth)

-- the lines where a text ends: none, but within parentheses a refused one
abbrev pub lines_at_end : ℕ → List (Option (List ℕ))
lines_at_end zero = []
lines_at_end (suc depth) = None ∷ []

-- the lines of tokens, of which the first has so many open parentheses; a line has its LF with it. None is a line that is
-- refused, by a bad token, by `)` without `(`, or by the end of the text within parentheses; after it comes no other.
abbrev pub lines_from : ℕ → List Token → List (Option (List ℕ))
lines_from depth [] = lines_at_end depth
lines_from depth (token ∷ tokens) =
    if ends_line depth token.kind then Some token.octets ∷ lines_from zero tokens
    else going_on token.octets (λ next. lines_from next tokens) (depth_after depth token.kind)

-- the lines of a text
abbrev pub lines_of : List ℕ → List (Option (List ℕ))
lines_of text = lines_from 0 (tokens_of text)

-- a text begins with a line, which is made of the same tokens alone as there, and other lines follow
pub record BeginsWith (line text : List ℕ) (others : List (Option (List ℕ))) : Type 0 where
  pub rest : List ℕ
  pub is : text ≡ line ++ rest
  pub tokens : tokens_of text ≡ tokens_of line ++ tokens_of rest
  pub follow : others ≡ lines_of rest

-- whether a line's first octet is a blank
abbrev pub begins_with_blank : List ℕ → Bool
begins_with_blank [] = false
begins_with_blank (octet ∷ line) = is_blank octet

-- how many line ends octets have
abbrev pub line_ends : List ℕ → ℕ
line_ends octets = count_by is_line_end octets

-- what was found after so many octets with so many line ends
abbrev pub moved : ℕ → ℕ → Result (Option Span) BadLine → Result (Option Span) BadLine
moved octets lines (Err bad) = Err (record { before = lines + bad.before })
moved octets lines (Ok None) = Ok None
moved octets lines (Ok (Some span)) = Ok (Some (record { before = lines + span.before; start = octets + span.start; end = octets + span.end }))

-- the first line or what comes after it, by its words
abbrev pub line_or : List ℕ → List Word → Result (Option Span) BadLine → Result (Option Span) BadLine
line_or line [] others = moved (length line) (line_ends line) others
line_or line (word ∷ words) others = Ok (Some (record { before = 0; start = 0; end = length line }))

-- where the first line with a word stands; refused where a line before it is, or the line itself
abbrev pub first_of : List (Option (List ℕ)) → Result (Option Span) BadLine
first_of [] = Ok None
first_of (None ∷ lines) = Err (record { before = 0 })
first_of (Some line ∷ lines) = line_or line (words_of line) (first_of lines)

-- where the first line of a text with a word stands
abbrev pub first_line_of : List ℕ → Result (Option Span) BadLine
first_line_of text = first_of (lines_of text)
