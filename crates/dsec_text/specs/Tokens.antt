-- The tokens of zone text: words, and what stands between them (RFC 1035 5.1).
use Rattle.std.specs.Prelude.{◌≡◌, ◌≢◌, ℕ, zero, suc, ◌+◌, ◌<◌, List, [], ◌∷◌, ◌++◌, length, take, drop, All, Bool, true, false, ◌==◌, IsTrue, if◌then◌else◌}
use Rattle.std.specs.List.{position_or_len}
use Rattle.dsec_text.specs.Escapes.{is_blank, is_line_end, is_between, WritesOctets, front}
use Rattle.dsec_text.specs.declared.token.Kind.{Kind}
use Rattle.dsec_text.specs.declared.token.Kind.TheVariants.{Blank, Comment, LineEnd, Open, Close, Plain, Quoted, Bad}

-- a token: its kind, and its octets
pub record Token : Type 0 where
  pub kind : Kind
  pub octets : List ℕ

-- the octets are a token of a kind: a blank, a comment up to its line's end, LF, a parenthesis, a word or a quoted word
pub data IsToken : Kind → List ℕ → Type 0 where
  blank : (octet : ℕ) → IsTrue (is_blank octet) → IsToken Blank (octet ∷ [])
  comment : (octets : List ℕ) → All (λ octet. octet ≢ 10) octets → IsToken Comment (59 ∷ octets)
  line_end : IsToken LineEnd (10 ∷ [])
  opening : IsToken Open (40 ∷ [])
  closing : IsToken Close (41 ∷ [])
  word : (octets text : List ℕ) → 0 < length text → WritesOctets false octets text → IsToken Plain text
  quoted : (octets text : List ℕ) → WritesOctets true octets text → IsToken Quoted (34 ∷ text ++ 34 ∷ [])

-- what may stand behind a token: behind a comment LF, behind a word what stands between words; or the end of the text
abbrev pub MayFollow : Kind → List ℕ → Type 0
MayFollow kind [] = Unit {0}
MayFollow Comment (octet ∷ text) = octet ≡ 10
MayFollow Plain (octet ∷ text) = IsTrue (is_between octet)
MayFollow Quoted (octet ∷ text) = IsTrue (is_between octet)
MayFollow _ (octet ∷ text) = Unit {0}

-- a text has a token at its front
pub record StartsWith (kind : Kind) (octets rest text : List ℕ) : Type 0 where
  pub is : text ≡ octets ++ rest
  pub token : IsToken kind octets
  pub followed : MayFollow kind rest

-- a text is made of tokens; from a place on where none stands it is bad
pub data IsMadeOf : List Token → List ℕ → Type 0 where
  end : IsMadeOf [] []
  more : (kind : Kind) (octets rest text : List ℕ) (tokens : List Token) → StartsWith kind octets rest text → IsMadeOf tokens rest → IsMadeOf (record { kind = kind; octets = octets } ∷ tokens) text
  bad : (text : List ℕ) → 0 < length text → ((kind : Kind) (octets rest : List ℕ) → StartsWith kind octets rest text → ⊥) → IsMadeOf (record { kind = Bad; octets = text } ∷ []) text

-- ---- the same, read from the front

-- whether a word may end before a text
abbrev pub ends_word : List ℕ → Bool
ends_word [] = true
ends_word (octet ∷ text) = is_between octet

-- the kind of the token at the front of a text that begins with an octet of a word, and how many octets it has
abbrev pub word_at : List ℕ → Kind × ℕ
word_at text = if ends_word (drop (front false text).1 text) then (Plain, (front false text).1) else (Bad, length text)

-- whether a quoted word may end before a text, with `"`
abbrev pub ends_quote : List ℕ → Bool
ends_quote [] = false
ends_quote (octet ∷ text) = if octet == 34 then ends_word text else false

-- the same, of the token whose `"` stands before a text
abbrev pub quoted_at : List ℕ → Kind × ℕ
quoted_at text = if ends_quote (drop (front true text).1 text) then (Quoted, (front true text).1 + 2) else (Bad, length text + 1)

-- the kind of the token at the front of a text, and how many octets it has
abbrev pub token_at : List ℕ → Kind × ℕ
token_at [] = (Bad, 0)
token_at (octet ∷ text) =
    if is_blank octet then (Blank, 1)
    else if is_line_end octet then (LineEnd, 1)
    else if octet == 40 then (Open, 1)
    else if octet == 41 then (Close, 1)
    else if octet == 59 then (Comment, position_or_len is_line_end text + 1)
    else if octet == 34 then quoted_at text
    else word_at (octet ∷ text)

abbrev pub tokens_within : ℕ → List ℕ → List Token
tokens_within zero text = []
tokens_within (suc n) [] = []
tokens_within (suc n) (octet ∷ text) =
    record { kind = (token_at (octet ∷ text)).0; octets = take (token_at (octet ∷ text)).1 (octet ∷ text) }
    ∷ tokens_within n (drop (token_at (octet ∷ text)).1 (octet ∷ text))

-- the tokens that a text is made of
abbrev pub tokens_of : List ℕ → List Token
tokens_of text = tokens_within (length text) text
