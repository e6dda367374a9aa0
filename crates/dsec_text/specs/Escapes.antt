-- Octets in zone text, which stand for themselves or are escaped (RFC 1035 5.1).
use Rattle.std.specs.Prelude.{◌≢◌, ℕ, zero, suc, ◌+◌, ◌≤◌, List, [], ◌∷◌, ◌++◌, length, drop, Bool, true, false, ◌||◌, Option, Some, None, ◌==◌, IsTrue, if◌then◌else◌}
use Rattle.std.proofs.Math.Bool.{not}
use Rattle.std.specs.Char.{is_ascii_digit, IsAsciiDigit, IsNotAsciiDigit}
use Rattle.dsec_spec.specs.Reading.{◌>>=◌}
use Rattle.dsec_name.specs.NameText.{number_of}
use Rattle.dsec_name.specs.TextReading.{read_number}

-- space and tab
abbrev pub is_blank : ℕ → Bool
is_blank octet = (octet == 32) || (octet == 9)

-- LF
abbrev pub is_line_end : ℕ → Bool
is_line_end octet = octet == 10

-- what stands between words: a blank, LF, `;`, `(` and `)`
abbrev pub is_between : ℕ → Bool
is_between octet = is_blank octet || (is_line_end octet || ((octet == 59) || ((octet == 40) || (octet == 41))))

-- whether an octet stands for itself: it is neither LF, `"` nor `\`, and outside quotes it doesn't stand between words
abbrev pub is_plain : Bool → ℕ → Bool
is_plain true octet = not (is_line_end octet || ((octet == 34) || (octet == 92)))
is_plain false octet = not (is_between octet || ((octet == 34) || (octet == 92)))

-- a text writes an octet, in quotes or outside: as itself; as `\` and the octet, which is neither a digit nor LF;
-- or as `\` and three digits of its value
pub data WritesOctet (quoted : Bool) : ℕ → List ℕ → Type 0 where
  plain : (octet : ℕ) → IsTrue (is_plain quoted octet) → WritesOctet quoted octet (octet ∷ [])
  escaped : (octet : ℕ) → IsNotAsciiDigit octet → octet ≢ 10 → WritesOctet quoted octet (92 ∷ octet ∷ [])
  numbered : (a b c : ℕ) → IsAsciiDigit a → IsAsciiDigit b → IsAsciiDigit c → number_of a b c ≤ 255 → WritesOctet quoted (number_of a b c) (92 ∷ a ∷ b ∷ c ∷ [])

-- a text writes octets, one after the other
pub data WritesOctets (quoted : Bool) : List ℕ → List ℕ → Type 0 where
  none : WritesOctets quoted [] []
  more : (octet : ℕ) (octets first rest : List ℕ) → WritesOctet quoted octet first → WritesOctets quoted octets rest → WritesOctets quoted (octet ∷ octets) (first ++ rest)

-- ---- the same, read from the front

-- the octet that three digits write, of which the first was read, and how many octets it takes with the `\`
abbrev pub digits_at : ℕ → List ℕ → Option (ℕ × ℕ)
digits_at a [] = None
digits_at a (b ∷ []) = None
digits_at a (b ∷ c ∷ text) = read_number a b c >>= λ octet. Some (octet, 4)

-- the octet that the front of a text after `\` writes, and how many octets it takes with the `\`
abbrev pub escape_at : List ℕ → Option (ℕ × ℕ)
escape_at [] = None
escape_at (a ∷ text) = if is_ascii_digit a then digits_at a text else if is_line_end a then None else Some (a, 2)

-- the octet that the front of a text writes, and how many octets it takes
abbrev pub octet_at : Bool → List ℕ → Option (ℕ × ℕ)
octet_at quoted [] = None
octet_at quoted (c ∷ text) = if is_plain quoted c then Some (c, 1) else if c == 92 then escape_at text else None

-- one more octet before those that were read
abbrev pub with_octet : ℕ × ℕ → List ℕ × ℕ → List ℕ × ℕ
with_octet first others = (first.0 ∷ others.0, first.1 + others.1)

abbrev pub front_after : (List ℕ → List ℕ × ℕ) → List ℕ → Option (ℕ × ℕ) → List ℕ × ℕ
front_after others text None = ([], 0)
front_after others text (Some first) = with_octet first (others (drop first.1 text))

abbrev pub front_within : ℕ → Bool → List ℕ → List ℕ × ℕ
front_within zero quoted text = ([], 0)
front_within (suc n) quoted text = front_after (front_within n quoted) text (octet_at quoted text)

-- the octets that a text writes from its front on, as far as it writes any, and how many octets that takes
abbrev pub front : Bool → List ℕ → List ℕ × ℕ
front quoted text = front_within (length text) quoted text
