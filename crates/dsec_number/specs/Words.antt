-- Words for numbers: a name from a table, or a prefix and decimal digits (RFC 3597 5).
use Rattle.std.specs.Prelude.{◌≡◌, ℕ, ◌^◌, ◌<◌, nat_eq, List, [], ◌∷◌, ◌++◌, length, take, drop, find, codes, Option, None, Some, IfSome, IfNone, true}
use Rattle.std.specs.Option.{option_map, SomeIff}
use Rattle.std.specs.Str.{str_eq_ignore_ascii_case}
use Rattle.std.specs.Fmt.{decimal}
use Rattle.std.specs.Str.Parse.{IsNumeral, digits_value}

-- words with their numbers
abbrev pub Words : Type 0
Words = List (List ℕ × ℕ)

-- the words of types (RFC 1035 3.2.2, 3.2.3, RFC 3596, RFC 2782, RFC 6672, RFC 6891, RFC 4034, RFC 5155, RFC 7344)
abbrev pub type_words : Words
type_words =
    (codes "A", 1)
    ∷ (codes "NS", 2)
    ∷ (codes "CNAME", 5)
    ∷ (codes "SOA", 6)
    ∷ (codes "PTR", 12)
    ∷ (codes "HINFO", 13)
    ∷ (codes "MX", 15)
    ∷ (codes "TXT", 16)
    ∷ (codes "AAAA", 28)
    ∷ (codes "SRV", 33)
    ∷ (codes "DNAME", 39)
    ∷ (codes "OPT", 41)
    ∷ (codes "DS", 43)
    ∷ (codes "RRSIG", 46)
    ∷ (codes "NSEC", 47)
    ∷ (codes "DNSKEY", 48)
    ∷ (codes "NSEC3", 50)
    ∷ (codes "NSEC3PARAM", 51)
    ∷ (codes "CDS", 59)
    ∷ (codes "CDNSKEY", 60)
    ∷ (codes "ANY", 255) ∷ []

-- the words of classes (RFC 1035 3.2.4)
abbrev pub class_words : Words
class_words = (codes "IN", 1) ∷ (codes "CH", 3) ∷ []

-- decimal digits alone, whose number is below 2 ^ 16
pub record IsShortNumeral (digits : List ℕ) : Type 0 where
  pub numeral : IsNumeral 10 digits
  pub fits : digits_value 10 digits < 2 ^ 16

-- the prefix, in either case, and a number below 2 ^ 16
pub record IsNumbered (prefix word : List ℕ) : Type 0 where
  pub begins : str_eq_ignore_ascii_case (take (length prefix) word) prefix ≡ true
  pub numeral : IsShortNumeral (drop (length prefix) word)

-- the number of the first of the words that this is, in either case
abbrev pub named_of : Words → List ℕ → Option ℕ
named_of words word = option_map (λ row. row.1) (find (λ row. str_eq_ignore_ascii_case row.0 word) words)

-- the number that a word stands for: a named one, else the one after the prefix
pub record IsNumberOf (words : Words) (prefix word : List ℕ) (number : Option ℕ) : Type 0 where
  pub named : IfSome (named_of words word) (λ n. number ≡ Some n)
  pub numbered : IfNone (named_of words word) (SomeIff number (IsNumbered prefix word) (digits_value 10 (drop (length prefix) word)))

-- the word that was found, or the prefix and the number where none was
abbrev pub word_or_number : List ℕ → ℕ → Option (List ℕ × ℕ) → List ℕ
word_or_number prefix number None = prefix ++ decimal number
word_or_number prefix number (Some row) = row.0

-- the word for a number: the first with it, else the prefix and the number
abbrev pub word_of : Words → List ℕ → ℕ → List ℕ
word_of words prefix number = word_or_number prefix number (find (λ row. nat_eq row.1 number) words)

-- each number below 2 ^ 16 is the one that its own word stands for
abbrev pub ReadsBack : Words → List ℕ → Type 0
ReadsBack words prefix = (n : ℕ) → n < 2 ^ 16 → IsNumberOf words prefix (word_of words prefix n) (Some n)
