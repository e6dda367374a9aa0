-- Octets in base32hex, five bits a character, without padding (RFC 4648 6, 7, RFC 5155 3.3).
use Rattle.std.specs.Prelude.{ℕ, zero, suc, ◌+◌, ◌-◌, ◌*◌, ◌/◌, ◌%◌, ◌^◌, ◌&&◌, nat_lt, nat_le, List, [], ◌∷◌, length, map, Option, Some, None, if◌then◌else◌}
use Rattle.dsec_spec.specs.Reading.{◌>>=◌}

-- the number that digits write to a base, the highest first
unfoldable pub number_of : ℕ → List ℕ → ℕ
number_of base [] = 0
number_of base (digit ∷ digits) = digit * base ^ length digits + number_of base digits

-- the lowest so many digits of a number to a base, the highest first
unfoldable pub digits_of : ℕ → ℕ → ℕ → List ℕ
digits_of base zero number = []
digits_of base (suc n) number = number / base ^ n % base ∷ digits_of base n number

-- the character of five bits: 0 to 9, and then a to v (RFC 4648 7)
abbrev pub character_of : ℕ → ℕ
character_of digit = if nat_lt digit 10 then 48 + digit else 87 + digit

-- the five bits of a character, a letter in either case
abbrev pub digit_of : ℕ → Option ℕ
digit_of c =
    if nat_le 48 c && nat_le c 57 then Some (c - 48) else
    if nat_le 65 c && nat_le c 86 then Some (c - 55) else
    if nat_le 97 c && nat_le c 118 then Some (c - 87) else None

-- how many characters so many octets take
abbrev pub character_count : ℕ → ℕ
character_count n = (8 * n + 4) / 5

-- the text of octets: their bits from the first octet on, five a character, with bits 0 added to fill the last (RFC 4648 6)
abbrev pub base32hex : List ℕ → List ℕ
base32hex octets = let n = character_count (length octets) in
    map character_of (digits_of 32 n (number_of 256 octets * 2 ^ (5 * n - 8 * length octets)))

-- the bits of characters, five for each, where each has them
abbrev pub characters_in : List ℕ → Option (List ℕ)
characters_in [] = Some []
characters_in (c ∷ text) = do
  digit ← digit_of c
  digits ← characters_in text
  Some (digit ∷ digits)

-- the octets that a text writes: eight bits each; bits that are left over are dropped, and five of them or more, which are those of 1, 3
-- or 6 characters past the last eight, are refused
abbrev pub octets_in_base32hex : List ℕ → Option (List ℕ)
octets_in_base32hex text = let left = 5 * length text % 8 in do
  digits ← characters_in text
  if nat_le 5 left then None else Some (digits_of 256 (5 * length text / 8) (number_of 32 digits / 2 ^ left))
