-- Numbers in decimal digits.
use Rattle.std.specs.Prelude.{ℕ, ◌&&◌, nat_lt, nat_le, List, length, Bool, Option, Some, None, if◌then◌else◌}
use Rattle.std.specs.List.{list_all}
use Rattle.std.specs.Char.{digit_value}
use Rattle.std.specs.Str.Parse.{digits_value}

-- whether a word is a number of at most so much: one or more decimal digits and nothing else, with leading zeros or without
abbrev pub is_number : ℕ → List ℕ → Bool
is_number most word =
    nat_lt 0 (length word) && list_all (λ octet. nat_lt (digit_value octet) 10) word && nat_le (digits_value 10 word) most

-- the number that a word writes, if it is one of at most so much
abbrev pub number_of : ℕ → List ℕ → Option ℕ
number_of most word = if is_number most word then Some (digits_value 10 word) else None
