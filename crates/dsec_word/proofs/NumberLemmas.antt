-- The number that a word writes.
use Rattle.std.proofs.Common.{◌≡◌, ℕ, List, [], ◌∷◌, ◌<◌, ◌≤◌, ◌^◌, ◌&&◌, length, refl, sym, ap, ◌∙◌, true, false, true≢false, Bool, arith, cond, Option, Some, None, subst}
use Rattle.std.specs.Prelude.{nat_lt, nat_le}
use Rattle.std.specs.List.{list_all}
use Rattle.std.specs.Option.{SomeIff}
use Rattle.std.specs.Char.{digit_value}
use Rattle.std.specs.Str.Parse.{AllDigits, IsNumeral, digits_value}
use Rattle.std.specs.Cmp.{first_so, second_so}
use Rattle.std.proofs.lemmas.Bool.{lt-ltb, ltb-true, le-leb, leb-true}
use Rattle.dsec_word.specs.Numbers.{is_number, number_of}

abbrev are_digits : List ℕ → Bool
are_digits word = list_all (λ octet. nat_lt (digit_value octet) 10) word

digits_told : (word : List ℕ) → AllDigits 10 word → are_digits word ≡ true
digits_told [] h = refl
digits_told (b ∷ bs) h = λ i. lt-ltb (digit_value b) 10 h.0 i && digits_told bs h.1 i

told_digits : (word : List ℕ) → are_digits word ≡ true → AllDigits 10 word
told_digits [] h = tt
told_digits (b ∷ bs) h = (ltb-true (digit_value b) 10 (first_so _ _ h), told_digits bs (second_so (nat_lt (digit_value b) 10) _ h))

-- a numeral of at most so much is a number
pub is_number-numeral : (most : ℕ) (word : List ℕ) → IsNumeral 10 word → digits_value 10 word ≤ most → is_number most word ≡ true
is_number-numeral most word h l = λ i. (lt-ltb 0 (length word) h.0 i && digits_told word h.1 i) && le-leb (digits_value 10 word) most l i

pub numeral-is_number : (most : ℕ) (word : List ℕ) → is_number most word ≡ true → IsNumeral 10 word × (digits_value 10 word ≤ most)
numeral-is_number most word h =
    let front = first_so (nat_lt 0 (length word) && are_digits word) (nat_le (digits_value 10 word) most) h in (
      (ltb-true 0 (length word) (first_so _ _ front), told_digits word (second_so (nat_lt 0 (length word)) _ front)),
      leb-true (digits_value 10 word) most (second_so (nat_lt 0 (length word) && are_digits word) _ h),
    )

number_by : (word : List ℕ) (t : Bool) (number : Option ℕ) (most : ℕ) → is_number most word ≡ t
    → SomeIff number (IsNumeral 10 word × (digits_value 10 word ≤ most)) (digits_value 10 word)
    → number ≡ cond t (Some (digits_value 10 word)) None
number_by word true None most e says = absurd (says (numeral-is_number most word e))
number_by word true (Some n) most e says = ap Some says.1
number_by word false None most e says = refl
number_by word false (Some n) most e says = absurd (true≢false (sym (is_number-numeral most word says.0.0 says.0.1) ∙ e))

-- what reads a numeral of at most so much gives the number
pub number_read : (word : List ℕ) (number : Option ℕ) (most : ℕ)
    → SomeIff number (IsNumeral 10 word × (digits_value 10 word ≤ most)) (digits_value 10 word) → number ≡ number_of most word
number_read word number most says = number_by word (is_number most word) number most refl says

-- a number below 2 ^ 64 that is at most so much
pub number_within : (word : List ℕ) (n most : ℕ) → SomeIff (Some n) (IsNumeral 10 word × (digits_value 10 word < 2 ^ 64)) (digits_value 10 word) → n ≤ most → Some n ≡ number_of most word
number_within word n most says l = number_read word (Some n) most ((says.0.0, subst (λ m. m ≤ most) says.1 l), says.1)

-- one that is more
pub number_above : (word : List ℕ) (n most : ℕ) → SomeIff (Some n) (IsNumeral 10 word × (digits_value 10 word < 2 ^ 64)) (digits_value 10 word) → most < n → None ≡ number_of most word
number_above word n most says l = number_read word None most (λ h. let k : n ≤ most = subst (λ m. m ≤ most) (sym says.1) h.1 in absurd (omega (arith, k, l)))

-- none
pub number_missing : (word : List ℕ) (most : ℕ) → most < 2 ^ 64 → SomeIff None (IsNumeral 10 word × (digits_value 10 word < 2 ^ 64)) (digits_value 10 word) → None ≡ number_of most word
number_missing word most l says = number_read word None most (λ h. says (h.0, omega (arith, h.1, l)))
