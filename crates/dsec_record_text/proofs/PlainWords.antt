-- Words that stand for themselves.
use Rattle.std.proofs.Common.{◌≡◌, ℕ, zero, suc, List, [], ◌∷◌, ◌++◌, ◌<◌, ◌≤◌, ◌/◌, ◌%◌, ◌^◌, ◌&&◌, length, refl, ap, true, false, Bool, arith, cond, codes, Some, None, slice_index}
use Rattle.std.specs.Prelude.{◌||◌, decimal, All}
use Rattle.std.specs.List.{list_all, list_any}
use Rattle.std.specs.Cmp.{first_so, second_so}
use Rattle.std.specs.Str.{IsAscii}
use Rattle.std.specs.Str.Parse.{AllDigits}
use Rattle.std.proofs.lemmas.Fmt.{decimal_is_IsNumeral}
use Rattle.std.proofs.lemmas.List.Sums.{AllPass-from_list_all}
use Rattle.std.proofs.lemmas.Str.{IsUtf8-from_ascii, is_utf8-from_IsUtf8}
use Rattle.std.proofs.lemmas.Str.Ascii.{IsAscii-cons, IsAscii-nil}
use Rattle.std.proofs.lemmas.Str.Parse.{digit_from_value}
use Rattle.std.proofs.lemmas.Grind.{common_steps}
use Rattle.std.proofs.lemmas.Bool.Decides.{nat_tests}
use Rattle.hex.specs.Hex.{encode_with, encode_lower, lower_digits, IsBytes}
use Rattle.dsec_name.specs.NameDisplay.{is_shown}
use Rattle.dsec_text.specs.Escapes.{is_plain, WritesOctets}
use Rattle.dsec_text.specs.Escapes.WritesOctet.{plain}
use Rattle.dsec_text.specs.Escapes.WritesOctets.{none, more}
use Rattle.dsec_text.specs.Words.{Word, is_backslash, plain_of}
use Rattle.dsec_word.specs.Words.{text_of}

-- what stands as a word outside quotes
pub record IsWord (word : List ℕ) : Type 0 where
  pub octets : List ℕ
  pub some : 0 < length word
  pub writes : WritesOctets false octets word

-- a word of letters, digits, `-`, `_` or `*` alone
pub record IsPlainWord (word : List ℕ) : Type 0 where
  pub some : 0 < length word
  pub octets : list_all is_shown word ≡ true

-- a word outside quotes
abbrev pub bare : List ℕ → Word
bare word = record { written = word; quoted = false }

pub shown_plain : (b : ℕ) → is_shown b ≡ true → is_plain false b ≡ true
shown_plain b e = grind (arith, common_steps, nat_tests)

shown_low : (b : ℕ) → is_shown b ≡ true → b < 128
shown_low b e = grind (arith, common_steps, nat_tests)

shown_free : (b : ℕ) → is_shown b ≡ true → is_backslash b ≡ false
shown_free b e = grind (arith, common_steps, nat_tests)

digit_shown : (b : ℕ) → 48 ≤ b → b < 58 → is_shown b ≡ true
digit_shown b low high = grind (arith, common_steps, nat_tests)

head_of : (b : ℕ) (bs : List ℕ) → list_all is_shown (b ∷ bs) ≡ true → is_shown b ≡ true
head_of b bs e = first_so (is_shown b) (list_all is_shown bs) e

tail_of : (b : ℕ) (bs : List ℕ) → list_all is_shown (b ∷ bs) ≡ true → list_all is_shown bs ≡ true
tail_of b bs e = second_so (is_shown b) (list_all is_shown bs) e

writes_shown : (word : List ℕ) → list_all is_shown word ≡ true → WritesOctets false word word
writes_shown [] e = none
writes_shown (b ∷ bs) e = more b bs (b ∷ []) bs (plain b (shown_plain b (head_of b bs e))) (writes_shown bs (tail_of b bs e))

pub plain_word : (word : List ℕ) → IsPlainWord word → IsWord word
plain_word word h = record { octets = word; some = h.some; writes = writes_shown word h.octets }

free_of : (word : List ℕ) → list_all is_shown word ≡ true → list_any is_backslash word ≡ false
free_of [] e = refl
free_of (b ∷ bs) e = λ i. shown_free b (head_of b bs e) i || free_of bs (tail_of b bs e) i

-- it stands for itself
pub plain_back : (word : List ℕ) → list_all is_shown word ≡ true → plain_of (bare word) ≡ Some word
plain_back word e = ap (λ (t : Bool). cond t None (Some word)) (free_of word e)

word_ascii : (word : List ℕ) → list_all is_shown word ≡ true → IsAscii word
word_ascii [] e = IsAscii-nil
word_ascii (b ∷ bs) e = IsAscii-cons b bs (shown_low b (head_of b bs e)) (word_ascii bs (tail_of b bs e))

-- and is a text
pub text_back : (word : List ℕ) → list_all is_shown word ≡ true → text_of word ≡ Some word
text_back word e = ap (λ (t : Bool). cond t (Some word) None) (is_utf8-from_IsUtf8 word (IsUtf8-from_ascii word (word_ascii word e)))

-- ---- numbers

digits_shown : (word : List ℕ) → AllDigits 10 word → list_all is_shown word ≡ true
digits_shown [] h = refl
digits_shown (b ∷ bs) h =
    let digit = digit_from_value b h.0 in
    λ i. digit_shown b (omega (arith, digit)) (omega (arith, digit)) i && digits_shown bs h.1 i

pub decimal_word : (n : ℕ) → n < 2 ^ 64 → IsPlainWord (decimal n)
decimal_word n l =
    let numeral = decimal_is_IsNumeral n l in
    record { some = numeral.0.0; octets = digits_shown (decimal n) numeral.0.1 }

pub class_word : (n : ℕ) → n < 2 ^ 64 → IsPlainWord (codes "CLASS" ++ decimal n)
class_word n l = record { some = omega arith; octets = (decimal_word n l).octets }

pub type_word : (n : ℕ) → n < 2 ^ 64 → IsPlainWord (codes "TYPE" ++ decimal n)
type_word n l = record { some = omega arith; octets = (decimal_word n l).octets }

-- ---- hex

symbol_shown : (i : ℕ) → i < 16 → is_shown (slice_index lower_digits i) ≡ true
symbol_shown i l = AllPass-from_list_all is_shown lower_digits refl i 0 l

pub bytes : (x : List ℕ) → All (λ octet. octet < 256) x → IsBytes x
bytes [] h i = omega arith
bytes (b ∷ bs) h zero = h 0 0 (omega arith)
bytes (b ∷ bs) h (suc i) = bytes bs (λ k d l. h (suc k) d (omega (arith, l))) i

pub hex_shown : (x : List ℕ) → IsBytes x → list_all is_shown (encode_lower x) ≡ true
unfolding encode_with
hex_shown [] h = refl
hex_shown (b ∷ bs) h =
    let l : b < 256 = h 0 in
    λ i. symbol_shown (b / 16) (omega (arith, l)) i && (symbol_shown (b % 16) (omega arith) i && hex_shown bs (λ k. h (suc k)) i)
