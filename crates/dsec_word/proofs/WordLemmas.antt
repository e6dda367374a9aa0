-- Texts and types that words write.
use Rattle.std.proofs.Common.{◌≡◌, ℕ, List, ◌<◌, ◌≤◌, ◌^◌, length, take, drop, refl, sym, ap, ◌∙◌, true, false, true≢false, Bool, arith, cond, Option, Some, None}
use Rattle.std.specs.Prelude.{IfSome, IfNone}
use Rattle.std.specs.Option.{SomeIff}
use Rattle.std.specs.Str.{IsUtf8, is_utf8, str_eq_ignore_ascii_case}
use Rattle.std.specs.Str.Parse.{IsNumeral, digits_value}
use Rattle.std.proofs.lemmas.Str.{IsUtf8-from_is_utf8, is_utf8-from_IsUtf8}
use Rattle.dsec_number.specs.Words.{IsNumberOf, IsNumbered, IsShortNumeral, Words, named_of}
use Rattle.dsec_word.specs.Numbers.{number_of}
use Rattle.dsec_word.specs.Words.{number_after, text_of}
use Rattle.dsec_word.proofs.NumberLemmas.{number_read}

-- UTF-8 is a text
pub text_read : (word text : List ℕ) → text ≡ word → IsUtf8 word → Some text ≡ text_of word
text_read word text e h = ap Some e ∙ ap (λ t. cond t (Some word) None) (sym (is_utf8-from_IsUtf8 word h))

no_text_by : (word : List ℕ) (t : Bool) → is_utf8 word ≡ t → (IsUtf8 word → ⊥) → None ≡ cond t (Some word) None
no_text_by word true e h = absurd (h (IsUtf8-from_is_utf8 word e))
no_text_by word false e h = refl

-- anything else is none
pub no_text : (word : List ℕ) → (IsUtf8 word → ⊥) → None ≡ text_of word
no_text word h = no_text_by word (is_utf8 word) refl h

short_digits : (digits : List ℕ) (number : Option ℕ) → SomeIff number (IsShortNumeral digits) (digits_value 10 digits)
    → SomeIff number (IsNumeral 10 digits × (digits_value 10 digits ≤ 65535)) (digits_value 10 digits)
short_digits digits None says = λ h. says (record { numeral = h.0; fits = omega (arith, h.1) })
short_digits digits (Some n) says = ((says.0.numeral, let l : digits_value 10 digits < 2 ^ 16 = says.0.fits in omega (arith, l)), says.1)

numbered_by : (prefix text : List ℕ) (t : Bool) (number : Option ℕ) → str_eq_ignore_ascii_case (take (length prefix) text) prefix ≡ t
    → SomeIff number (IsNumbered prefix text) (digits_value 10 (drop (length prefix) text)) → number ≡ cond t (number_of 65535 (drop (length prefix) text)) None
numbered_by prefix text true None e says = number_read (drop (length prefix) text) None 65535 (short_digits (drop (length prefix) text) None (λ h. says (record { begins = e; numeral = h })))
numbered_by prefix text true (Some n) e says = number_read (drop (length prefix) text) (Some n) 65535 (short_digits (drop (length prefix) text) (Some n) (says.0.numeral, says.1))
numbered_by prefix text false None e says = refl
numbered_by prefix text false (Some n) e says = absurd (true≢false (sym says.0.begins ∙ e))

named_by : (prefix text : List ℕ) (named number : Option ℕ) → IfSome named (λ n. number ≡ Some n) → IfNone named (SomeIff number (IsNumbered prefix text) (digits_value 10 (drop (length prefix) text)))
    → number ≡ number_after prefix named text
named_by prefix text None number some none = numbered_by prefix text (str_eq_ignore_ascii_case (take (length prefix) text) prefix) number refl none
named_by prefix text (Some n) number some none = some

-- what a word stands for as a type or a class
pub number_found : (words : Words) (prefix text : List ℕ) (number : Option ℕ) → IsNumberOf words prefix text number → number ≡ number_after prefix (named_of words text) text
number_found words prefix text number says = named_by prefix text (named_of words text) number says.named says.numbered
