-- What single words say: texts, names, types, octets.
use Rattle.std.specs.Prelude.{ℕ, List, length, take, drop, Bool, true, false, Option, Some, None, codes, if◌then◌else◌}
use Rattle.std.specs.Result.{result_ok}
use Rattle.std.specs.Str.{is_utf8, str_eq_ignore_ascii_case}
use Rattle.hex.specs.Hex as hex
use Rattle.base64.specs.GeneralPurpose as base64
use Rattle.base64.specs.Engines.{standard}
use Rattle.dsec_spec.specs.Reading.{◌>>=◌}
use Rattle.dsec_spec.specs.Names.{Labels}
use Rattle.dsec_number.specs.Words.{class_words, named_of, type_words}
use Rattle.dsec_name.specs.TextReading.{name_of_text}
use Rattle.dsec_word.specs.Numbers.{number_of}
use Rattle.dsec_word.specs.declared.error.ReadError.{ReadError}
use Rattle.dsec_word.specs.declared.error.ReadError.TheVariants as errors

-- want of memory, which may come at any time
abbrev pub wants_memory : ReadError → Bool
wants_memory errors.NoMemory = true
wants_memory errors.Bad = false

-- the text that a word is, if it is UTF-8
abbrev pub text_of : List ℕ → Option (List ℕ)
text_of word = if is_utf8 word then Some word else None

-- the name that a word writes
abbrev pub name_in : List ℕ → Option Labels
name_in word = do
  text ← text_of word
  result_ok (name_of_text text)

-- the number of a name, or the one after a prefix in either case (RFC 3597 5)
abbrev pub number_after : List ℕ → Option ℕ → List ℕ → Option ℕ
number_after prefix (Some number) text = Some number
number_after prefix None text = if str_eq_ignore_ascii_case (take (length prefix) text) prefix then number_of 65535 (drop (length prefix) text) else None

-- the type that a word writes
abbrev pub rtype_in : List ℕ → Option ℕ
rtype_in word = do
  text ← text_of word
  number_after (codes "TYPE") (named_of type_words text) text

-- the class that a word writes
abbrev pub class_in : List ℕ → Option ℕ
class_in word = do
  text ← text_of word
  number_after (codes "CLASS") (named_of class_words text) text

-- the octets that a word writes as an even number of hex digits of either case
abbrev pub hex_in : List ℕ → Option (List ℕ)
hex_in word = result_ok (hex.decode_of word)

-- the octets that a word writes in base64: the standard alphabet, with padding, spare bits zero (RFC 4648 4)
abbrev pub base64_in : List ℕ → Option (List ℕ)
base64_in word = result_ok (base64.decode_of standard word)
