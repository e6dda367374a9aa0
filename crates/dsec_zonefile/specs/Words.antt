-- What single words of zone text say (RFC 1035 5.1).
use Rattle.std.specs.Prelude.{ℕ, nat_le, List, [], ◌∷◌, ◌++◌, length, Option, Some, None, codes, if◌then◌else◌}
use Rattle.std.specs.Result.{result_ok}
use Rattle.std.specs.Str.{bytes_eq}
use Rattle.dsec_spec.specs.Reading.{◌>>=◌}
use Rattle.dsec_spec.specs.Names.{Labels}
use Rattle.dsec_name.specs.TextReading.{name_of_text_in}
use Rattle.dsec_text.specs.Words.{Word, octets_of, plain_of}
use Rattle.dsec_word.specs.Numbers.{number_of}
use Rattle.dsec_word.specs.Words as plain

-- a number of at most so much: a word without quotes and escapes
abbrev pub number_in : ℕ → Word → Option ℕ
number_in most word = plain_of word >>= number_of most

-- a TTL: a number below 2^32
abbrev pub ttl_in : Word → Option ℕ
ttl_in word = number_in 4294967295 word

-- a class
abbrev pub class_in : Word → Option ℕ
class_in word = plain_of word >>= plain.class_in

-- a type
abbrev pub rtype_in : Word → Option ℕ
rtype_in word = plain_of word >>= plain.rtype_in

-- a name: `@` alone is the origin, and a name without a dot at its end is relative to it; a word in quotes is none
abbrev pub name_in : Labels → Word → Option Labels
name_in origin word =
    if word.quoted then None
    else if bytes_eq word.written (codes "@") then Some origin
    else result_ok (name_of_text_in origin word.written)

-- a string: at most 255 octets, behind their number (RFC 1035 3.3)
abbrev pub string_in : Word → Option (List ℕ)
string_in word = if nat_le (length (octets_of word)) 255 then Some (length (octets_of word) ∷ octets_of word) else None

-- what each of these words says, joined; nothing where one of them says nothing
abbrev pub joined : (Word → Option (List ℕ)) → List Word → Option (List ℕ)
joined read [] = Some []
joined read (word ∷ words) = do
  first ← read word
  others ← joined read words
  Some (first ++ others)

-- the octets that words write in hex, one after the other (RFC 4648 8)
abbrev pub hex_of : List Word → Option (List ℕ)
hex_of words = joined plain_of words >>= plain.hex_in

-- the octets that words write in base64, one after the other (RFC 4648 4)
abbrev pub base64_of : List Word → Option (List ℕ)
base64_of words = joined plain_of words >>= plain.base64_in

-- octets behind those that were read before
abbrev pub added : List ℕ → Option (List ℕ) → Option (List ℕ)
added front octets = octets >>= λ more. Some (front ++ more)

-- the only word
abbrev pub only : List Word → Option Word
only (word ∷ []) = Some word
only _ = None
