-- Words, and the octets that they stand for (RFC 1035 5.1).
use Rattle.std.specs.Prelude.{ℕ, ◌-◌, List, [], ◌∷◌, length, take, drop, Bool, true, false, ◌||◌, ◌&&◌, Option, Some, None, ◌==◌, if◌then◌else◌}
use Rattle.std.specs.List.{list_any}
use Rattle.std.specs.Str.{bytes_eq}
use Rattle.std.proofs.Math.Bool.{not}
use Rattle.dsec_text.specs.Escapes.{front}
use Rattle.dsec_text.specs.Tokens.{Token, tokens_of}
use Rattle.dsec_text.specs.declared.token.Kind.{Kind}
use Rattle.dsec_text.specs.declared.token.Kind.TheVariants.{Plain, Quoted}
use Rattle.dsec_text.specs.declared.word.Word as code

-- a word: its octets as written, without the quotes and with the escapes, and whether it stood in quotes
pub record Word : Type 0 where
  pub written : List ℕ
  pub quoted : Bool

-- a word of the code
abbrev pub word_view : code.Word → Word
word_view word = record { written = word.written.now; quoted = word.quoted }

-- the octets between the first and the last
abbrev pub inner : List ℕ → List ℕ
inner octets = take (length octets - 2) (drop 1 octets)

-- the word that a token is, if it is one
abbrev pub word_in : Kind → List ℕ → Option Word
word_in Plain octets = Some (record { written = octets; quoted = false })
word_in Quoted octets = Some (record { written = inner octets; quoted = true })
word_in _ octets = None

abbrev pub with_word : Option Word → List Word → List Word
with_word None words = words
with_word (Some word) words = word ∷ words

-- the words among tokens
abbrev pub words_in : List Token → List Word
words_in [] = []
words_in (token ∷ tokens) = with_word (word_in token.kind token.octets) (words_in tokens)

-- the words of a line
abbrev pub words_of : List ℕ → List Word
words_of line = words_in (tokens_of line)

-- the octets that a word stands for
abbrev pub octets_of : Word → List ℕ
octets_of word = (front word.quoted word.written).0

-- whether an octet is `\`
abbrev pub is_backslash : ℕ → Bool
is_backslash octet = octet == 92

-- the octets of a word without quotes and escapes
abbrev pub plain_of : Word → Option (List ℕ)
plain_of word = if word.quoted || list_any is_backslash word.written then None else Some word.written

-- the mark of data in the generic form: `\#` outside quotes (RFC 3597 5)
abbrev pub is_generic_mark : Word → Bool
is_generic_mark word = not word.quoted && bytes_eq word.written (92 ∷ 35 ∷ [])
