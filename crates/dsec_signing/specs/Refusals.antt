-- What is written where the zone text is refused.
use Rattle.std.specs.Prelude.{ℕ, List, [], ◌∷◌, ◌++◌, codes, decimal}
use Rattle.dsec_signing.specs.declared.error.Refused.{Refused}
use Rattle.dsec_signing.specs.declared.error.Word.{Word}
use Rattle.dsec_signing.specs.declared.error.Word.TheVariants as words

-- the words for what is wrong with a line
abbrev pub word_text : Word → List ℕ
word_text words.Size = codes "size"
word_text words.Zone = codes "zone"

-- the line that is refused, and why
unfoldable pub refused_text : Refused → List ℕ
refused_text refused = codes "line " ++ decimal refused.line ++ codes ": " ++ word_text refused.word ++ 10 ∷ []
