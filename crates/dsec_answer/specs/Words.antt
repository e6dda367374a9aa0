-- The words of commands, and what is written where a script is refused.
use Rattle.std.specs.Prelude.{◌≡◌, ℕ, List, [], ◌∷◌, ◌++◌, codes, decimal, None}
use Rattle.dsec_signing.specs.Words.{sign_in}
use Rattle.dsec_script.specs.declared.error.Refused.{Refused}
use Rattle.dsec_script.specs.declared.error.Word.{Word}
use Rattle.dsec_script.specs.declared.error.Word.TheVariants as words

-- what is written for other words
abbrev pub usage : List ℕ
usage = codes "usage: dsec validate|sign|reply|ask|gen\n"

-- the words of the command `validate`
abbrev pub IsValidate : List (List ℕ) → Type 0
IsValidate words = words ≡ codes "validate" ∷ []

-- words that are those of no command
abbrev pub IsNoCommand : List (List ℕ) → Type 0
IsNoCommand words = (IsValidate words → ⊥) × (sign_in words ≡ None)

-- the words for what is wrong with a line
abbrev pub word_text : Word → List ℕ
word_text words.Size = codes "size"
word_text words.Other = codes "other"
word_text words.Order = codes "order"
word_text words.Now = codes "now"
word_text words.Anchor = codes "anchor"
word_text words.Reply = codes "reply"
word_text words.Message = codes "message"
word_text words.End = codes "end"

-- the first line that is refused, and why
unfoldable pub refused_text : Refused → List ℕ
refused_text refused = codes "line " ++ decimal refused.line ++ codes ": " ++ word_text refused.word ++ 10 ∷ []
