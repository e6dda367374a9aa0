-- Texts of which not all went out.
use Rattle.std.specs.Prelude.{◌<◌, ℕ, List, Option, length, take}
use Rattle.std.specs.Io.KnownBytes.{Appends}

-- where it is told what was written, a front of the text was added to it, and not all of the text
abbrev pub SentPart : Option (List ℕ) → Option (List ℕ) → List ℕ → Type 0
SentPart before after text = (n : ℕ) × (n < length text) × Appends before after (take n text)
