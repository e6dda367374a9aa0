-- Texts that go out in blocks.
use Rattle.std.specs.Prelude.{◌≡◌, ℕ, List, ◌++◌, Option}
use Rattle.std.specs.Io.KnownBytes.{Appends}

-- all of a text but the rest at its end went out
pub record SentBut (before after : Option (List ℕ)) (text rest : List ℕ) : Type 0 where
  pub sent : List ℕ
  pub went : Appends before after sent
  pub is : text ≡ sent ++ rest
