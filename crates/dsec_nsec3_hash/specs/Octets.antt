-- Octets of a bounded number.
use Rattle.std.specs.Prelude.{ℕ, List}
use Rattle.arrayvec.specs.ArrayVec.{ArrayVec}

abbrev pub items_of : ArrayVec ℕ → List ℕ
items_of octets = octets.items
