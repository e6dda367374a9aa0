-- The law of hashing octets.
use Rattle.std.specs.Prelude.{◌≡◌, ℕ, List, [], ◌∷◌, IsTrue}
use Rattle.std.specs.Str.{bytes_eq}
use Rattle.std.specs.Cmp.Lexicographic.{bytes_decides}
use Rattle.std.proofs.Common.{ap}

-- equal octets hash alike
pub octets_hash_respects : (x y : List ℕ) → IsTrue (bytes_eq x y) → x ∷ [] ≡ y ∷ []
octets_hash_respects x y h = ap (λ (octets : List ℕ). octets ∷ []) ((bytes_decides x y).0 h)
