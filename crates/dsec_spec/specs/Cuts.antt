-- Text cut in two.
use Rattle.std.specs.Prelude.{ℕ, List, [], ◌∷◌, Bool, if◌then◌else◌}

-- the octets before the first that passes a test, and those from it on
unfoldable pub cut_of : (ℕ → Bool) → List ℕ → List ℕ × List ℕ
cut_of test [] = ([], [])
cut_of test (octet ∷ text) = if test octet then ([], octet ∷ text) else (octet ∷ (cut_of test text).0, (cut_of test text).1)
