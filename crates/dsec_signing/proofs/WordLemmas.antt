-- Lemmas on lists of words.
use Rattle.std.proofs.Common.{◌≡◌, ℕ, List, [], ◌∷◌, ◌<◌, ◌≤◌, length, get_or, map, refl, arith}

-- six things, one by one
pub six_of : {X : Type 0} (view : X → List ℕ) (words : List X) (a b c d e f : X) → 6 ≤ length words → length words < 7
    → map view words ≡ view (get_or words 0 a) ∷ view (get_or words 1 b) ∷ view (get_or words 2 c) ∷ view (get_or words 3 d) ∷ view (get_or words 4 e) ∷ view (get_or words 5 f) ∷ []
six_of view [] a b c d e f l h = absurd (omega (arith, l))
six_of view (_ ∷ []) a b c d e f l h = absurd (omega (arith, l))
six_of view (_ ∷ _ ∷ []) a b c d e f l h = absurd (omega (arith, l))
six_of view (_ ∷ _ ∷ _ ∷ []) a b c d e f l h = absurd (omega (arith, l))
six_of view (_ ∷ _ ∷ _ ∷ _ ∷ []) a b c d e f l h = absurd (omega (arith, l))
six_of view (_ ∷ _ ∷ _ ∷ _ ∷ _ ∷ []) a b c d e f l h = absurd (omega (arith, l))
six_of view (_ ∷ _ ∷ _ ∷ _ ∷ _ ∷ _ ∷ []) a b c d e f l h = refl
six_of view (_ ∷ _ ∷ _ ∷ _ ∷ _ ∷ _ ∷ _ ∷ ws) a b c d e f l h = absurd (omega (arith, h))
