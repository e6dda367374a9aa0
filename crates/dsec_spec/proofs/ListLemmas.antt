-- Lists, taken from an index on.
use Rattle.std.proofs.Common.{◌≡◌, ℕ, zero, suc, ◌<◌, List, [], ◌∷◌, length, drop, get_or, sym, ap, arith}

-- what stands at an index, and after it
pub drop_here : {A : Type 0} (xs : List A) (i : ℕ) (x : A) → i < length xs → x ≡ get_or xs i x → drop i xs ≡ x ∷ drop (suc i) xs
drop_here [] i x below is = absurd (omega (arith, below))
drop_here (y ∷ ys) zero x below is = ap (λ z. z ∷ ys) (sym is)
drop_here (y ∷ ys) (suc i) x below is = drop_here ys i x (omega (arith, below)) is
