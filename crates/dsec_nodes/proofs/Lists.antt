-- What stands at an index of a list.
use Rattle.std.proofs.Common.{◌≡◌, ℕ, zero, suc, Bool, true, false, cond, List, [], ◌∷◌, map, Some, None, refl, ap, ◌∙◌, subst}
use Rattle.std.specs.Prelude.{position, slice_get, nat_lt, length}
use Rattle.std.specs.List.{AllByRecursion, position_or_len}
use Rattle.std.proofs.lemmas.Option.{same_Some}
use Rattle.dsec_nodes.proofs.Signs.{after_those_failing}

-- what holds of each holds of it
pub all_at : {A : Type 0} (P : A → Type 0) (xs : List A) (k : ℕ) (x : A) → AllByRecursion P xs → slice_get xs k ≡ Some x → P x
all_at P [] k x h e = absurd cc
all_at P (y ∷ ys) zero x h e = subst P (same_Some y x e) h.0
all_at P (y ∷ ys) (suc k) x h e = all_at P ys k x h.1 e

-- in a list of what others are mapped to, it is what one of them is
pub from_mapped_at : {A B : Type 0} (f : A → B) (xs : List A) (k : ℕ) (y : B) → slice_get (map f xs) k ≡ Some y
    → (x : A) × (slice_get xs k ≡ Some x) × (f x ≡ y)
from_mapped_at f [] k y e = absurd cc
from_mapped_at f (x ∷ xs) zero y e = (x, refl, same_Some (f x) y e)
from_mapped_at f (x ∷ xs) (suc k) y e = from_mapped_at f xs k y e

-- at the position of a test, it passes it
pub from_position : {A : Type 0} (test : A → Bool) (xs : List A) (k : ℕ) (x : A) → position test xs ≡ Some k → slice_get xs k ≡ Some x
    → test x ≡ true
from_position test xs k x e f = by (nat_lt (position_or_len test xs) (length xs)) e
  where
    by : (b : Bool) → cond b (Some (position_or_len test xs)) None ≡ Some k → test x ≡ true
    by true g = let same : position_or_len test xs ≡ k = same_Some _ _ g in after_those_failing test xs x (ap (slice_get xs) same ∙ f)
    by false g = absurd cc
