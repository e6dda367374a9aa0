-- Readings, one after the other.
use Rattle.std.proofs.Common.{◌≡◌, Bool, true, false, cond, Option, Some, None, refl, subst, inl, inr, ◌⊎◌}
use Rattle.std.proofs.lemmas.Option.{same_Some}
use Rattle.dsec_spec.specs.Reading.{◌>>=◌}

-- where two readings gave something, the first did, and the second from that
pub from_bind : {A B : Type 0} (o : Option A) (f : A → Option B) (y : B) → (o >>= f) ≡ Some y → (x : A) × (o ≡ Some x) × (f x ≡ Some y)
from_bind (Some x) f y e = (x, refl, e)
from_bind None f y e = absurd cc

-- where a reading that a test can refuse gave something, the test did not refuse it
pub unrefused : {A : Type 0} (t : Bool) (o : Option A) (y : A) → cond t None o ≡ Some y → (t ≡ false) × (o ≡ Some y)
unrefused true o y e = absurd cc
unrefused false o y e = (refl, e)

-- what a choice gave is what one of its sides is
pub chosen : {A : Type 0} (t : Bool) (x y z : A) → cond t x y ≡ z → ((t ≡ true) × (x ≡ z)) ⊎ ((t ≡ false) × (y ≡ z))
chosen true x y z e = inl (refl, e)
chosen false x y z e = inr (refl, e)

-- what holds of a thing that was read holds of the thing that it was read as
pub read_as : {A : Type 0} (P : A → Type 0) (x y : A) → Some x ≡ Some y → P x → P y
read_as P x y e h = subst P (same_Some x y e) h
