-- A view is found just where the data are of its type.
use Rattle.std.proofs.Common.{◌≡◌, ◌↔◌, ℕ, Bool, true, false, not, eqb, List, Option, Some, None, refl, sym, ap, ◌∙◌, subst}
use Rattle.std.specs.Prelude.{IsSome}
use Rattle.std.specs.Option.{option_map}
use Rattle.std.proofs.lemmas.Bool.{eqb-true}
use Rattle.dsec_spec.specs.RecordData.{IsReadable}

-- a test of two numbers that didn't refuse them
same_number : (m n : ℕ) → not (eqb m n) ≡ false → m ≡ n
same_number m n e = eqb-true m n (shown (eqb m n) e)
  where
    shown : (b : Bool) → not b ≡ false → b ≡ true
    shown true f = refl
    shown false f = sym f

found_there : {A B : Type 0} (view : A → B) (said : Option B) (rtype number : ℕ) (result : Option A) → rtype ≡ number → option_map view result ≡ said → (y : B) × (said ≡ Some y) → IsSome result ↔ (rtype ≡ number)
found_there view said rtype number (Some x) is e some = (λ yes. is, λ f. refl)
found_there view said rtype number None is e some = absurd (not_both said some.0 (sym e) some.1)
  where
    not_both : {C : Type 0} (o : Option C) (y : C) → o ≡ None → o ≡ Some y → ⊥
    not_both o y e f = absurd cc

-- where readable data of a type say something, a reader that gives what they say finds it in data of that type
pub found : {A B : Type 0} (view : A → B) (said : List ℕ → Option B) (number : ℕ) → ((x : List ℕ) → IsReadable number x → (y : B) × (said x ≡ Some y)) → (rtype : ℕ) (x y : List ℕ) (result : Option A)
    → not (eqb rtype number) ≡ false → IsReadable rtype x → y ≡ x → option_map view result ≡ said y → IsSome result ↔ (rtype ≡ number)
found view said number law rtype x y result test readable same h =
    let is = same_number rtype number test in
    found_there view (said x) rtype number result is (h ∙ ap said same) (law x (subst (λ (t : ℕ). IsReadable t x) is readable))
