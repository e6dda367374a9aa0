-- What tests choose of lists, and lists in order.
use Rattle.std.proofs.Common.{◌≡◌, suc, Bool, true, false, cond, ◌&&◌, List, [], ◌∷◌, map, refl, sym, ap, ◌∙◌, arith}
use Rattle.std.specs.Prelude.{AllPairs, Contains, filter}
use Rattle.std.specs.List.{list_any}
use Rattle.std.proofs.lemmas.Bool.{true≢false}
use Rattle.std.proofs.lemmas.List.Elements.{All-map}
use Rattle.std.proofs.lemmas.List.Kept.{AllPairs-cons}
use Rattle.dsec_spec.proofs.Members.{first_in, later_in, none_passes}

module _ {A : Type 0} where
  -- a test that passes at a thing in the list passes in it
  pub passes : (test : A → Bool) (xs : List A) (x : A) → Contains xs x → test x ≡ true → list_any test xs ≡ true
  passes test xs x h t = elim (list_any test xs) as (λ b. list_any test xs ≡ b → b ≡ true) [
    | true ↦ λ e. refl
    | false ↦ λ e. absurd (true≢false (sym t ∙ none_passes test xs e x h))
  ] refl

  -- tests that agree on a list choose alike
  pub filter_like : (p q : A → Bool) (xs : List A) → ((x : A) → Contains xs x → p x ≡ q x) → filter p xs ≡ filter q xs
  filter_like p q [] h = refl
  filter_like p q (x ∷ xs) h =
      ap (λ (b : Bool). cond b (x ∷ filter p xs) (filter p xs)) (h x (first_in x xs))
      ∙ ap (λ (ys : List A). cond (q x) (x ∷ ys) ys) (filter_like p q xs (λ y m. h y (later_in x y xs m)))

  -- a test that never passes chooses nothing
  pub filter_none : (xs : List A) → filter (λ _. false) xs ≡ []
  filter_none [] = refl
  filter_none (x ∷ xs) = filter_none xs

-- two tests are equal where each follows from the other
pub same_bool : (a b : Bool) → (a ≡ true → b ≡ true) → (b ≡ true → a ≡ true) → a ≡ b
same_bool true b f g = sym (f refl)
same_bool false true f g = g refl
same_bool false false f g = refl

-- both of two tests pass where their conjunction does
pub both : (a b : Bool) → (a && b) ≡ true → (a ≡ true) × (b ≡ true)
both true true h = (refl, refl)
both true false h = absurd (true≢false (sym h))
both false b h = absurd (true≢false (sym h))

-- a test that always passes chooses all
pub filter_all : {A : Type 0} (xs : List A) → filter (λ (_ : A). true) xs ≡ xs
filter_all [] = refl
filter_all (x ∷ xs) = ap (λ ys. x ∷ ys) (filter_all xs)

-- two tests choose what the second chooses of what the first does
pub filter_both : {A : Type 0} (p q : A → Bool) (xs : List A) → filter (λ x. p x && q x) xs ≡ filter q (filter p xs)
filter_both p q [] = refl
filter_both p q (x ∷ xs) = by (filter_both p q xs) (p x)
  where
    by : filter (λ x. p x && q x) xs ≡ filter q (filter p xs) → (b : Bool) → cond (b && q x) (x ∷ filter (λ x. p x && q x) xs) (filter (λ x. p x && q x) xs) ≡ filter q (cond b (x ∷ filter p xs) (filter p xs))
    by others true = ap (λ (ys : List _). cond (q x) (x ∷ ys) ys) others
    by others false = others

-- what a function makes of things in order is in order, where the order is that of what it makes
pub pairs_map : {A B : Type 0} (R : B → B → Type 0) (f : A → B) (xs : List A) → AllPairs (λ (x y : A). R (f x) (f y)) xs → AllPairs R (map f xs)
pairs_map R f [] up = λ i j d lt lj. absurd (omega arith)
pairs_map R f (x ∷ xs) up =
    AllPairs-cons R (f x) (map f xs)
    (All-map (R (f x)) f xs (λ k d lt. up 0 (suc k) d (omega arith) (omega arith)))
    (pairs_map R f xs (λ i j d lt lj. up (suc i) (suc j) d (omega arith) (omega arith)))
