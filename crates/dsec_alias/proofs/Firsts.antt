-- Where the first thing of a list stands that passes a test.
use Rattle.std.proofs.Common.{◌≡◌, ℕ, zero, suc, ◌+◌, ◌<◌, Bool, true, false, cond, List, [], ◌∷◌, length, Option, Some, None, refl, sym, ap, ◌∙◌, subst, arith, inl, inr}
use Rattle.std.specs.Prelude.{Contains, position, slice_get, nat_lt}
use Rattle.std.specs.List.{position_or_len}
use Rattle.std.proofs.Math.Bool.{not}
use Rattle.std.proofs.lemmas.Bool.{true≢false, ltb-true, ltb-false, cases_lt}
use Rattle.std.proofs.lemmas.Option.{same_Some}
use Rattle.std.proofs.lemmas.List.Sums.{fails_before_first}
use Rattle.dsec_spec.proofs.Members.{at_index}

-- the thing at an index passes the test, and none before it does
pub record IsFirst {A : Type 0} (test : A → Bool) (xs : List A) (i : ℕ) (x : A) : Type 0 where
  pub stands : slice_get xs i ≡ Some x
  pub passes : test x ≡ true
  pub before : (k : ℕ) → k < i → (y : A) → slice_get xs k ≡ Some y → test y ≡ false

module _ {A : Type 0} (test : A → Bool) where
  at : (b : Bool) (x : A) (xs : List A) → test x ≡ b → position_or_len test (x ∷ xs) ≡ cond (not b) (1 + position_or_len test xs) 0
  at b x xs e = ap (λ t. cond (not t) (1 + position_or_len test xs) 0) e

  first_here : (x : A) (xs : List A) → test x ≡ true → IsFirst test (x ∷ xs) 0 x
  first_here x xs e = record { stands = refl; passes = e; before = λ k below. absurd (omega (arith, below)) }

  first_later : (x : A) (xs : List A) (i : ℕ) (y : A) → test x ≡ false → IsFirst test xs i y → IsFirst test (x ∷ xs) (suc i) y
  first_later x xs i y e f = record { stands = f.stands; passes = f.passes; before = before }
    where
      before : (k : ℕ) → k < suc i → (z : A) → slice_get (x ∷ xs) k ≡ Some z → test z ≡ false
      before zero below z g = subst (λ w. test w ≡ false) (same_Some x z g) e
      before (suc k) below z g = f.before k (omega (arith, below)) z g

  first_in : (xs : List A) → position_or_len test xs < length xs → (x : A) × IsFirst test xs (position_or_len test xs) x
  first_in [] below = absurd (omega (arith, below))
  first_in (y ∷ ys) below = by (first_in ys) (test y) refl
    where
      by : (position_or_len test ys < length ys → (x : A) × IsFirst test ys (position_or_len test ys) x) → (b : Bool) → test y ≡ b
          → (x : A) × IsFirst test (y ∷ ys) (position_or_len test (y ∷ ys)) x
      by rest true e = (y, subst (λ n. IsFirst test (y ∷ ys) n y) (sym (at true y ys e)) (first_here y ys e))
      by rest false e =
          let more = at false y ys e in
          let next : position_or_len test (y ∷ ys) ≡ suc (position_or_len test ys) = omega (arith, more) in
          let it = rest (omega (arith, more, below)) in
          (it.0, subst (λ n. IsFirst test (y ∷ ys) n it.0) (sym next) (first_later y ys (position_or_len test ys) it.0 e it.1))

  -- at the position of a test stands the first that passes it
  pub from_position : (xs : List A) (i : ℕ) → position test xs ≡ Some i → (x : A) × IsFirst test xs i x
  from_position xs i e = by (nat_lt (position_or_len test xs) (length xs)) refl e
    where
      by : (b : Bool) → nat_lt (position_or_len test xs) (length xs) ≡ b → cond b (Some (position_or_len test xs)) None ≡ Some i → (x : A) × IsFirst test xs i x
      by true f g =
          let it = first_in xs (ltb-true (position_or_len test xs) (length xs) f) in
          (it.0, subst (λ n. IsFirst test xs n it.0) (same_Some (position_or_len test xs) i g) it.1)
      by false f g = absurd cc

  -- without a position none passes it
  pub from_no_position : (xs : List A) → position test xs ≡ None → (x : A) → Contains xs x → test x ≡ false
  from_no_position xs e x there = by (nat_lt (position_or_len test xs) (length xs)) refl e
    where
      by : (b : Bool) → nat_lt (position_or_len test xs) (length xs) ≡ b → cond b (Some (position_or_len test xs)) None ≡ None → test x ≡ false
      by true f g = absurd cc
      by false f g =
          let long = ltb-false (position_or_len test xs) (length xs) f in
          let below = there.1 in
          subst (λ z. test z ≡ false) there.2 (fails_before_first test xs there.0 x (omega (arith, long, below)))

  -- of two that are the first, each isn't before the other
  not_before : (xs : List A) (i j : ℕ) (x y : A) → IsFirst test xs i x → IsFirst test xs j y → i < j → ⊥
  not_before xs i j x y f g below = true≢false (sym f.passes ∙ g.before i below x f.stands)

  one_first : (xs : List A) (i j : ℕ) (x y : A) → IsFirst test xs i x → IsFirst test xs j y → i ≡ j
  one_first xs i j x y f g = elim (cases_lt i j) [
    | inl below ↦ absurd (not_before xs i j x y f g below)
    | inr not_below ↦ elim (cases_lt j i) [
      | inl above ↦ absurd (not_before xs j i y x g f above)
      | inr not_above ↦ omega (arith, not_below, not_above)
    ]
  ]

  -- the first that passes a test stands at its position
  pub position_told : (xs : List A) (i : ℕ) (x : A) → IsFirst test xs i x → position test xs ≡ Some i
  position_told xs i x f = by (position test xs) refl
    where
      by : (o : Option ℕ) → position test xs ≡ o → o ≡ Some i
      by None e = absurd (true≢false (sym f.passes ∙ from_no_position xs e x (at_index xs i x f.stands)))
      by (Some j) e = let it = from_position xs j e in ap (λ (n : ℕ). Some n) (one_first xs j i it.0 x it.1 f)

  -- where none passes it, there is no position
  pub no_position_told : (xs : List A) → ((x : A) → Contains xs x → test x ≡ false) → position test xs ≡ None
  no_position_told xs none = by (position test xs) refl
    where
      by : (o : Option ℕ) → position test xs ≡ o → o ≡ None
      by None e = refl
      by (Some i) e =
          let it = from_position xs i e in
          absurd (true≢false (sym it.1.passes ∙ none it.0 (at_index xs i it.0 it.1.stands)))
