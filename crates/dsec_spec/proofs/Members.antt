-- What is in a list: of a list that is filtered, cut, paired or searched.
use Rattle.std.proofs.Common.{◌≡◌, ℕ, zero, suc, Bool, true, false, cond, List, [], ◌∷◌, ◌++◌, take, map, Some, None, refl, sym, ◌∙◌, subst, arith, inl, inr, ◌⊎◌, ◌||◌}
use Rattle.std.specs.Prelude.{Contains, filter, find, slice_get}
use Rattle.std.specs.List.{list_any}
use Rattle.std.proofs.lemmas.Bool.{true≢false, or_parts}
use Rattle.std.proofs.lemmas.Option.{same_Some}
use Rattle.dsec_spec.specs.Trying.{pairs}

module _ {A : Type 0} where
  pub first_in : (x : A) (xs : List A) → Contains (x ∷ xs) x
  first_in x xs = (0, omega arith, refl)

  pub later_in : (y x : A) (xs : List A) → Contains xs x → Contains (y ∷ xs) x
  later_in y x xs h = (suc h.0, let below = h.1 in omega arith, h.2)

  pub not_in_none : (x : A) → Contains [] x → ⊥
  not_in_none x h = let below = h.1 in absurd (omega arith)

  pub in_more : (y x : A) (xs : List A) → Contains (y ∷ xs) x → (y ≡ x) ⊎ Contains xs x
  in_more y x xs (zero, below, is) = inl is
  in_more y x xs (suc k, below, is) = inr (k, omega arith, is)

  pub in_front : (x : A) (xs ys : List A) → Contains xs x → Contains (xs ++ ys) x
  in_front x [] ys h = absurd (not_in_none x h)
  in_front x (z ∷ xs) ys h = elim (in_more z x xs h) [
    | inl e ↦ subst (λ w. Contains (w ∷ xs ++ ys) x) (sym e) (first_in x (xs ++ ys))
    | inr later ↦ later_in z x (xs ++ ys) (in_front x xs ys later)
  ]

  pub in_back : (x : A) (xs ys : List A) → Contains ys x → Contains (xs ++ ys) x
  in_back x [] ys h = h
  in_back x (z ∷ xs) ys h = later_in z x (xs ++ ys) (in_back x xs ys h)

  pub in_either : (x : A) (xs ys : List A) → Contains (xs ++ ys) x → Contains xs x ⊎ Contains ys x
  in_either x [] ys h = inr h
  in_either x (z ∷ xs) ys h = elim (in_more z x (xs ++ ys) h) [
    | inl e ↦ inl (subst (λ w. Contains (w ∷ xs) x) (sym e) (first_in x xs))
    | inr later ↦ elim (in_either x xs ys later) [
      | inl front ↦ inl (later_in z x xs front)
      | inr back ↦ inr back
    ]
  ]

  -- what is found passes the test, and is in the list
  pub from_find : (test : A → Bool) (xs : List A) (x : A) → find test xs ≡ Some x → (test x ≡ true) × Contains xs x
  from_find test [] x e = absurd cc
  from_find test (y ∷ ys) x e = by (from_find test ys x) (test y) refl e
    where
      by : (find test ys ≡ Some x → (test x ≡ true) × Contains ys x) → (b : Bool) → test y ≡ b → cond b (Some y) (find test ys) ≡ Some x → (test x ≡ true) × Contains (y ∷ ys) x
      by others true t f = let same : y ≡ x = same_Some y x f in (subst (λ z. test z ≡ true) same t, subst (λ z. Contains (z ∷ ys) x) (sym same) (first_in x ys))
      by others false t f = let rest = others f in (rest.0, later_in y x ys rest.1)

  -- and where none is found, none passes the test
  pub from_no_find : (test : A → Bool) (xs : List A) → find test xs ≡ None → (x : A) → Contains xs x → test x ≡ false
  from_no_find test [] e x h = absurd (not_in_none x h)
  from_no_find test (y ∷ ys) e x h = by (λ f. from_no_find test ys f x) (test y) refl e
    where
      by : (find test ys ≡ None → Contains ys x → test x ≡ false) → (b : Bool) → test y ≡ b → cond b (Some y) (find test ys) ≡ None → test x ≡ false
      by others true t f = absurd cc
      by others false t f = elim (in_more y x ys h) [
        | inl same ↦ subst (λ z. test z ≡ false) same t
        | inr later ↦ others f later
      ]

  pub from_filter : (test : A → Bool) (xs : List A) (x : A) → Contains (filter test xs) x → (test x ≡ true) × Contains xs x
  from_filter test [] x h = absurd (not_in_none x h)
  from_filter test (y ∷ ys) x h = by (from_filter test ys x) (test y) refl h
    where
      by : (Contains (filter test ys) x → (test x ≡ true) × Contains ys x) → (b : Bool) → test y ≡ b → Contains (cond b (y ∷ filter test ys) (filter test ys)) x → (test x ≡ true) × Contains (y ∷ ys) x
      by others true t f = elim (in_more y x (filter test ys) f) [
        | inl same ↦ (subst (λ z. test z ≡ true) same t, subst (λ z. Contains (z ∷ ys) x) (sym same) (first_in x ys))
        | inr later ↦ let rest = others later in (rest.0, later_in y x ys rest.1)
      ]
      by others false t f = let rest = others f in (rest.0, later_in y x ys rest.1)

  pub in_filter : (test : A → Bool) (xs : List A) (x : A) → Contains xs x → test x ≡ true → Contains (filter test xs) x
  in_filter test [] x h t = absurd (not_in_none x h)
  in_filter test (y ∷ ys) x h t = by (λ later. in_filter test ys x later t) (test y) refl
    where
      by : (Contains ys x → Contains (filter test ys) x) → (b : Bool) → test y ≡ b → Contains (cond b (y ∷ filter test ys) (filter test ys)) x
      by others true f = elim (in_more y x ys h) [
        | inl same ↦ subst (λ z. Contains (z ∷ filter test ys) x) (sym same) (first_in x (filter test ys))
        | inr later ↦ later_in y x (filter test ys) (others later)
      ]
      by others false f = elim (in_more y x ys h) [
        | inl same ↦ absurd (true≢false (sym t ∙ subst (λ z. test z ≡ false) same f))
        | inr later ↦ others later
      ]

  pub from_take : (n : ℕ) (xs : List A) (x : A) → Contains (take n xs) x → Contains xs x
  from_take zero xs x h = absurd (not_in_none x h)
  from_take (suc n) [] x h = absurd (not_in_none x h)
  from_take (suc n) (y ∷ ys) x h = elim (in_more y x (take n ys) h) [
    | inl same ↦ subst (λ z. Contains (z ∷ ys) x) (sym same) (first_in x ys)
    | inr later ↦ later_in y x ys (from_take n ys x later)
  ]

  -- where a test passes nowhere in a list, it fails at each thing in it
  pub none_passes : (test : A → Bool) (xs : List A) → list_any test xs ≡ false → (x : A) → Contains xs x → test x ≡ false
  none_passes test [] e x h = absurd (not_in_none x h)
  none_passes test (y ∷ ys) e x h =
      let both = or_parts (test y) (list_any test ys) e in
      elim (in_more y x ys h) [
        | inl same ↦ subst (λ z. test z ≡ false) same both.0
        | inr later ↦ none_passes test ys both.1 x later
      ]

  -- where a test passes somewhere in a list, it passes at a thing in it
  pub some_passes : (test : A → Bool) (xs : List A) → list_any test xs ≡ true → (x : A) × Contains xs x × (test x ≡ true)
  some_passes test [] e = absurd (true≢false (sym e))
  some_passes test (y ∷ ys) e = by (some_passes test ys) (test y) refl e
    where
      by : (list_any test ys ≡ true → (x : A) × Contains ys x × (test x ≡ true)) → (b : Bool) → test y ≡ b → (b || list_any test ys) ≡ true → (x : A) × Contains (y ∷ ys) x × (test x ≡ true)
      by others true t f = (y, first_in y ys, t)
      by others false t f = let rest = others f in (rest.0, later_in y rest.0 ys rest.1, rest.2)

  -- what stands at an index is in the list
  pub at_index : (xs : List A) (k : ℕ) (x : A) → slice_get xs k ≡ Some x → Contains xs x
  at_index [] k x e = absurd cc
  at_index (y ∷ ys) zero x e = subst (λ z. Contains (z ∷ ys) x) (sym (same_Some y x e)) (first_in x ys)
  at_index (y ∷ ys) (suc k) x e = later_in y x ys (at_index ys k x e)

abbrev pair_of : {A B : Type 0} → A → B → A × B
pair_of x y = (x, y)

module _ {A B : Type 0} where
  pub in_map : (f : A → B) (xs : List A) (x : A) → Contains xs x → Contains (map f xs) (f x)
  in_map f [] x h = absurd (not_in_none x h)
  in_map f (z ∷ xs) x h = elim (in_more z x xs h) [
    | inl e ↦ subst (λ w. Contains (f w ∷ map f xs) (f x)) (sym e) (first_in (f x) (map f xs))
    | inr later ↦ later_in (f z) (f x) (map f xs) (in_map f xs x later)
  ]

  pub from_map : (f : A → B) (xs : List A) (y : B) → Contains (map f xs) y → (x : A) × Contains xs x × (f x ≡ y)
  from_map f [] y h = absurd (not_in_none y h)
  from_map f (z ∷ xs) y h = elim (in_more (f z) y (map f xs) h) [
    | inl e ↦ (z, first_in z xs, e)
    | inr later ↦ let rest = from_map f xs y later in (rest.0, later_in z rest.0 xs rest.1, rest.2)
  ]

module _ {A B : Type 0} where
  -- a pair is of one of each
  pub from_pairs : (xs : List A) (ys : List B) (p : A × B) → Contains (pairs xs ys) p → Contains xs p.0 × Contains ys p.1
  from_pairs [] ys p h = absurd (not_in_none p h)
  from_pairs (x ∷ xs) ys p h = elim (in_either p (map (λ y. pair_of x y) ys) (pairs xs ys) h) [
    | inl front ↦ let m = from_map (λ y. pair_of x y) ys p front in
        (subst (λ (q : A × B). Contains (x ∷ xs) q.0) m.2 (first_in x xs), subst (λ (q : A × B). Contains ys q.1) m.2 m.1)
    | inr back ↦ let rest = from_pairs xs ys p back in (later_in x p.0 xs rest.0, rest.1)
  ]
