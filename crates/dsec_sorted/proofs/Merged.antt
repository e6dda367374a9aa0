-- Of a sorted list, what stays once each thing that ties with the one before it is dropped: the first of those that tie.
use Rattle.std.proofs.Common.{◌≡◌, ◌↔◌, ℕ, zero, suc, ◌<◌, Bool, true, false, cond, ◌&&◌, List, [], ◌∷◌, length, get_or, Option, Some, None, refl, sym, ap, ◌∙◌, subst, inl, inr, arith}
use Rattle.std.specs.Prelude.{AllPairs, Contains, filter, find}
use Rattle.std.proofs.Math.Bool.{not}
use Rattle.std.specs.List.{dedup, dedup_from}
use Rattle.std.specs.List.Sorted.{IsSortedBy, IsStableBy, ties}
use Rattle.std.specs.Cmp.{IsTotalOrder}
use Rattle.std.specs.Ordering.{is_lt, is_eq, eq_by_cmp, ordering_reverse}
use Rattle.std.specs.declared.cmp.Ordering.{Ordering}
use Rattle.std.specs.declared.cmp.Ordering.TheVariants.{Less, Equal, Greater}
use Rattle.std.proofs.lemmas.Bool.{true≢false}
use Rattle.std.proofs.lemmas.Cmp.{tied_itself, alike_right}
use Rattle.std.proofs.lemmas.Option.{same_Some}
use Rattle.std.proofs.lemmas.List.Kept.{AllPairs-cons}
use Rattle.std.proofs.lemmas.List.Sorted.{sorted_far, ranks_by}
use Rattle.dsec_spec.proofs.Members.{first_in, later_in, in_more, not_in_none, from_find}

-- ---- the first thing that a test finds

module _ {X : Type 0} where
  pub find_alike : (p q : X → Bool) (xs : List X) → ((x : X) → p x ≡ q x) → find p xs ≡ find q xs
  find_alike p q [] h = refl
  find_alike p q (x ∷ xs) h = ap (λ (b : Bool). cond b (Some x) (find p xs)) (h x) ∙ ap (λ (o : Option X). cond (q x) (Some x) o) (find_alike p q xs h)

  abbrev first_of : List X → Option X
  first_of [] = None
  first_of (x ∷ xs) = Some x

  find_first : (p : X → Bool) (xs : List X) → find p xs ≡ first_of (filter p xs)
  find_first p [] = refl
  find_first p (x ∷ xs) = by (find_first p xs) (p x)
    where
      by : find p xs ≡ first_of (filter p xs) → (b : Bool) → cond b (Some x) (find p xs) ≡ first_of (cond b (x ∷ filter p xs) (filter p xs))
      by others true = refl
      by others false = others

  -- lists of which a test chooses the same have the same first
  pub find_same : (p : X → Bool) (xs ys : List X) → filter p xs ≡ filter p ys → find p xs ≡ find p ys
  find_same p xs ys h = find_first p xs ∙ (ap first_of h ∙ sym (find_first p ys))

module _ {X : Type 0} {R : X → X → Ordering} (o : IsTotalOrder R) where
  not_eq : (x y : X) → R x y ≡ Greater → eq_by_cmp R x y ≡ false
  not_eq x y h = rw h refl

  itself : (x : X) → eq_by_cmp R x x ≡ true
  itself x = rw (tied_itself o x) refl

  -- things that tie are those that a stable sort leaves in order
  pub ties_is : (x y : X) → ties (λ a b. is_lt (R a b)) x y ≡ eq_by_cmp R x y
  ties_is x y = rw (o.antisymm y x) (by (R x y))
    where
      by : (r : Ordering) → (not (is_lt r) && not (is_lt (ordering_reverse r))) ≡ is_eq r
      by Less = refl
      by Equal = refl
      by Greater = refl

  -- what isn't before x and doesn't tie with it is after it
  after : (x y : X) → is_lt (R y x) ≡ false → eq_by_cmp R y x ≡ false → R x y ≡ Less
  after x y low apart = rw (o.antisymm x y) (by (R y x) low apart)
    where
      by : (r : Ordering) → is_lt r ≡ false → is_eq r ≡ false → ordering_reverse r ≡ Less
      by Less h g = absurd (true≢false h)
      by Equal h g = absurd (true≢false g)
      by Greater h g = refl

  -- what isn't before y, which is after x, is after x
  beyond : (x y z : X) → R x y ≡ Less → is_lt (R z y) ≡ false → R x z ≡ Less
  beyond x y z less low = by (R z y) refl low
    where
      by : (r : Ordering) → R z y ≡ r → is_lt r ≡ false → R x z ≡ Less
      by Less e h = absurd (true≢false h)
      by Equal e h = alike_right o z y x e ∙ less
      by Greater e h = o.trans x y z less (o.antisymm y z ∙ ap ordering_reverse e)

  back : (x y : X) → R x y ≡ Less → eq_by_cmp R y x ≡ false
  back x y h = not_eq y x (o.antisymm y x ∙ ap ordering_reverse h)

  Rising : List X → Type 0
  Rising xs = AllPairs (λ x y. is_lt (R y x) ≡ false) xs

  head_low : (x : X) (xs : List X) → AllPairs (λ x y. is_lt (R y x) ≡ false) (x ∷ xs) → (y : X) → Contains xs y → is_lt (R y x) ≡ false
  head_low x xs up y h = subst (λ (z : X). is_lt (R z x) ≡ false) h.2 (up 0 (suc h.0) y (omega arith) (let below = h.1 in omega arith))

  tail_rising : (x : X) (xs : List X) → AllPairs (λ x y. is_lt (R y x) ≡ false) (x ∷ xs) → AllPairs (λ x y. is_lt (R y x) ≡ false) xs
  tail_rising x xs up i j d lt lj = up (suc i) (suc j) d (omega arith) (omega arith)

  without_second : (x y : X) (xs : List X) → AllPairs (λ x y. is_lt (R y x) ≡ false) (x ∷ y ∷ xs) → AllPairs (λ x y. is_lt (R y x) ≡ false) (x ∷ xs)
  without_second x y xs up zero zero d lt lj = absurd (omega arith)
  without_second x y xs up zero (suc j) d lt lj = up 0 (suc (suc j)) d (omega arith) (omega arith)
  without_second x y xs up (suc i) zero d lt lj = absurd (omega arith)
  without_second x y xs up (suc i) (suc j) d lt lj = up (suc (suc i)) (suc (suc j)) d (omega arith) (omega arith)

  -- what is found of y and the later ones is after x, where y is
  found_after : (x y r : X) (ys : List X) → AllPairs (λ x y. is_lt (R y x) ≡ false) (y ∷ ys) → R x y ≡ Less → find (eq_by_cmp R r) (y ∷ ys) ≡ Some r → R x r ≡ Less
  found_after x y r ys up less h =
      elim (in_more y r ys (from_find (eq_by_cmp R r) (y ∷ ys) r h).1) [
        | inl e ↦ subst (λ (z : X). R x z ≡ Less) e less
        | inr later ↦ beyond x y r less (head_low y ys up r later)
      ]

  pub kept : (x : X) (xs : List X) → AllPairs (λ x y. is_lt (R y x) ≡ false) (x ∷ xs) → (r : X) → Contains (dedup_from (eq_by_cmp R) x xs) r ↔ (find (eq_by_cmp R r) (x ∷ xs) ≡ Some r)
  kept x [] up r = (
    λ h. elim (in_more x r [] h) [
      | inl e ↦ subst (λ (z : X). find (eq_by_cmp R z) (x ∷ []) ≡ Some z) e (rw (itself x) refl)
      | inr none ↦ absurd (not_in_none r none)
    ],
    λ h. by (eq_by_cmp R r x) h,
  )
    where
      by : (b : Bool) → cond b (Some x) None ≡ Some r → Contains (x ∷ []) r
      by true e = subst (λ (z : X). Contains (x ∷ []) z) (same_Some x r e) (first_in x [])
      by false e = absurd cc
  kept x (y ∷ ys) up r = by (kept x ys (without_second x y ys up) r) (kept y ys (tail_rising x (y ∷ ys) up) r) (eq_by_cmp R y x) refl
    where
      tied : R y x ≡ Equal → (b : Bool) → eq_by_cmp R r x ≡ b → cond b (Some x) (find (eq_by_cmp R r) ys) ≡ cond b (Some x) (cond (eq_by_cmp R r y) (Some y) (find (eq_by_cmp R r) ys))
      tied e true h = refl
      tied e false h = rw (alike_right o y x r e, h) refl

      equal : (r : Ordering) → is_eq r ≡ true → r ≡ Equal
      equal Less h = absurd (true≢false (sym h))
      equal Equal h = refl
      equal Greater h = absurd (true≢false (sym h))

      by : Contains (dedup_from (eq_by_cmp R) x ys) r ↔ (find (eq_by_cmp R r) (x ∷ ys) ≡ Some r)
          → Contains (dedup_from (eq_by_cmp R) y ys) r ↔ (find (eq_by_cmp R r) (y ∷ ys) ≡ Some r)
          → (b : Bool) → eq_by_cmp R y x ≡ b → Contains (cond b (dedup_from (eq_by_cmp R) x ys) (x ∷ dedup_from (eq_by_cmp R) y ys)) r ↔ (find (eq_by_cmp R r) (x ∷ y ∷ ys) ≡ Some r)
      by dropped others true e =
          let same = tied (equal (R y x) e) (eq_by_cmp R r x) refl in
          (λ h. sym same ∙ dropped.0 h, λ h. dropped.1 (same ∙ h))
      by dropped others false e =
          let less : R x y ≡ Less = after x y (head_low x (y ∷ ys) up y (first_in y ys)) e in (
            λ h. elim (in_more x r (dedup_from (eq_by_cmp R) y ys) h) [
              | inl same ↦ subst (λ (z : X). find (eq_by_cmp R z) (x ∷ y ∷ ys) ≡ Some z) same (rw (itself x) refl)
              | inr later ↦
                  let found = others.0 later in
                  rw (back x r (found_after x y r ys (tail_rising x (y ∷ ys) up) less found)) found
            ],
            λ h. or_later (eq_by_cmp R r x) h,
          )
        where
          or_later : (b : Bool) → cond b (Some x) (find (eq_by_cmp R r) (y ∷ ys)) ≡ Some r → Contains (x ∷ dedup_from (eq_by_cmp R) y ys) r
          or_later true q = subst (λ (z : X). Contains (x ∷ dedup_from (eq_by_cmp R) y ys) z) (same_Some x r q) (first_in x (dedup_from (eq_by_cmp R) y ys))
          or_later false q = later_in x r (dedup_from (eq_by_cmp R) y ys) (others.1 q)

  -- what stays rises strictly
  pub strict : (x : X) (xs : List X) → AllPairs (λ x y. is_lt (R y x) ≡ false) (x ∷ xs) → AllPairs (λ x y. R x y ≡ Less) (dedup_from (eq_by_cmp R) x xs)
  strict x [] up = λ i j d lt lj. absurd (omega arith)
  strict x (y ∷ ys) up = by (strict x ys (without_second x y ys up)) (strict y ys (tail_rising x (y ∷ ys) up)) (eq_by_cmp R y x) refl
    where
      by : AllPairs (λ x y. R x y ≡ Less) (dedup_from (eq_by_cmp R) x ys) → AllPairs (λ x y. R x y ≡ Less) (dedup_from (eq_by_cmp R) y ys)
          → (b : Bool) → eq_by_cmp R y x ≡ b → AllPairs (λ x y. R x y ≡ Less) (cond b (dedup_from (eq_by_cmp R) x ys) (x ∷ dedup_from (eq_by_cmp R) y ys))
      by dropped others true e = dropped
      by dropped others false e =
          let less : R x y ≡ Less = after x y (head_low x (y ∷ ys) up y (first_in y ys)) e in
          AllPairs-cons (λ x y. R x y ≡ Less) x (dedup_from (eq_by_cmp R) y ys)
          (λ k d lt.
          let z = get_or (dedup_from (eq_by_cmp R) y ys) k d in
          found_after x y z ys (tail_rising x (y ∷ ys) up) less ((kept y ys (tail_rising x (y ∷ ys) up) z).0 (k, lt, refl_at (dedup_from (eq_by_cmp R) y ys) k d lt)))
          others
        where
          refl_at : (zs : List X) (k : ℕ) (d : X) → k < length zs → get_or zs k (get_or zs k d) ≡ get_or zs k d
          refl_at [] k d lt = absurd (omega arith)
          refl_at (z ∷ zs) zero d lt = refl
          refl_at (z ∷ zs) (suc k) d lt = refl_at zs k d (omega arith)

  rising_from : (ys : List X) → IsSortedBy (λ a b. is_lt (R a b)) ys → AllPairs (λ x y. is_lt (R y x) ≡ false) ys
  rising_from ys s = λ i j d lt lj. sorted_far (λ a b. is_lt (R a b)) (ranks_by o (λ (x : X). x)) ys s i j d (omega arith) lj

  -- of a list that was sorted so that things that tie keep their order, what stays are the first of those that tie
  pub firsts_stay : (xs ys : List X) → IsSortedBy (λ a b. is_lt (R a b)) ys → IsStableBy (λ a b. is_lt (R a b)) xs ys → (r : X) → Contains (dedup (eq_by_cmp R) ys) r ↔ (find (eq_by_cmp R r) xs ≡ Some r)
  firsts_stay xs ys s stable r =
      let same : find (eq_by_cmp R r) ys ≡ find (eq_by_cmp R r) xs =
      sym (find_alike (ties (λ a b. is_lt (R a b)) r) (eq_by_cmp R r) ys (ties_is r))
      ∙ (find_same (ties (λ a b. is_lt (R a b)) r) ys xs (stable r) ∙ find_alike (ties (λ a b. is_lt (R a b)) r) (eq_by_cmp R r) xs (ties_is r)) in
      let there = by ys (rising_from ys s) in
      (λ h. sym same ∙ there.0 h, λ h. there.1 (same ∙ h))
    where
      by : (zs : List X) → AllPairs (λ x y. is_lt (R y x) ≡ false) zs → Contains (dedup (eq_by_cmp R) zs) r ↔ (find (eq_by_cmp R r) zs ≡ Some r)
      by [] up = (λ h. absurd (not_in_none r h), λ h. absurd cc)
      by (z ∷ zs) up = kept z zs up r

  pub stays_strict : (ys : List X) → IsSortedBy (λ a b. is_lt (R a b)) ys → AllPairs (λ x y. R x y ≡ Less) (dedup (eq_by_cmp R) ys)
  stays_strict ys s = by ys (rising_from ys s)
    where
      by : (zs : List X) → AllPairs (λ x y. is_lt (R y x) ≡ false) zs → AllPairs (λ x y. R x y ≡ Less) (dedup (eq_by_cmp R) zs)
      by [] up = λ i j d lt lj. absurd (omega arith)
      by (z ∷ zs) up = strict z zs up
