-- Lists whose elements rise strictly by a total order.
use Rattle.std.proofs.Common.{◌≡◌, ℕ, ◌+◌, ◌-◌, ◌<◌, ◌≤◌, List, length, get_or, refl, subst, inl, inr, arith}
use Rattle.std.specs.Prelude.{AllPairs, Any, insert}
use Rattle.std.specs.List.Sorted.{IsNonDecreasingBy, IsPartitionPoint, IsSortedBy}
use Rattle.std.specs.Cmp.{IsTotalOrder}
use Rattle.std.specs.Ordering.{ordering_index, is_lt}
use Rattle.std.specs.declared.cmp.Ordering.{Ordering}
use Rattle.std.specs.declared.cmp.Ordering.TheVariants.{Less, Equal, Greater}
use Rattle.std.proofs.lemmas.List.Sorted.{searchable_from_sorted}
use Rattle.std.proofs.lemmas.List.Edits.{get_or-insert_below, get_or-insert_at, get_or-insert_above, length-insert}
use Rattle.std.proofs.lemmas.Bool.{cases_lt}

above : {X : Type 0} (xs : List X) (i : ℕ) (x d : X) (k j : ℕ) → k ≡ j + 1 → i ≤ j → i ≤ length xs → get_or (insert xs i x) k d ≡ get_or xs j d
above xs i x d k j e h fits = rw e (get_or-insert_above xs i x d j h fits)

here : {X : Type 0} (xs : List X) (i : ℕ) (x d : X) (k : ℕ) → k ≡ i → i ≤ length xs → get_or (insert xs i x) k d ≡ x
here xs i x d k e fits = rw e (get_or-insert_at xs i x d fits)

module _ {X : Type 0} {R : X → X → Ordering} (o : IsTotalOrder R) where
  sorted : (xs : List X) → AllPairs (λ a b. R a b ≡ Less) xs → IsSortedBy (λ a b. is_lt (R a b)) xs
  sorted xs up k d low high =
      rw (o.antisymm (get_or xs (k + 1) d) (get_or xs k d), up k (k + 1) d (omega arith) high) refl

  pub searchable : (xs : List X) → AllPairs (λ a b. R a b ≡ Less) xs → (x : X) → IsNonDecreasingBy (λ y. ordering_index (R y x)) xs
  searchable xs up x = searchable_from_sorted o (λ y. y) xs x (sorted xs up)

  pub insert_rises : (xs : List X) (i : ℕ) (x : X) → i ≤ length xs → AllPairs (λ a b. R a b ≡ Less) xs → IsPartitionPoint (λ y. R y x ≡ Less) (λ y. R y x ≡ Greater) xs i → AllPairs (λ a b. R a b ≡ Less) (insert xs i x)
  insert_rises xs i x fits up parts a b d ab within =
      let len : length (insert xs i x) ≡ length xs + 1 = length-insert xs i x fits in
      elim (cases_lt a i) [
        | inl ai ↦ elim (cases_lt b i) [
          | inl bi ↦ rw (get_or-insert_below xs i x d a ai fits, get_or-insert_below xs i x d b bi fits) (up a b d ab (omega arith))
          | inr ib ↦ elim (cases_lt i b) [
            | inl lt ↦ rw (get_or-insert_below xs i x d a ai fits, above xs i x d b (b - 1) (omega arith) (omega arith) fits) (up a (b - 1) d (omega arith) (omega arith))
            | inr le ↦ rw (get_or-insert_below xs i x d a ai fits, here xs i x d b (omega arith) fits) (parts.0 a d (omega arith) ai)
          ]
        ]
        | inr ia ↦ elim (cases_lt i a) [
          | inl lt ↦ rw (above xs i x d a (a - 1) (omega arith) (omega arith) fits, above xs i x d b (b - 1) (omega arith) (omega arith) fits) (up (a - 1) (b - 1) d (omega arith) (omega arith))
          | inr le ↦
              let more : R (get_or xs (b - 1) d) x ≡ Greater = parts.1 (b - 1) d (omega arith) (omega arith) in
              rw (here xs i x d a (omega arith) fits, above xs i x d b (b - 1) (omega arith) (omega arith) fits, o.antisymm x (get_or xs (b - 1) d), more) refl
        ]
      ]

  pub none_equal : (xs : List X) (i : ℕ) (x : X) → IsPartitionPoint (λ y. R y x ≡ Less) (λ y. R y x ≡ Greater) xs i → Any (λ y. R y x ≡ Equal) xs → ⊥
  none_equal xs i x parts any =
      let at : R (get_or xs any.0 any.1) x ≡ Equal = rw (any.3) any.4 in
      elim (cases_lt any.0 i) [
        | inl h ↦ let e = parts.0 any.0 any.1 (omega arith) h in cc
        | inr h ↦ let e = parts.1 any.0 any.1 h any.2 in cc
      ]

  -- ---- a list looked at from the front on

  pub rises_more : (xs : List X) (i : ℕ) → 0 < i → i < length xs → ((d : X) → R (get_or xs (i - 1) d) (get_or xs i d) ≡ Less)
      → ((a b : ℕ) (d : X) → a < b → b < i → R (get_or xs a d) (get_or xs b d) ≡ Less) → (a b : ℕ) (d : X) → a < b → b < i + 1 → R (get_or xs a d) (get_or xs b d) ≡ Less
  rises_more xs i some within next up a b d ab bi =
      elim (cases_lt b i) [
        | inl old ↦ up a b d ab old
        | inr new ↦
            let e : i ≡ b = omega arith in
            subst (λ (j : ℕ). R (get_or xs a d) (get_or xs j d) ≡ Less) e (elim (cases_lt a (i - 1)) [
              | inl far ↦ o.trans (get_or xs a d) (get_or xs (i - 1) d) (get_or xs i d) (up a (i - 1) d far (omega arith)) (next d)
              | inr near ↦ let f : i - 1 ≡ a = omega arith in subst (λ (j : ℕ). R (get_or xs j d) (get_or xs i d) ≡ Less) f (next d)
            ])
      ]
