-- Things in another order: what they are made of is in that order, and still each is there once.
use Rattle.std.proofs.Common.{◌≡◌, ◌≢◌, ℕ, zero, suc, ◌<◌, List, [], ◌∷◌, length, get_or, set, swap, map, IsPermutation, refl, sym, ap, ◌∙◌, inl, inr, ◌⊎◌, arith}
use Rattle.std.proofs.lemmas.Bool.{cases_eq}
use Rattle.std.proofs.lemmas.List.{length-map}
use Rattle.std.proofs.lemmas.List.Edits.{Swapped, swapped_from_swap, length-swap}
use Rattle.std.proofs.lemmas.List.Sorted.{IsPermutation-keeps, IsPermutation-refl, IsPermutation-swap, IsPermutation-trans}
use Rattle.dsec_hashed.specs.Hashed.{AreDistinct}

module _ {A B : Type 0} (f : A → B) where
  map_set : (xs : List A) (i : ℕ) (x : A) → map f (set xs i x) ≡ set (map f xs) i (f x)
  map_set [] i x = refl
  map_set (y ∷ ys) zero x = refl
  map_set (y ∷ ys) (suc i) x = ap (λ (zs : List B). f y ∷ zs) (map_set ys i x)

  map_get : (xs : List A) (i : ℕ) (d : A) → get_or (map f xs) i (f d) ≡ f (get_or xs i d)
  map_get [] i d = refl
  map_get (y ∷ ys) zero d = refl
  map_get (y ∷ ys) (suc i) d = map_get ys i d

  map_swap : (xs : List A) (i j : ℕ) → map f (swap xs i j) ≡ swap (map f xs) i j
  map_swap [] i j = refl
  map_swap (x ∷ xs) i j =
      map_set (set (x ∷ xs) i (get_or (x ∷ xs) j x)) j (get_or (x ∷ xs) i x)
      ∙ (ap (λ (ys : List B). set ys j (f (get_or (x ∷ xs) i x))) (map_set (x ∷ xs) i (get_or (x ∷ xs) j x))
      ∙ (ap (λ (y : B). set (set (map f (x ∷ xs)) i y) j (f (get_or (x ∷ xs) i x))) (sym (map_get (x ∷ xs) j x))
      ∙ ap (λ (y : B). set (set (map f (x ∷ xs)) i (get_or (map f (x ∷ xs)) j (f x))) j y) (sym (map_get (x ∷ xs) i x))))

  -- what is made of things, in another order, is made of them in another order
  pub pulled : (xs : List A) (ys : List B) → IsPermutation (map f xs) ys → (zs : List A) × IsPermutation xs zs × (map f zs ≡ ys)
  pulled xs ys = IsPermutation-keeps (map f xs) (λ (l : List B). (zs : List A) × IsPermutation xs zs × (map f zs ≡ l)) (xs, IsPermutation-refl xs, refl)
      (λ l i j p q h.
      let size : length l ≡ length h.0 = ap length (sym h.2) ∙ length-map h.0 f in (
        swap h.0 i j,
        IsPermutation-trans xs h.0 (swap h.0 i j) h.1 (IsPermutation-swap h.0 (swap h.0 i j) i j (omega (arith, size)) (omega (arith, size)) refl),
        map_swap h.0 i j ∙ ap (λ (m : List B). swap m i j) h.2,
      )) ys

-- where a swap of a and b took the element at m from
abbrev From : ℕ → ℕ → ℕ → ℕ → Type 0
From a b m k = ((m ≡ a) × (k ≡ b)) ⊎ (((m ≡ b) × (k ≡ a)) ⊎ ((m ≢ a) × (m ≢ b) × (k ≡ m)))

module _ {X : Type 0} where
  origin : (f g : ℕ → X) (a b m : ℕ) → Swapped f g a b → (m ≡ a) ⊎ (m ≢ a) → (m ≡ b) ⊎ (m ≢ b) → (k : ℕ) × From a b m k × (g m ≡ f k)
  origin f g a b m s (inl e) y = (b, inl (e, refl), ap g e ∙ s.0)
  origin f g a b m s (inr n) (inl e) = (a, inr (inl (e, refl)), ap g e ∙ s.1)
  origin f g a b m s (inr n) (inr o) = (m, inr (inr (n, o, refl)), s.2 m n o)

  distinct_swap : (ks : List X) (a b : ℕ) → a < length ks → b < length ks → AreDistinct ks → AreDistinct (swap ks a b)
  distinct_swap ks a b p q h i j d li lj e =
      let len = length-swap ks a b in
      let s = swapped_from_swap ks (swap ks a b) a b d p q refl in
      let x = origin (λ k. get_or ks k d) (λ k. get_or (swap ks a b) k d) a b i s (cases_eq i a) (cases_eq i b) in
      let y = origin (λ k. get_or ks k d) (λ k. get_or (swap ks a b) k d) a b j s (cases_eq j a) (cases_eq j b) in
      let same = h x.0 y.0 d (omega (arith, x.1)) (omega (arith, y.1)) (sym x.2 ∙ (e ∙ y.2)) in
      omega (arith, x.1, y.1)

  pub distinct_permuted : (xs ys : List X) → IsPermutation xs ys → AreDistinct xs → AreDistinct ys
  distinct_permuted xs ys s h = IsPermutation-keeps xs AreDistinct h distinct_swap ys s
