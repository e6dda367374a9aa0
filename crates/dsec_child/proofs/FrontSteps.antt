-- The front of a list in which so many pass a test.
use Rattle.std.proofs.Common.{◌≡◌, ℕ, zero, suc, ◌+◌, ◌<◌, ◌≤◌, Bool, true, false, cond, List, [], ◌∷◌, ◌++◌, map, length, take, drop, get_or, sym, ap, ◌∙◌, arith}
use Rattle.std.specs.Prelude.{filter}
use Rattle.std.proofs.lemmas.List.{length-append, length-map, take-append-drop, take_all}
use Rattle.std.proofs.lemmas.List.Elements.{filter-append}
use Rattle.std.proofs.Math.Seq.{take-append_seam}

module _ {A B : Type 0} (test : B → Bool) (view : A → B) where
  -- how many of the front pass
  abbrev pub passing : List A → ℕ → List B
  passing xs i = filter test (take i (map view xs))

  next_taken : (xs : List A) (i : ℕ) (x : A) → i < length xs → x ≡ get_or xs i x → take (suc i) (map view xs) ≡ take i (map view xs) ++ view x ∷ []
  next_taken [] i x below is = absurd (omega (arith, below))
  next_taken (y ∷ ys) zero x below is = ap (λ z. view z ∷ []) (sym is)
  next_taken (y ∷ ys) (suc i) x below is = ap (λ zs. view y ∷ zs) (next_taken ys i x (omega (arith, below)) is)

  module _ (xs : List A) (i : ℕ) (x : A) (below : i < length xs) (is : x ≡ get_or xs i x) where
    one_more : (b : Bool) → test (view x) ≡ b → passing xs (i + 1) ≡ passing xs i ++ cond b (view x ∷ []) []
    one_more b e =
        let next : i + 1 ≡ suc i = omega arith in
        ap (λ n. passing xs n) next
        ∙ (ap (filter test) (next_taken xs i x below is)
        ∙ (filter-append test (take i (map view xs)) (view x ∷ [])
        ∙ ap (λ c. passing xs i ++ cond c (view x ∷ []) []) e))

    pub passes : test (view x) ≡ true → length (passing xs (i + 1)) ≡ length (passing xs i) + 1
    passes e = ap length (one_more true e) ∙ length-append (passing xs i) (view x ∷ [])

    pub fails : test (view x) ≡ false → length (passing xs (i + 1)) ≡ length (passing xs i)
    fails e =
        let z : length (passing xs i) + 0 ≡ length (passing xs i) = omega arith in
        ap length (one_more false e) ∙ (length-append (passing xs i) [] ∙ z)

  parts : (xs : List A) (i : ℕ) → filter test (map view xs) ≡ passing xs i ++ filter test (drop i (map view xs))
  parts xs i = sym (ap (filter test) (take-append-drop i (map view xs))) ∙ filter-append test (take i (map view xs)) (drop i (map view xs))

  -- no more of all pass than of a front and behind it
  pub at_least : (xs : List A) (i : ℕ) → length (passing xs i) ≤ length (filter test (map view xs))
  at_least xs i =
      let all = ap length (parts xs i) ∙ length-append (passing xs i) (filter test (drop i (map view xs))) in
      omega (arith, all)

  -- those that pass in the front are the first so many that pass
  pub front_is : (xs : List A) (i most : ℕ) → length (passing xs i) ≡ most → passing xs i ≡ take most (filter test (map view xs))
  front_is xs i most e =
      sym (take-append_seam (passing xs i) (filter test (drop i (map view xs))))
      ∙ (ap (take (length (passing xs i))) (sym (parts xs i))
      ∙ ap (λ n. take n (filter test (map view xs))) e)

  -- all of them
  pub whole : (xs : List A) (i : ℕ) → length xs ≤ i → passing xs i ≡ filter test (map view xs)
  whole xs i past = let l : length (map view xs) ≤ i = (let m = length-map xs view in omega (arith, m, past)) in ap (filter test) (take_all i (map view xs) l)

  pub whole_is : (xs : List A) (i most : ℕ) → length xs ≤ i → length (passing xs i) ≤ most → passing xs i ≡ take most (filter test (map view xs))
  whole_is xs i most past few =
      let same = whole xs i past in
      let l : length (filter test (map view xs)) ≤ most = (let m = ap length same in omega (arith, m, few)) in
      same ∙ sym (take_all most (filter test (map view xs)) l)
