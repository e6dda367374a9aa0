-- The first things of each kind, with one more thing at the end of the list.
use Rattle.std.proofs.Common.{◌≡◌, Bool, true, false, ◌||◌, cond, List, [], ◌∷◌, ◌++◌, refl, sym, ap, ◌∙◌}
use Rattle.std.proofs.Math.Bool.{not}
use Rattle.std.specs.List.{filter, list_any}
use Rattle.std.proofs.lemmas.Bool.{not-true, true≢false}
use Rattle.std.proofs.lemmas.List.Elements.{filter-append}
use Rattle.std.proofs.lemmas.Map.Views.{any-filter_same}
use Rattle.dsec_spec.specs.Groups.{firsts}

-- P holds of each thing
abbrev pub Each : {A : Type 0} → (A → Type 0) → List A → Type 0
Each P [] = Unit {0}
Each P (x ∷ xs) = P x × Each P xs

each_step : {A : Type 0} (P : A → Type 0) (b : Bool) (x : A) (xs : List A) → P x → Each P xs → Each P (cond b (x ∷ xs) xs)
each_step P true x xs h k = (h, k)
each_step P false x xs h k = k

pub each_filter : {A : Type 0} (P : A → Type 0) (p : A → Bool) (xs : List A) → Each P xs → Each P (filter p xs)
each_filter P p [] h = tt
each_filter P p (x ∷ xs) h = each_step P (p x) x (filter p xs) h.0 (each_filter P p xs h.1)

-- what a test keeps passes it
kept_step : {A : Type 0} (P : A → Type 0) (p : A → Bool) (b : Bool) (x : A) (xs : List A) → p x ≡ b → P x → Each (λ y. P y × (p y ≡ true)) xs
    → Each (λ y. P y × (p y ≡ true)) (cond b (x ∷ xs) xs)
kept_step P p true x xs e h k = ((h, e), k)
kept_step P p false x xs e h k = k

pub each_kept : {A : Type 0} (P : A → Type 0) (p : A → Bool) (xs : List A) → Each P xs → Each (λ y. P y × (p y ≡ true)) (filter p xs)
each_kept P p [] h = tt
each_kept P p (x ∷ xs) h = kept_step P p (p x) x (filter p xs) refl h.0 (each_kept P p xs h.1)

pub each_always : {A : Type 0} (P : A → Type 0) → ((x : A) → P x) → (xs : List A) → Each P xs
each_always P always [] = tt
each_always P always (x ∷ xs) = (always x, each_always P always xs)

pub each_so : {A : Type 0} (P Q : A → Type 0) → ((x : A) → P x → Q x) → (xs : List A) → Each P xs → Each Q xs
each_so P Q so [] h = tt
each_so P Q so (x ∷ xs) h = (so x h.0, each_so P Q so xs h.1)

pub each_append : {A : Type 0} (P : A → Type 0) (xs ys : List A) → Each P xs → Each P ys → Each P (xs ++ ys)
each_append P [] ys h k = k
each_append P (x ∷ xs) ys h k = (h.0, each_append P xs ys h.1 k)

pub each_firsts : {A : Type 0} (P : A → Type 0) (alike : A → A → Bool) (xs : List A) → Each P xs → Each P (firsts alike xs)
unfolding firsts
each_firsts P alike [] h = tt
each_firsts P alike (x ∷ xs) h = (h.0, each_filter P (λ y. not (alike x y)) (firsts alike xs) (each_firsts P alike xs h.1))

or_same : (b p q : Bool) → (b ≡ false → p ≡ q) → (b || p) ≡ (b || q)
or_same true p q h = refl
or_same false p q h = h refl

pub or_none : (b p : Bool) → (b || p) ≡ false → (b ≡ false) × (p ≡ false)
or_none true p h = absurd (true≢false h)
or_none false p h = (refl, h)

-- of things alike each is like the same things; nothing is unlike itself
module _ {A : Type 0} (alike : A → A → Bool) (itself : (x : A) → alike x x ≡ true) (agree : (x y z : A) → alike x y ≡ true → alike x z ≡ alike y z) where
  pub turned : (x y : A) → alike x y ≡ alike y x
  turned x y = go (alike x y) (alike y x) refl refl where
    go : (b c : Bool) → alike x y ≡ b → alike y x ≡ c → b ≡ c
    go true true e f = refl
    go false false e f = refl
    go true false e f = sym (itself x) ∙ agree x y x e ∙ f
    go false true e f = sym e ∙ sym (agree y x y f) ∙ itself y

  -- what is like r isn't among the things that are like x, where x and r aren't alike
  any_others : (x r : A) (ys : List A) → alike x r ≡ false → list_any (λ y. alike y r) (filter (λ y. not (alike x y)) ys) ≡ list_any (λ y. alike y r) ys
  any_others x r ys other = any-filter_same (λ y. alike y r) (λ y. not (alike x y)) true (λ k h. ap not (turned x k ∙ agree k r x h ∙ turned r x ∙ other)) ys

  -- a thing is like one of the first ones where it is like any
  pub any_firsts : (r : A) (xs : List A) → list_any (λ y. alike y r) (firsts alike xs) ≡ list_any (λ y. alike y r) xs
  unfolding firsts
  any_firsts r [] = refl
  any_firsts r (x ∷ xs) =
      or_same (alike x r) (list_any (λ y. alike y r) (filter (λ y. not (alike x y)) (firsts alike xs))) (list_any (λ y. alike y r) xs)
      (λ other. any_others x r (firsts alike xs) other ∙ any_firsts r xs)

  last_kept : (x r : A) (b a a2 : Bool) → alike x r ≡ b → (b ≡ false → a2 ≡ a)
      → filter (λ y. not (alike x y)) (cond a [] (r ∷ [])) ≡ cond (b || a2) [] (r ∷ [])
  last_kept x r true true a2 e h = refl
  last_kept x r true false a2 e h = rw e refl
  last_kept x r false true a2 e h = rw (h refl) refl
  last_kept x r false false a2 e h = rw (e, h refl) refl

  -- one more thing is a first one where it is like none of them
  pub firsts_more : (xs : List A) (r : A) → firsts alike (xs ++ r ∷ []) ≡ firsts alike xs ++ cond (list_any (λ y. alike y r) (firsts alike xs)) [] (r ∷ [])
  unfolding firsts
  firsts_more [] r = refl
  firsts_more (x ∷ xs) r =
      let found : Bool = list_any (λ y. alike y r) (firsts alike xs) in
      let others : List A = filter (λ y. not (alike x y)) (firsts alike xs) in
      ap (λ ys. x ∷ filter (λ y. not (alike x y)) ys) (firsts_more xs r)
      ∙ ap (λ ys. x ∷ ys) (filter-append (λ y. not (alike x y)) (firsts alike xs) (cond found [] (r ∷ [])))
      ∙ ap (λ ys. x ∷ (others ++ ys)) (last_kept x r (alike x r) found (list_any (λ y. alike y r) others) refl (λ other. any_others x r (firsts alike xs) other))

  pub none_alike : (r : A) (xs : List A) → list_any (λ y. alike y r) xs ≡ false → filter (alike r) xs ≡ []
  none_alike r [] h = refl
  none_alike r (x ∷ xs) h =
      let p = or_none (alike x r) (list_any (λ y. alike y r) xs) h in
      rw (turned r x ∙ p.0) (none_alike r xs p.1)

  -- f comes before all the others that are like it
  abbrev pub ComesFirst : List A → A → Type 0
  ComesFirst xs f = (rest : List A) × (filter (alike f) xs ≡ f ∷ rest)

  still_first_step : (x : A) (xs : List A) (f : A) (rest : List A) (b : Bool) → alike x f ≡ b → ComesFirst xs f → Each (ComesFirst (x ∷ xs)) rest
      → Each (ComesFirst (x ∷ xs)) (cond (not b) (f ∷ rest) rest)
  still_first_step x xs f rest true e first others = others
  still_first_step x xs f rest false e first others = ((first.0, rw (turned f x ∙ e) first.1), others)

  still_first : (x : A) (xs fs : List A) → Each (ComesFirst xs) fs → Each (ComesFirst (x ∷ xs)) (filter (λ y. not (alike x y)) fs)
  still_first x xs [] h = tt
  still_first x xs (f ∷ fs) h = still_first_step x xs f (filter (λ y. not (alike x y)) fs) (alike x f) refl h.0 (still_first x xs fs h.1)

  pub firsts_come_first : (xs : List A) → Each (ComesFirst xs) (firsts alike xs)
  unfolding firsts
  firsts_come_first [] = tt
  firsts_come_first (x ∷ xs) = ((filter (alike x) xs, rw (itself x) refl), still_first x xs (firsts alike xs) (firsts_come_first xs))

  -- no two are alike
  abbrev pub Apart : List A → Type 0
  Apart [] = Unit {0}
  Apart (x ∷ xs) = Each (λ y. alike x y ≡ false) xs × Apart xs

  others_unlike : (x : A) (xs : List A) → Each (λ y. alike x y ≡ false) (filter (λ y. not (alike x y)) xs)
  others_unlike x xs =
      each_so (λ y. Unit {0} × (not (alike x y) ≡ true)) (λ y. alike x y ≡ false) (λ y h. not-true (alike x y) h.1) (filter (λ y. not (alike x y)) xs)
      (each_kept (λ y. Unit {0}) (λ y. not (alike x y)) xs (each_always (λ y. Unit {0}) (λ y. tt) xs))

  apart_step : (b : Bool) (x : A) (xs : List A) → Each (λ y. alike x y ≡ false) xs → Apart xs → Apart (cond b (x ∷ xs) xs)
  apart_step true x xs h k = (h, k)
  apart_step false x xs h k = k

  still_apart : (p : A → Bool) (xs : List A) → Apart xs → Apart (filter p xs)
  still_apart p [] h = tt
  still_apart p (x ∷ xs) h = apart_step (p x) x (filter p xs) (each_filter (λ y. alike x y ≡ false) p xs h.0) (still_apart p xs h.1)

  pub firsts_apart : (xs : List A) → Apart (firsts alike xs)
  unfolding firsts
  firsts_apart [] = tt
  firsts_apart (x ∷ xs) = (others_unlike x (firsts alike xs), still_apart (λ y. not (alike x y)) (firsts alike xs) (firsts_apart xs))
