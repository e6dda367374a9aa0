-- Trials of what comes of a list by a function.
use Rattle.std.proofs.Common.{◌≡◌, ℕ, zero, suc, ◌-◌, Bool, true, false, cond, List, [], ◌∷◌, map, length, take, Option, Some, None, refl, sym, ap, ◌∙◌}
use Rattle.std.specs.Prelude.{filter, find}
use Rattle.std.specs.Option.{option_map}
use Rattle.std.proofs.lemmas.List.{length-map}
use Rattle.dsec_spec.specs.Records.{Record, Key}
use Rattle.dsec_spec.specs.Trying.{pairs}
use Rattle.dsec_group.specs.Trials.{Trial, found, left, found_or, trial}

abbrev pub trial_map : {A P : Type 0} → (A → P) → Trial A → Trial P
trial_map h (found x) = found (h x)
trial_map h (left n) = left n

found_map : {A P : Type 0} (h : A → P) (n : ℕ) (o : Option A) → found_or n (option_map h o) ≡ trial_map h (found_or n o)
found_map h n (Some x) = refl
found_map h n None = refl

find_map : {A P : Type 0} (h : A → P) (is_good : P → Bool) (n : ℕ) (xs : List A) → find is_good (take n (map h xs)) ≡ option_map h (find (λ x. is_good (h x)) (take n xs))
find_map h is_good zero xs = refl
find_map h is_good (suc n) [] = refl
find_map h is_good (suc n) (x ∷ xs) = by (is_good (h x)) (find_map h is_good n xs)
  where
    by : (b : Bool) → find is_good (take n (map h xs)) ≡ option_map h (find (λ y. is_good (h y)) (take n xs))
        → cond b (Some (h x)) (find is_good (take n (map h xs))) ≡ option_map h (cond b (Some x) (find (λ y. is_good (h y)) (take n xs)))
    by true rest = refl
    by false rest = rest

-- the trial of a mapped list
pub trial_of_map : {A P : Type 0} (h : A → P) (is_good : P → Bool) (room : ℕ) (xs : List A) → trial is_good room (map h xs) ≡ trial_map h (trial (λ x. is_good (h x)) room xs)
trial_of_map h is_good room xs =
    ap (λ n. found_or (room - n) (find is_good (take room (map h xs)))) (length-map xs h)
    ∙ (ap (found_or (room - length xs)) (find_map h is_good room xs) ∙ found_map h (room - length xs) (find (λ x. is_good (h x)) (take room xs)))

-- how many more may be tried
pub more_left : {P : Type 0} (is_good : P → Bool) (room more : ℕ) (ps : List P) → trial is_good room ps ≡ left more → more ≡ room - length ps
more_left {P} is_good room more ps e = by (find is_good (take room ps)) e
  where
    by : (o : Option P) → found_or (room - length ps) o ≡ left more → more ≡ room - length ps
    by (Some p) f = absurd cc
    by None f = let same : room - length ps ≡ more = cc in sym same

filter_step : {A B : Type 0} (f : A → B) (x : A) (ys : List B) (zs : List A) → ys ≡ map f zs → (b : Bool) → cond b (f x ∷ ys) ys ≡ map f (cond b (x ∷ zs) zs)
filter_step f x ys zs e true = ap (λ us. f x ∷ us) e
filter_step f x ys zs e false = e

-- what a filter leaves of a mapped list
pub filter_of_map : {A B : Type 0} (test : B → Bool) (f : A → B) (xs : List A) → filter test (map f xs) ≡ map f (filter (λ x. test (f x)) xs)
filter_of_map test f [] = refl
filter_of_map test f (x ∷ xs) = filter_step f x (filter test (map f xs)) (filter (λ y. test (f y)) xs) (filter_of_map test f xs) (test (f x))

-- pairs with one key
pub one_key : (key : Key) (signatures : List Record) → pairs signatures (key ∷ []) ≡ map (λ s. (s, key)) signatures
one_key key [] = refl
one_key key (s ∷ signatures) = ap (λ (ps : List (Record × Key)). (s, key) ∷ ps) (one_key key signatures)
