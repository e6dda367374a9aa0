-- The one ascending order of a list of octet strings: `ascending` is a permutation, it ascends, and nothing else does both.
use Rattle.std.proofs.Common.{◌≡◌, ℕ, zero, suc, ◌+◌, ◌≤◌, ◌<◌, Bool, true, false, cond, List, [], ◌∷◌, length, get_or, refl, sym, ap, subst, ◌∙◌, arith}
use Rattle.std.specs.Prelude.{sum_by, IsPermutation, IsSorted}
use Rattle.std.specs.declared.cmp.Ordering.{Ordering}
use Rattle.std.specs.declared.cmp.Ordering.TheVariants.{Less, Equal, Greater}
use Rattle.std.specs.Ordering.{nat_cmp, is_lt, ordering_reverse}
use Rattle.std.specs.Cmp.{IsStrictWeakOrder}
use Rattle.std.specs.Cmp.Lexicographic.{slice_cmp}
use Rattle.std.specs.FinSet.{nat_cmp-IsAntisymmetric, slice_cmp-IsAntisymmetric}
use Rattle.std.specs.Str.{bytes_eq}
use Rattle.std.proofs.lemmas.Cmp.{nat_list_cmp_total}
use Rattle.std.proofs.lemmas.List.Sorted.{sum_by-IsPermutation, sorted_far, ranks_by, IsPermutation-refl, IsPermutation-cons, IsPermutation-trans, IsPermutation-middle}
use Rattle.std.proofs.lemmas.List.Sums.{sum_by-cons}
use Rattle.std.proofs.lemmas.Bool.{false≢true}
use Rattle.std.proofs.lemmas.Slice.Eq.{bytes_eq-Decides}
use Rattle.dsec_spec.specs.SignedBytes.{inserted, ascending}

-- the order of octet strings
abbrev cmp : List ℕ → List ℕ → Ordering
cmp = slice_cmp nat_cmp

abbrev lt : List ℕ → List ℕ → Bool
lt x y = is_lt (slice_cmp nat_cmp x y)

abbrev Ascends : List (List ℕ) → Type 0
Ascends = IsSorted cmp

lt_weak : IsStrictWeakOrder lt
lt_weak = ranks_by nat_list_cmp_total (λ (x : List ℕ). x)

not_true : (b : Bool) → (b ≡ true → ⊥) → b ≡ false
not_true true h = absurd (h refl)
not_true false h = refl

-- ---- no other list has the same elements and ascends

tail_ascends : (x : List ℕ) (xs : List (List ℕ)) → Ascends (x ∷ xs) → Ascends xs
tail_ascends x xs s k d low below =
    let e : suc k + 1 ≡ suc (k + 1) = omega arith in
    subst (λ (n : ℕ). lt (get_or (x ∷ xs) n d) (get_or xs k d) ≡ false) e (s (suc k) d (omega arith) (omega arith))

-- no element is below the first
first_least : (x : List ℕ) (xs : List (List ℕ)) → Ascends (x ∷ xs) → (j : ℕ) (d : List ℕ) → j < suc (length xs) → lt (get_or (x ∷ xs) j d) x ≡ false
first_least x xs s j d below = sorted_far lt lt_weak (x ∷ xs) s 0 j d (omega arith) below

-- one for an element that is v
abbrev occurs : List ℕ → List ℕ → ℕ
occurs v x = cond (bytes_eq x v) 1 0

absent : (v : List ℕ) (xs : List (List ℕ)) → ((j : ℕ) (d : List ℕ) → j < length xs → bytes_eq (get_or xs j d) v ≡ false) → sum_by (occurs v) xs ≡ 0
absent v [] h = refl
absent v (x ∷ xs) h =
    let e : occurs v x ≡ 0 = rw (h 0 x (omega arith)) refl in
    let others : sum_by (occurs v) xs ≡ 0 = absent v xs (λ j d below. h (suc j) d (omega arith)) in
    sum_by-cons (occurs v) x xs ∙ omega (arith, e, others)

itself : (v : List ℕ) → occurs v v ≡ 1
itself v = rw ((bytes_eq-Decides v v).1 refl) refl

present : (v : List ℕ) (xs : List (List ℕ)) → 1 ≤ sum_by (occurs v) (v ∷ xs)
present v xs = omega (arith, sum_by-cons (occurs v) v xs, itself v)

-- what is below the first isn't there
below_first_absent : (v y : List ℕ) (ys : List (List ℕ)) → Ascends (y ∷ ys) → cmp v y ≡ Less → sum_by (occurs v) (y ∷ ys) ≡ 0
below_first_absent v y ys s less =
    absent v (y ∷ ys) (λ j d below. not_true _ (λ same.
    let is : get_or (y ∷ ys) j d ≡ v = (bytes_eq-Decides (get_or (y ∷ ys) j d) v).0 same in
    let up : lt v y ≡ false = subst (λ (z : List ℕ). lt z y ≡ false) is (first_least y ys s j d below) in
    let down : lt v y ≡ true = rw less refl in
    cc))

-- each string occurs as often in both
abbrev SameCounts : List (List ℕ) → List (List ℕ) → Type 0
SameCounts xs ys = (v : List ℕ) → sum_by (occurs v) xs ≡ sum_by (occurs v) ys

same_by_first : (x y : List ℕ) (xs ys : List (List ℕ)) → Ascends (x ∷ xs) → Ascends (y ∷ ys) → SameCounts (x ∷ xs) (y ∷ ys) → (SameCounts xs ys → xs ≡ ys) → (o : Ordering) → cmp x y ≡ o → x ∷ xs ≡ y ∷ ys
same_by_first x y xs ys s t same others Less e =
    let a = same x in let p = present x xs in let z = below_first_absent x y ys t e in absurd (omega arith)
same_by_first x y xs ys s t same others Greater e =
    let back : cmp y x ≡ Less = nat_list_cmp_total.antisymm y x ∙ ap ordering_reverse e in
    let a = same y in let p = present y ys in let z = below_first_absent y x xs s back in absurd (omega arith)
same_by_first x y xs ys s t same others Equal e =
    let head : x ≡ y = slice_cmp-IsAntisymmetric nat_cmp-IsAntisymmetric x y e in
    let counts : SameCounts xs ys = λ v.
    let a : sum_by (occurs v) (x ∷ xs) ≡ occurs v x + sum_by (occurs v) xs = sum_by-cons (occurs v) x xs in
    let b : sum_by (occurs v) (y ∷ ys) ≡ occurs v y + sum_by (occurs v) ys = sum_by-cons (occurs v) y ys in
    let c : occurs v x ≡ occurs v y = ap (occurs v) head in
    let d = same v in omega (arith, a, b, c, d) in
    let tails : xs ≡ ys = others counts in
    cc

same_by_counts : (xs ys : List (List ℕ)) → Ascends xs → Ascends ys → SameCounts xs ys → xs ≡ ys
same_by_counts [] [] s t same = refl
same_by_counts [] (y ∷ ys) s t same = let e = same y in let p = present y ys in absurd (omega arith)
same_by_counts (x ∷ xs) [] s t same = let e = same x in let p = present x xs in absurd (omega arith)
same_by_counts (x ∷ xs) (y ∷ ys) s t same =
    same_by_first x y xs ys s t same (λ counts. same_by_counts xs ys (tail_ascends x xs s) (tail_ascends y ys t) counts) (cmp x y) refl

-- two permutations of a list that ascend are the same list
pub one_ascending_order : (xs ys zs : List (List ℕ)) → IsPermutation xs ys → IsPermutation xs zs → IsSorted (slice_cmp nat_cmp) ys → IsSorted (slice_cmp nat_cmp) zs → ys ≡ zs
one_ascending_order xs ys zs p q s t =
    same_by_counts ys zs s t (λ v. sum_by-IsPermutation (occurs v) xs ys p ∙ sym (sum_by-IsPermutation (occurs v) xs zs q))

-- ---- `ascending` ascends

-- no string of the list is below x, as far as its first element tells
abbrev IsBelowFirst : List ℕ → List (List ℕ) → Type 0
IsBelowFirst x [] = Unit {0}
IsBelowFirst x (y ∷ ys) = lt y x ≡ false

abbrev StepsUp : List (List ℕ) → Type 0
StepsUp [] = Unit {0}
StepsUp (x ∷ xs) = IsBelowFirst x xs × StepsUp xs

turned : (x y : List ℕ) (o : Ordering) → cmp y x ≡ o → is_lt o ≡ true → lt x y ≡ false
turned x y Less e h = let back : cmp x y ≡ Greater = nat_list_cmp_total.antisymm x y ∙ ap ordering_reverse e in rw back refl
turned x y Equal e h = absurd (false≢true h)
turned x y Greater e h = absurd (false≢true h)

-- what `inserted` makes of a list that begins with y, by whether y is below x
abbrev placed : Bool → List ℕ → List ℕ → List (List ℕ) → List (List ℕ)
placed b x y ys = cond b (y ∷ inserted x ys) (x ∷ y ∷ ys)

inserted-cons : (x y : List ℕ) (ys : List (List ℕ)) → inserted x (y ∷ ys) ≡ placed (lt y x) x y ys
unfolding inserted
inserted-cons x y ys = refl

inserted-nil : (x : List ℕ) → inserted x [] ≡ x ∷ []
unfolding inserted
inserted-nil x = refl

first_placed : (z x y : List ℕ) (ys : List (List ℕ)) (b : Bool) → lt x z ≡ false → lt y z ≡ false → IsBelowFirst z (placed b x y ys)
first_placed z x y ys true h k = k
first_placed z x y ys false h k = h

first_inserted : (z x : List ℕ) (ys : List (List ℕ)) → lt x z ≡ false → IsBelowFirst z ys → IsBelowFirst z (inserted x ys)
first_inserted z x [] h k = rw (inserted-nil x) h
first_inserted z x (y ∷ ys) h k = rw (inserted-cons x y ys) (first_placed z x y ys (lt y x) h k)

up_placed : (x y : List ℕ) (ys : List (List ℕ)) (b : Bool) → lt y x ≡ b → IsBelowFirst y ys → StepsUp ys → StepsUp (inserted x ys) → StepsUp (placed b x y ys)
up_placed x y ys true e h u v = (first_inserted y x ys (turned x y (cmp y x) refl e) h, v)
up_placed x y ys false e h u v = (e, (h, u))

up_inserted : (x : List ℕ) (ys : List (List ℕ)) → StepsUp ys → StepsUp (inserted x ys)
up_inserted x [] u = rw (inserted-nil x) (tt, tt)
up_inserted x (y ∷ ys) u = rw (inserted-cons x y ys) (up_placed x y ys (lt y x) refl u.0 u.1 (up_inserted x ys u.1))

up_ascending : (xs : List (List ℕ)) → StepsUp (ascending xs)
unfolding ascending
up_ascending [] = tt
up_ascending (x ∷ xs) = up_inserted x (ascending xs) (up_ascending xs)

step_at : (xs : List (List ℕ)) → StepsUp xs → (k : ℕ) (d : List ℕ) → suc k < length xs → lt (get_or xs (suc k) d) (get_or xs k d) ≡ false
step_at [] u k d below = absurd (omega arith)
step_at (x ∷ []) u k d below = absurd (omega arith)
step_at (x ∷ y ∷ ys) u zero d below = u.0
step_at (x ∷ y ∷ ys) u (suc k) d below = step_at (y ∷ ys) u.1 k d (omega arith)

-- `ascending` ascends
pub ascending_ascends : (xs : List (List ℕ)) → IsSorted (slice_cmp nat_cmp) (ascending xs)
ascending_ascends xs k d low below =
    let e : suc k ≡ k + 1 = omega arith in
    subst (λ (n : ℕ). lt (get_or (ascending xs) n d) (get_or (ascending xs) k d) ≡ false) e (step_at (ascending xs) (up_ascending xs) k d (omega arith))

-- ---- `ascending` is a permutation

swapped : (x y : List ℕ) (ys : List (List ℕ)) → IsPermutation (x ∷ y ∷ ys) (y ∷ x ∷ ys)
swapped x y ys = IsPermutation-middle (x ∷ []) y ys

permuted_placed : (x y : List ℕ) (ys : List (List ℕ)) (b : Bool) → IsPermutation (x ∷ ys) (inserted x ys) → IsPermutation (x ∷ y ∷ ys) (placed b x y ys)
permuted_placed x y ys true p =
    IsPermutation-trans (x ∷ y ∷ ys) (y ∷ x ∷ ys) (y ∷ inserted x ys) (swapped x y ys) (IsPermutation-cons y (x ∷ ys) (inserted x ys) p)
permuted_placed x y ys false p = IsPermutation-refl (x ∷ y ∷ ys)

inserted_permutes : (x : List ℕ) (ys : List (List ℕ)) → IsPermutation (x ∷ ys) (inserted x ys)
inserted_permutes x [] = rw (inserted-nil x) (IsPermutation-refl (x ∷ []))
inserted_permutes x (y ∷ ys) = rw (inserted-cons x y ys) (permuted_placed x y ys (lt y x) (inserted_permutes x ys))

-- `ascending` has the same strings, each as often
pub ascending_permutes : (xs : List (List ℕ)) → IsPermutation xs (ascending xs)
unfolding ascending
ascending_permutes [] = IsPermutation-refl []
ascending_permutes (x ∷ xs) =
    IsPermutation-trans (x ∷ xs) (x ∷ ascending xs) (inserted x (ascending xs))
    (IsPermutation-cons x xs (ascending xs) (ascending_permutes xs)) (inserted_permutes x (ascending xs))

-- a permutation that ascends, as a sort leaves it, is `ascending`
pub ascending_is : (xs ys : List (List ℕ)) → IsPermutation xs ys → IsSorted (slice_cmp nat_cmp) ys → ys ≡ ascending xs
ascending_is xs ys p s = one_ascending_order xs ys (ascending xs) p (ascending_permutes xs) s (ascending_ascends xs)

-- lists that are permutations of each other have one ascending order
pub ascending_of_permutation : (xs ys : List (List ℕ)) → IsPermutation xs ys → ascending xs ≡ ascending ys
ascending_of_permutation xs ys p =
    one_ascending_order xs (ascending xs) (ascending ys) (ascending_permutes xs)
    (IsPermutation-trans xs ys (ascending ys) p (ascending_permutes ys)) (ascending_ascends xs) (ascending_ascends ys)
