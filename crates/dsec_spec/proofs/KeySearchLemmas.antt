-- A search for the key of a DS record, key by key.
use Rattle.std.proofs.Common.{◌≡◌, ℕ, zero, suc, ◌+◌, List, [], ◌∷◌, Bool, true, false, cond, refl, ap, ◌∙◌, arith, length, take}
use Rattle.std.specs.Prelude.{filter, nat_lt, ◌||◌}
use Rattle.std.specs.List.{list_any, position_or_len}
use Rattle.std.proofs.Math.Bool.{not}
use Rattle.std.proofs.lemmas.Bool.Decides.{nat_tests}
use Rattle.dsec_spec.specs.KeySearch.{KeySearch, found_at, not_found, too_many, search_in}

-- the search in a list behind so many others
abbrev pub behind : ℕ → KeySearch → KeySearch
behind n (found_at k) = found_at (n + k)
behind n not_found = not_found
behind n too_many = too_many

-- how a search ends: whether it is found, and where, and whether there are too many
abbrev ends : Bool → ℕ → Bool → KeySearch
ends found k more = cond found (found_at k) (cond more too_many not_found)

behind_ends : (found more : Bool) (k : ℕ) → ends found (1 + k) more ≡ behind 1 (ends found k more)
behind_ends true more k = refl
behind_ends false true k = refl
behind_ends false false k = refl

-- the answers of the tests for the first of the list, in the search
abbrev with_tests : {A : Type 0} → (A → Bool) → (A → Bool) → ℕ → A → List A → Bool → Bool → KeySearch
with_tests p q most x xs b c =
    ends (list_any q (take most (cond b (x ∷ filter p xs) (filter p xs)))) (cond (not c) (1 + position_or_len q xs) 0) (nat_lt most (length (cond b (x ∷ filter p xs) (filter p xs))))

by_tests : {A : Type 0} (p q : A → Bool) (most : ℕ) (x : A) (xs : List A) (b c : Bool) → p x ≡ b → q x ≡ c → search_in p q most (x ∷ xs) ≡ with_tests p q most x xs b c
by_tests p q most x xs b c candidate it =
    ap (λ (t : Bool). with_tests p q most x xs t (q x)) candidate ∙ ap (λ (t : Bool). with_tests p q most x xs b t) it

less_suc : (m n : ℕ) → nat_lt (suc m) (suc n) ≡ nat_lt m n
less_suc m n = grind (arith, nat_tests)

none_less : (m : ℕ) → nat_lt m 0 ≡ false
none_less m = grind (arith, nat_tests)

some_more : (n : ℕ) → nat_lt 0 (suc n) ≡ true
some_more n = grind (arith, nat_tests)

-- none is found where there is none
pub search_end : {A : Type 0} (p q : A → Bool) (most : ℕ) → search_in p q most [] ≡ not_found
search_end p q zero = refl
search_end p q (suc n) = ap (ends false 0) (none_less (suc n))

-- one that doesn't call for the test is passed over
pub search_past : {A : Type 0} (p q : A → Bool) (most : ℕ) (x : A) (xs : List A) → p x ≡ false → q x ≡ false → search_in p q most (x ∷ xs) ≡ behind 1 (search_in p q most xs)
search_past p q most x xs candidate it =
    by_tests p q most x xs false false candidate it
    ∙ behind_ends (list_any q (take most (filter p xs))) (nat_lt most (length (filter p xs))) (position_or_len q xs)

-- one that is tried in vain leaves one fewer to be tried
pub search_tried : {A : Type 0} (p q : A → Bool) (most : ℕ) (x : A) (xs : List A) → p x ≡ true → q x ≡ false → search_in p q (suc most) (x ∷ xs) ≡ behind 1 (search_in p q most xs)
search_tried p q most x xs candidate it =
    by_tests p q (suc most) x xs true false candidate it
    ∙ (ap (λ (t : Bool). ends (t || list_any q (take most (filter p xs))) (1 + position_or_len q xs) (nat_lt (suc most) (suc (length (filter p xs))))) it
    ∙ (ap (ends (list_any q (take most (filter p xs))) (1 + position_or_len q xs)) (less_suc most (length (filter p xs)))
    ∙ behind_ends (list_any q (take most (filter p xs))) (nat_lt most (length (filter p xs))) (position_or_len q xs)))

-- one that passes is it
pub search_found : {A : Type 0} (p q : A → Bool) (most : ℕ) (x : A) (xs : List A) → p x ≡ true → q x ≡ true → search_in p q (suc most) (x ∷ xs) ≡ found_at 0
search_found p q most x xs candidate it =
    by_tests p q (suc most) x xs true true candidate it
    ∙ ap (λ (t : Bool). ends (t || list_any q (take most (filter p xs))) 0 (nat_lt (suc most) (suc (length (filter p xs))))) it

-- one too many
pub search_over : {A : Type 0} (p q : A → Bool) (x : A) (xs : List A) → p x ≡ true → search_in p q 0 (x ∷ xs) ≡ too_many
search_over p q x xs candidate =
    by_tests p q 0 x xs true (q x) candidate refl
    ∙ ap (ends false (cond (not (q x)) (1 + position_or_len q xs) 0)) (some_more (length (filter p xs)))
