-- The entries of numbers, sorted.
use Rattle.std.proofs.Common.{◌≡◌, ℕ, zero, suc, ◌+◌, ◌^◌, ◌<◌, ◌≤◌, List, [], ◌∷◌, ◌++◌, length, get_or, Some, IsPermutation, refl, sym, ap, ◌∙◌, arith}
use Rattle.std.specs.Prelude.{slice_get}
use Rattle.std.specs.List.{AllByRecursion}
use Rattle.std.specs.List.Sorted.{IsSorted}
use Rattle.std.specs.Ordering.{nat_cmp}
use Rattle.std.proofs.lemmas.List.Elements.{All-from_recursion}
use Rattle.std.proofs.lemmas.Option.{same_Some}
use Rattle.std.proofs.lemmas.List.Sorted.{All-permutation, Contains-permutation, IsNonDecreasingBy-from_sort}
use Rattle.dsec_keys.specs.Indexes.{IsEntry, IsIndexOf, entries_from, entries_of, entry_of}

each_of : (codes cs : List ℕ) (k : ℕ) → ((i : ℕ) → slice_get codes (k + i) ≡ slice_get cs i) → k + length cs ≤ 2 ^ 64 → AllByRecursion (IsEntry codes) (entries_from k cs)
each_of codes [] k at few = tt
each_of codes (c ∷ cs) k at few =
    let here : slice_get codes k ≡ Some c = let z : k + 0 ≡ k = omega arith in ap (slice_get codes) (sym z) ∙ at 0 in
    let on : (i : ℕ) → slice_get codes (k + 1 + i) ≡ slice_get cs i = λ i. let s : k + 1 + i ≡ k + suc i = omega arith in ap (slice_get codes) s ∙ at (suc i) in
    ((k, c, here, omega (arith, few), refl), each_of codes cs (k + 1) on (omega (arith, few)))

pub entries_length : (cs : List ℕ) (k : ℕ) → length (entries_from k cs) ≡ length cs
entries_length [] k = refl
entries_length (c ∷ cs) k = ap suc (entries_length cs (k + 1))

-- what stands among the entries
pub entry_at : (cs : List ℕ) (k i c d : ℕ) → slice_get cs i ≡ Some c → (i < length (entries_from k cs)) × (get_or (entries_from k cs) i d ≡ entry_of c (k + i))
entry_at [] k i c d there = absurd cc
entry_at (x ∷ cs) k zero c d there = (omega arith, let z : k ≡ k + zero = omega arith in ap (λ y. entry_of y k) (same_Some x c there) ∙ ap (entry_of c) z)
entry_at (x ∷ cs) k (suc i) c d there =
    let rest = entry_at cs (k + 1) i c d there in
    let s : k + 1 + i ≡ k + suc i = omega arith in (
      omega (arith, rest.0),
      rest.1 ∙ ap (entry_of c) s,
    )

pub sorted_entries : (codes entries sorted : List ℕ) → entries ≡ entries_of codes → length codes < 2 ^ 64 → IsPermutation entries sorted → IsSorted nat_cmp sorted → IsIndexOf codes sorted
sorted_entries codes entries sorted are few moved rises = record {
  few = few;
  rises = IsNonDecreasingBy-from_sort (λ x. x) sorted rises;
  each = All-permutation (IsEntry codes) entries sorted moved (rw are (All-from_recursion (IsEntry codes) (entries_of codes) (each_of codes codes 0 (λ i. ap (slice_get codes) (zero_on i)) (omega (arith, few)))));
  all = λ i c there. Contains-permutation entries sorted (entry_of c i) moved (rw are (let e = entry_in codes i c there in (i, e.0, e.1)));
}
  where
    zero_on : (i : ℕ) → 0 + i ≡ i
    zero_on i = omega arith

    entry_in : (cs : List ℕ) (i c : ℕ) → slice_get cs i ≡ Some c → (i < length (entries_of cs)) × (get_or (entries_of cs) i (entry_of c i) ≡ entry_of c i)
    entry_in cs i c there = let e = entry_at cs 0 i c (entry_of c i) there in (e.0, e.1 ∙ ap (entry_of c) (zero_on i))

-- one number more
pub entry_more : (cs : List ℕ) (k c : ℕ) → entries_from k (cs ++ c ∷ []) ≡ entries_from k cs ++ entry_of c (k + length cs) ∷ []
entry_more [] k c = let z : k ≡ k + 0 = omega arith in ap (λ n. entry_of c n ∷ []) z
entry_more (x ∷ cs) k c =
    let s : k + 1 + length cs ≡ k + suc (length cs) = omega arith in
    ap (λ es. entry_of x k ∷ es) (entry_more cs (k + 1) c ∙ ap (λ n. entries_from (k + 1) cs ++ entry_of c n ∷ []) s)
