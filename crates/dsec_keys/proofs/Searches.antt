-- Where the next of some numbers stands, by their sorted entries.
use Rattle.std.proofs.Common.{◌≡◌, ℕ, ◌/◌, ◌%◌, ◌^◌, ◌<◌, ◌≤◌, ◌==◌, nat_lt, Bool, true, false, List, length, get_or, Some, None, refl, sym, ap, subst, ◌∙◌, arith}
use Rattle.std.specs.Prelude.{slice_get}
use Rattle.std.specs.List.{AllWithin}
use Rattle.std.specs.List.Sorted.{IsNonDecreasing, IsPartitionPoint}
use Rattle.std.proofs.lemmas.Bool.{ltb-true, ltb-false, eqb-true, eqb-false}
use Rattle.std.proofs.lemmas.Nat.{div-mul-add}
use Rattle.std.proofs.lemmas.Option.{get_or_from_slice_get, slice_get_within}
use Rattle.dsec_keys.specs.Indexes.{IsEntry, IsIndexOf, IsNextBy, entry_of, is_code}

-- numbers that differ
unlike : (code other : ℕ) → (other ≡ code → ⊥) → is_code code other ≡ false
unlike code other h = go (code == other) refl where
  go : (b : Bool) → (code == other) ≡ b → (code == other) ≡ false
  go true e = absurd (h (sym (eqb-true code other e)))
  go false e = e

alike : (code other : ℕ) → other ≡ code → is_code code other ≡ true
alike code other h = go (code == other) refl where
  go : (b : Bool) → (code == other) ≡ b → (code == other) ≡ true
  go true e = e
  go false e = absurd (eqb-false code other e (sym h))

remainder : (c i e : ℕ) → i < 2 ^ 64 → e ≡ entry_of c i → e % 2 ^ 64 ≡ i
remainder c i e small is = omega (arith, small, is)

module _ (codes entries : List ℕ) (index : IsIndexOf codes entries) (code from at : ℕ)
    (before : AllWithin (λ e. nat_lt e (entry_of code from) ≡ true) entries 0 at)
    (after : AllWithin (λ e. nat_lt e (entry_of code from) ≡ false) entries at (length entries)) where
  -- each that is looked for has an entry there or behind
  later : (i c : ℕ) → from ≤ i → slice_get codes i ≡ Some c → c ≡ code → (k : ℕ) × (at ≤ k) × (k < length entries) × (get_or entries k (entry_of c i) ≡ entry_of c i)
  later i c past there same =
      let has = index.all i c there in
      go (nat_lt has.0 at) has.0 refl has.1 has.2
    where
      go : (b : Bool) (k : ℕ) → nat_lt k at ≡ b → k < length entries → get_or entries k (entry_of c i) ≡ entry_of c i
          → (j : ℕ) × (at ≤ j) × (j < length entries) × (get_or entries j (entry_of c i) ≡ entry_of c i)
      go true k e below is =
          let less = ltb-true _ _ (before k (entry_of c i) (omega arith) (ltb-true k at e)) in
          absurd (omega (arith, less, is, past, same))
      go false k e below is = (k, ltb-false k at e, below, is)

  pub none_left : length entries ≤ at → IsNextBy (is_code code) from codes None
  none_left past i c on below there = unlike code c (λ same. let l = later i c on there same in omega (arith, l.1, l.2, past))

  module _ (e : ℕ) (found : slice_get entries at ≡ Some e) where
    inside : at < length entries
    inside = slice_get_within entries at e found

    here : IsEntry codes e
    here = subst (IsEntry codes) (get_or_from_slice_get entries at e e found) (index.each at e inside)

    least : entry_of code from ≤ e
    least = let h = ltb-false _ _ (after at e (omega arith) inside) in let g = get_or_from_slice_get entries at e e found in omega (arith, h, g)

    -- no entry behind is less
    risen : (k d : ℕ) → at ≤ k → k < length entries → e ≤ get_or entries k d
    risen k d on below = let r = index.rises at k d on below in let g = get_or_from_slice_get entries at e d found in omega (arith, r, g)

    module _ (small : from < 2 ^ 64) where
      pub is_next : e / 2 ^ 64 ≡ entry_of code from / 2 ^ 64 → IsNextBy (is_code code) from codes (Some (e % 2 ^ 64))
      is_next same =
          let it = here in
          let mine : e / 2 ^ 64 ≡ it.1 = ap (λ n. n / 2 ^ 64) it.4 ∙ div-mul-add it.1 (2 ^ 64) it.0 it.3 in
          let one : it.1 ≡ code = sym mine ∙ same ∙ div-mul-add code (2 ^ 64) from small in
          let far = least in
          subst (λ i. IsNextBy (is_code code) from codes (Some i)) (sym (remainder it.1 it.0 e it.3 it.4)) (
            omega (arith, it.4, one, far),
            (it.1, it.2, alike code it.1 one),
            λ i c on below there. unlike code c (λ other. let l = later i c on there other in let r = risen l.0 (entry_of c i) l.1 l.2 in omega (arith, l.3, r, it.4, one, other, below)),
          )

      pub no_next : (e / 2 ^ 64 ≡ entry_of code from / 2 ^ 64 → ⊥) → IsNextBy (is_code code) from codes None
      no_next differs i c on below there = unlike code c (λ same.
          let it = here in
          let mine : e / 2 ^ 64 ≡ it.1 = ap (λ n. n / 2 ^ 64) it.4 ∙ div-mul-add it.1 (2 ^ 64) it.0 it.3 in
          let other : it.1 ≡ code → ⊥ = λ one. differs (mine ∙ one ∙ sym (div-mul-add code (2 ^ 64) from small)) in
          let l = later i c on there same in
          let r = risen l.0 (entry_of c i) l.1 l.2 in
          let far = least in
          let few = index.few in
          absurd (other (omega (arith, it.4, it.3, same, l.3, r, far, few, below)))
          )

-- where entries split at a least one, which is that of a number at an index
pub split_at : (codes entries slice : List ℕ) → IsIndexOf codes entries → slice ≡ entries → (least entry at : ℕ) → least ≡ entry
    → (IsNonDecreasing slice → IsPartitionPoint (λ e. nat_lt e least ≡ true) (λ e. nat_lt e least ≡ false) slice at)
    → IsPartitionPoint (λ e. nat_lt e entry ≡ true) (λ e. nat_lt e entry ≡ false) entries at
split_at codes entries slice index same from entry at one split =
    subst (λ es. IsPartitionPoint (λ e. nat_lt e entry ≡ true) (λ e. nat_lt e entry ≡ false) es at) same
    (subst (λ n. IsPartitionPoint (λ e. nat_lt e n ≡ true) (λ e. nat_lt e n ≡ false) slice at) one (split (subst IsNonDecreasing (sym same) index.rises)))
