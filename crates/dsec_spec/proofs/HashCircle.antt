-- Names in the order of their hashes, on a circle: no other of them is hashed between one and the next.
use Rattle.std.proofs.Common.{◌≡◌, ℕ, ◌+◌, ◌<◌, ◌≤◌, List, length, get_or, sym, ap, ◌∙◌, subst, inl, inr, arith}
use Rattle.std.specs.Prelude.{AllPairs, Contains}
use Rattle.std.specs.declared.cmp.Ordering.TheVariants.{Less, Equal}
use Rattle.std.proofs.lemmas.Bool.{cases_lt}
use Rattle.std.proofs.lemmas.Cmp.{nat_list_cmp_total, tied_itself}
use Rattle.std.proofs.lemmas.List.{get_or_default}
use Rattle.dsec_spec.specs.Names.{Place}
use Rattle.dsec_spec.specs.DenyingRecords.{HashBefore, IsBetween}

pub hash_trans : (a b c : List ℕ) → HashBefore a b → HashBefore b c → HashBefore a c
hash_trans a b c = nat_list_cmp_total.trans a b c

pub hash_not_itself : (a : List ℕ) → HashBefore a a → ⊥
hash_not_itself a h = let e : Less ≡ Equal = sym h ∙ tied_itself nat_list_cmp_total a in cc

module _ (hash : Place → List ℕ) (names : List Place) (rise : AllPairs (λ m n. HashBefore (hash m) (hash n)) names) (d : Place) where
  -- which of two comes first, their indexes say
  index_before : (i j : ℕ) → i < length names → j < length names → HashBefore (hash (get_or names i d)) (hash (get_or names j d)) → i < j
  index_before i j li lj b = elim (cases_lt i j) [
    | inl h ↦ h
    | inr h ↦ elim (cases_lt j i) [
      | inl g ↦ absurd (hash_not_itself (hash (get_or names i d)) (hash_trans (hash (get_or names i d)) (hash (get_or names j d)) (hash (get_or names i d)) b (rise j i d g li)))
      | inr g ↦ absurd (let e : i ≡ j = omega arith in hash_not_itself (hash (get_or names j d)) (subst (λ (x : ℕ). HashBefore (hash (get_or names x d)) (hash (get_or names j d))) e b))
    ]
  ]

  -- names that share a hash are one
  pub one_name : (m n : Place) → Contains names m → Contains names n → hash m ≡ hash n → m ≡ n
  one_name m n a b e =
      let at_a : get_or names a.0 d ≡ m = get_or_default names a.0 d m a.1 ∙ a.2 in
      let at_b : get_or names b.0 d ≡ n = get_or_default names b.0 d n b.1 ∙ b.2 in
      let same : hash (get_or names a.0 d) ≡ hash (get_or names b.0 d) = ap hash at_a ∙ (e ∙ sym (ap hash at_b)) in
      elim (cases_lt a.0 b.0) [
        | inl h ↦ absurd (hash_not_itself (hash (get_or names b.0 d)) (subst (λ (x : List ℕ). HashBefore x (hash (get_or names b.0 d))) same (rise a.0 b.0 d h b.1)))
        | inr h ↦ elim (cases_lt b.0 a.0) [
          | inl g ↦ absurd (hash_not_itself (hash (get_or names b.0 d)) (subst (λ (x : List ℕ). HashBefore (hash (get_or names b.0 d)) x) same (rise b.0 a.0 d g a.1)))
          | inr g ↦ let at : a.0 ≡ b.0 = omega arith in sym at_a ∙ (ap (λ (k : ℕ). get_or names k d) at ∙ at_b)
        ]
      ]

  -- no name's hash is strictly between that of one and of the next, or of the first after the last
  pub none_between : (k : ℕ) (n next m : Place) → k < length names → get_or names k d ≡ n → (k + 1 < length names → get_or names (k + 1) d ≡ next) → (length names ≤ k + 1 → get_or names 0 d ≡ next)
      → Contains names m → IsBetween (hash n) (hash next) (hash m) → ⊥
  none_between k n next m lt here follows ends has between =
      let j = has.0 in
      let mine : get_or names j d ≡ m = get_or_default names j d m has.1 ∙ has.2 in
      elim (cases_lt (k + 1) (length names)) [
        | inl more ↦
            let there = follows more in
            let b : IsBetween (hash (get_or names k d)) (hash (get_or names (k + 1) d)) (hash (get_or names j d)) = rw (here, there, mine) between in
            elim b [
              | inl h ↦
                  let low : k < j = index_before k j lt has.1 h.0 in
                  let high : j < k + 1 = index_before j (k + 1) has.1 more h.1 in
                  absurd (omega arith)
              | inr h ↦ h.0 (rise k (k + 1) d (omega arith) more)
            ]
        | inr last ↦
            let there = ends (omega arith) in
            let b : IsBetween (hash (get_or names k d)) (hash (get_or names 0 d)) (hash (get_or names j d)) = rw (here, there, mine) between in
            elim b [
              | inl h ↦ let low : k < j = index_before k j lt has.1 h.0 in let high = has.1 in absurd (omega arith)
              | inr h ↦ elim (h.1) [
                | inl g ↦ let low : k < j = index_before k j lt has.1 g in let high = has.1 in absurd (omega arith)
                | inr g ↦ let low : j < 0 = index_before j 0 has.1 (omega arith) g in absurd (omega arith)
              ]
            ]
      ]
