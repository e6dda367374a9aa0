-- Being at or below a name is an order on names, and can be tested; two names above one name are comparable.
use Rattle.std.proofs.Common.{◌≡◌, ℕ, List, [], ◌∷◌, ◌++◌, refl, sym, ap, ◌∙◌, subst, inl, inr, ◌⊎◌, arith, append_assoc, length, length-append, true, false}
use Rattle.std.specs.Str.{bytes_eq}
use Rattle.std.proofs.lemmas.List.{append-nil}
use Rattle.std.proofs.lemmas.Bool.{false≢true}
use Rattle.std.proofs.lemmas.Slice.Eq.{bytes_eq-Decides}
use Rattle.dsec_spec.specs.Names.{Place, IsAtOrBelow, IsStrictlyBelow}

pub below_itself : (n : Place) → IsAtOrBelow n n
below_itself n = record { under = []; is = sym (append-nil n) }

-- each name is at or below the root
pub below_root : (n : Place) → IsAtOrBelow n []
below_root n = record { under = n; is = refl }

pub below_trans : (a b c : Place) → IsAtOrBelow a b → IsAtOrBelow b c → IsAtOrBelow a c
below_trans a b c h g =
    record { under = g.under ++ h.under; is = h.is ∙ (ap (λ (x : Place). x ++ h.under) g.is ∙ append_assoc c g.under h.under) }

pub at_or_below : (n z : Place) → IsStrictlyBelow n z → IsAtOrBelow n z
at_or_below n z h = record { under = h.next ∷ h.under; is = h.is }

-- two labels are the same or not
pub labels_same : (k l : List ℕ) → (k ≡ l) ⊎ (k ≡ l → ⊥)
labels_same k l =
    elim (bytes_eq k l) as (λ b. bytes_eq k l ≡ b → (k ≡ l) ⊎ (k ≡ l → ⊥)) [
      | true ↦ λ e. inl ((bytes_eq-Decides k l).0 e)
      | false ↦ λ e. inr (λ same. false≢true (sym e ∙ (bytes_eq-Decides k l).1 same))
    ] refl

below_push : (k : List ℕ) (n z : Place) → IsAtOrBelow n z → IsAtOrBelow (k ∷ n) (k ∷ z)
below_push k n z h = record { under = h.under; is = ap (λ (x : Place). k ∷ x) h.is }

-- a name is at or below another, or it isn't
pub below_or_not : (n z : Place) → IsAtOrBelow n z ⊎ (IsAtOrBelow n z → ⊥)
below_or_not n [] = inl (below_root n)
below_or_not [] (l ∷ z) = inr (λ h. let e = h.is in cc)
below_or_not (k ∷ n) (l ∷ z) =
    elim (labels_same k l) [
      | inl e ↦ elim (below_or_not n z) [
        | inl h ↦ inl (subst (λ (x : List ℕ). IsAtOrBelow (k ∷ n) (x ∷ z)) e (below_push k n z h))
        | inr f ↦ inr (λ h. f (record { under = h.under; is = let q = h.is in cc }))
      ]
      | inr f ↦ inr (λ h. f (let q = h.is in cc))
    ]

-- at or below is the same, or strictly below
pub same_or_below : (n z : Place) → IsAtOrBelow n z → (n ≡ z) ⊎ IsStrictlyBelow n z
same_or_below n z h =
    elim (h.under) as (λ u. h.under ≡ u → (n ≡ z) ⊎ IsStrictlyBelow n z) [
      | [] ↦ λ e. inl (h.is ∙ (ap (λ (x : Place). z ++ x) e ∙ append-nil z))
      | k ∷ u ↦ λ e. inr (record { next = k; under = u; is = h.is ∙ ap (λ (x : Place). z ++ x) e })
    ] refl

pub not_strictly_itself : (n : Place) → IsStrictlyBelow n n → ⊥
not_strictly_itself n h = let e = ap length h.is in absurd (omega (arith, length-append n (h.next ∷ h.under)))

-- two names aren't each below the other
pub not_both_below : (a b : Place) → IsStrictlyBelow a b → IsAtOrBelow b a → ⊥
not_both_below a b h g =
    let e = ap length h.is in let f = ap length g.is in
    absurd (omega (arith, length-append b (h.next ∷ h.under), length-append a g.under))

pub below_antisymm : (a b : Place) → IsAtOrBelow a b → IsAtOrBelow b a → a ≡ b
below_antisymm a b h g =
    elim (same_or_below a b h) [
      | inl e ↦ e
      | inr s ↦ absurd (not_both_below a b s g)
    ]

pub strictly_below_trans : (a b c : Place) → IsStrictlyBelow a b → IsAtOrBelow b c → IsStrictlyBelow a c
strictly_below_trans a b c h g =
    elim (same_or_below a c (below_trans a b c (at_or_below a b h) g)) [
      | inl e ↦ absurd (not_both_below a b h (subst (λ (x : Place). IsAtOrBelow b x) (sym e) g))
      | inr s ↦ s
    ]

-- of two names that a name is at or below, one is at or below the other
pub ancestors_comparable : (n a b : Place) → IsAtOrBelow n a → IsAtOrBelow n b → IsAtOrBelow a b ⊎ IsStrictlyBelow b a
ancestors_comparable n a [] h g = inl (below_root a)
ancestors_comparable n [] (l ∷ b) h g = inr (record { next = l; under = b; is = refl })
ancestors_comparable n (k ∷ a) (l ∷ b) h g =
    let e : k ∷ (a ++ h.under) ≡ l ∷ (b ++ g.under) = sym h.is ∙ g.is in
    let kl : k ≡ l = cc in
    let rest : a ++ h.under ≡ b ++ g.under = cc in
    elim (ancestors_comparable (a ++ h.under) a b (record { under = h.under; is = refl }) (record { under = g.under; is = rest })) [
      | inl u ↦ inl (subst (λ (x : List ℕ). IsAtOrBelow (k ∷ a) (x ∷ b)) kl (below_push k a b u))
      | inr s ↦ inr (record { next = s.next; under = s.under; is = let q = s.is in cc })
    ]
