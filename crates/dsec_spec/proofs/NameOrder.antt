-- The canonical order is total and agrees with equality; the names at or below a name stand together in it (RFC 4034 6.1).
use Rattle.std.proofs.Common.{◌≡◌, ◌↔◌, List, [], ◌∷◌, ◌++◌, refl, sym, ap, ◌∙◌, subst, inl, inr, ◌⊎◌}
use Rattle.std.specs.Ordering.{ordering_then, ordering_reverse}
use Rattle.std.specs.Cmp.{IsTotalOrder, on_total}
use Rattle.std.specs.Cmp.Lexicographic.{slice_cmp}
use Rattle.std.specs.FinMap.{IsAntisymmetric, nat_cmp-IsAntisymmetric, slice_cmp-IsAntisymmetric}
use Rattle.std.specs.declared.cmp.Ordering.{Ordering}
use Rattle.std.specs.declared.cmp.Ordering.TheVariants.{Less, Equal, Greater}
use Rattle.std.proofs.lemmas.Cmp.{lists_total, nat_list_cmp_total, tied_itself}
use Rattle.dsec_spec.specs.Names.{Labels, Place, place, place_cmp, name_cmp, Before, IsAtOrBelow}

-- the canonical order is total
pub place_cmp_total : IsTotalOrder place_cmp
place_cmp_total = lists_total nat_list_cmp_total

-- and so it is on names
pub name_cmp_total : IsTotalOrder name_cmp
name_cmp_total = on_total place place_cmp_total

-- only one place is neither before nor after a place: itself
pub place_cmp_same : (m n : Place) → place_cmp m n ≡ Equal → m ≡ n
place_cmp_same = slice_cmp-IsAntisymmetric (slice_cmp-IsAntisymmetric nat_cmp-IsAntisymmetric)

-- the order agrees with equality of names
pub name_cmp_agrees : (m n : Labels) → (name_cmp m n ≡ Equal) ↔ (place m ≡ place n)
name_cmp_agrees m n =
    (place_cmp_same (place m) (place n), λ e. subst (λ (p : Place). place_cmp (place m) p ≡ Equal) e (tied_itself place_cmp_total (place m)))

pub before_trans : (a b c : Place) → Before a b → Before b c → Before a c
before_trans a b c = place_cmp_total.trans a b c

-- no name is before itself
pub not_before_itself : (a : Place) → Before a a → ⊥
not_before_itself a h = let e : Less ≡ Equal = sym h ∙ tied_itself place_cmp_total a in cc

-- of two names one is before the other, or they are equal
pub in_order : (a b : Place) → Before a b ⊎ ((a ≡ b) ⊎ Before b a)
in_order a b =
    elim (place_cmp a b) as (λ o. place_cmp a b ≡ o → Before a b ⊎ ((a ≡ b) ⊎ Before b a)) [
      | Less ↦ λ e. inl e
      | Equal ↦ λ e. inr (inl (place_cmp_same a b e))
      | Greater ↦ λ e. inr (inr (place_cmp_total.antisymm b a ∙ ap ordering_reverse e))
    ] refl

module _ {K : Type 0} {R : K → K → Ordering} where
  -- a list that doesn't begin with p and is before a list that does is before each that does
  outside_before : IsAntisymmetric R → (p n m x : List K) → ((r : List K) → x ≡ p ++ r → ⊥) → slice_cmp R x (p ++ n) ≡ Less → slice_cmp R x (p ++ m) ≡ Less
  outside_before same [] n m x out h = absurd (out x refl)
  outside_before same (l ∷ p) n m [] out h = refl
  outside_before same (l ∷ p) n m (k ∷ x) out h =
      elim (R k l) as (λ o. R k l ≡ o → ordering_then o (slice_cmp R x (p ++ n)) ≡ Less → ordering_then o (slice_cmp R x (p ++ m)) ≡ Less) [
        | Less ↦ λ e g. refl
        | Equal ↦ λ e g. outside_before same p n m x (λ r q. let kl = same k l e in out r cc) g
        | Greater ↦ λ e g. g
      ] refl h

  -- the same for one that is after
  outside_after : IsAntisymmetric R → (p n m x : List K) → ((r : List K) → x ≡ p ++ r → ⊥) → slice_cmp R (p ++ n) x ≡ Less → slice_cmp R (p ++ m) x ≡ Less
  outside_after same [] n m x out h = absurd (out x refl)
  outside_after same (l ∷ p) n m [] out h = cc
  outside_after same (l ∷ p) n m (k ∷ x) out h =
      elim (R l k) as (λ o. R l k ≡ o → ordering_then o (slice_cmp R (p ++ n) x) ≡ Less → ordering_then o (slice_cmp R (p ++ m) x) ≡ Less) [
        | Less ↦ λ e g. refl
        | Equal ↦ λ e g. outside_after same p n m x (λ r q. let kl = same l k e in out r cc) g
        | Greater ↦ λ e g. g
      ] refl h

  -- no list is before what it begins with
  prefix_not_after : IsTotalOrder R → (p r : List K) → slice_cmp R (p ++ r) p ≡ Less → ⊥
  prefix_not_after o [] [] h = cc
  prefix_not_after o [] (x ∷ r) h = cc
  prefix_not_after o (l ∷ p) r h = prefix_not_after o p r (rw (tied_itself o l) at h)

-- a name is never before a name that it is at or below
pub below_not_before : (m n : Place) → IsAtOrBelow m n → Before m n → ⊥
below_not_before m n below h = prefix_not_after nat_list_cmp_total n below.under (subst (λ a. Before a n) below.is h)

-- a name outside z that is before one name at or below z is before all of them
pub before_all_below : (z n m x : Place) → IsAtOrBelow n z → IsAtOrBelow m z → (IsAtOrBelow x z → ⊥) → Before x n → Before x m
before_all_below z n m x n_below m_below outside h =
    rw m_below.is (outside_before (slice_cmp-IsAntisymmetric nat_cmp-IsAntisymmetric) z n_below.under m_below.under x (λ r e. outside (record { under = r; is = e })) (rw n_below.is at h))

-- a name outside z that is after one name at or below z is after all of them
pub after_all_below : (z n m x : Place) → IsAtOrBelow n z → IsAtOrBelow m z → (IsAtOrBelow x z → ⊥) → Before n x → Before m x
after_all_below z n m x n_below m_below outside h =
    rw m_below.is (outside_after (slice_cmp-IsAntisymmetric nat_cmp-IsAntisymmetric) z n_below.under m_below.under x (λ r e. outside (record { under = r; is = e })) (rw n_below.is at h))
