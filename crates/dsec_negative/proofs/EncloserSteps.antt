-- The longest name above a name that another is, or is under, label by label.
use Rattle.std.proofs.Common.{◌≡◌, ℕ, ◌-◌, ◌<◌, ◌≤◌, true, false, length, take, sym, ap, ◌∙◌, subst, inl, inr, ◌⊎◌, arith}
use Rattle.std.proofs.lemmas.Bool.{true≢false, cases_lt}
use Rattle.dsec_spec.specs.Names.{Labels, Place, place, is_below, IsAtOrBelow}
use Rattle.dsec_spec.specs.SignedBytes.{rightmost}
use Rattle.dsec_spec.proofs.NamesBelow.{below_root}
use Rattle.dsec_spec.proofs.SignedTests.{below_decides}
use Rattle.dsec_absence.specs.Tests.{common, longer}
use Rattle.dsec_absence.proofs.EncloserLaws.{longest_seen}
use Rattle.dsec_spec.proofs.PlaceLemmas.{front_of_place}

-- one of two names is at or below so many labels of a name next to the root
abbrev pub IsSeen : Place → Place → Place → ℕ → Type 0
IsSeen n o x k = IsAtOrBelow o (take k n) ⊎ IsAtOrBelow x (take k n)

module _ (target owner next : Labels) (k : ℕ) where
  at_name : (name : Labels) → name ≡ rightmost k target → place name ≡ take k (place target)
  at_name name is = ap place is ∙ front_of_place k target

  -- the first of the two is seen
  pub seen_first : (name : Labels) → name ≡ rightmost k target → is_below (place owner) (place name) ≡ true → IsSeen (place target) (place owner) (place next) k
  seen_first name is told = inl (subst (λ (p : Place). IsAtOrBelow (place owner) p) (at_name name is) ((below_decides (place owner) (place name)).0 told))

  -- the second is
  pub seen_second : (name : Labels) → name ≡ rightmost k target → is_below (place next) (place name) ≡ true → IsSeen (place target) (place owner) (place next) k
  seen_second name is told = inr (subst (λ (p : Place). IsAtOrBelow (place next) p) (at_name name is) ((below_decides (place next) (place name)).0 told))

  -- neither is
  not_seen : (name : Labels) → name ≡ rightmost k target → is_below (place owner) (place name) ≡ false → is_below (place next) (place name) ≡ false → IsSeen (place target) (place owner) (place next) k → ⊥
  not_seen name is no_owner no_next (inl h) = true≢false (sym ((below_decides (place owner) (place name)).1 (subst (λ (p : Place). IsAtOrBelow (place owner) p) (sym (at_name name is)) h)) ∙ no_owner)
  not_seen name is no_owner no_next (inr h) = true≢false (sym ((below_decides (place next) (place name)).1 (subst (λ (p : Place). IsAtOrBelow (place next) p) (sym (at_name name is)) h)) ∙ no_next)

  -- what isn't seen above so many labels, nor at so many, isn't above one less
  pub none_from : (name : Labels) → name ≡ rightmost k target → is_below (place owner) (place name) ≡ false → is_below (place next) (place name) ≡ false
      → ((j : ℕ) → k < j → j ≤ length (place target) → IsSeen (place target) (place owner) (place next) j → ⊥)
      → (j : ℕ) → k - 1 < j → j ≤ length (place target) → IsSeen (place target) (place owner) (place next) j → ⊥
  none_from name is no_owner no_next above j lt le seen = elim (cases_lt k j) [
    | inl more ↦ above j more le seen
    | inr less ↦ let same : j ≡ k = omega (arith, lt, less) in
        not_seen name is no_owner no_next (subst (λ (i : ℕ). IsSeen (place target) (place owner) (place next) i) same seen)
  ]

  -- the longest that is seen
  pub longest_is : k ≤ length (place target) → IsSeen (place target) (place owner) (place next) k
      → ((j : ℕ) → k < j → j ≤ length (place target) → IsSeen (place target) (place owner) (place next) j → ⊥)
      → place (rightmost k target) ≡ longer (common (place target) (place owner)) (common (place target) (place next))
  longest_is le seen above = front_of_place k target ∙ longest_seen (place target) (place owner) (place next) k le seen above

-- the root is always seen
pub root_seen : (n o x : Place) → IsSeen n o x 0
root_seen n o x = inl (below_root o)
