-- The new names above a name: those below the apex that the owner before isn't at or below.
use Rattle.std.proofs.Common.{◌≡◌, ℕ, ◌+◌, Bool, true, false, cond, List, [], ◌∷◌, ◌++◌, length, get_or, map, refl, sym, ap, ◌∙◌, subst, inl, inr, arith, append_assoc, length-append}
use Rattle.std.specs.Prelude.{AllPairs, Contains}
use Rattle.std.proofs.Math.Bool.{not}
use Rattle.std.specs.Char.{to_ascii_lowercase}
use Rattle.std.proofs.lemmas.Bool.{true≢false}
use Rattle.std.proofs.lemmas.List.{reverse-append}
use Rattle.std.proofs.lemmas.List.Elements.{Contains-get_or}
use Rattle.std.proofs.lemmas.List.Kept.{AllPairs-cons}
use Rattle.dsec_spec.specs.Names.{Labels, Place, lower, place, is_below, is_strictly_below, IsAtOrBelow, IsStrictlyBelow}
use Rattle.dsec_spec.proofs.SignedTests.{below_decides, strictly_below_decides}
use Rattle.dsec_spec.proofs.NamesBelow.{below_trans, at_or_below, same_or_below, not_strictly_itself, not_both_below, ancestors_comparable, strictly_below_trans}
use Rattle.dsec_spec.proofs.Members.{first_in, later_in, in_more, not_in_none}
use Rattle.dsec_spec.proofs.Choosing.{both}
use Rattle.dsec_hashed.specs.HashedList.{is_new, new_above}

-- ---- a name is new

module _ (apex before : Place) where
  pub new_says : (n : Place) → is_new apex before n ≡ true → IsStrictlyBelow n apex × (IsAtOrBelow before n → ⊥)
  new_says n h =
      let b = both (is_strictly_below n apex) (not (is_below before n)) h in
      ((strictly_below_decides n apex).0 b.0, λ below. by (is_below before n) ((below_decides before n).1 below) b.1)
    where
      by : (b : Bool) → b ≡ true → not b ≡ true → ⊥
      by true e f = true≢false (sym f)
      by false e f = true≢false (sym e)

  pub says_new : (n : Place) → IsStrictlyBelow n apex → (IsAtOrBelow before n → ⊥) → is_new apex before n ≡ true
  says_new n below out = rw ((strictly_below_decides n apex).1 below) (by (is_below before n) refl)
    where
      by : (b : Bool) → is_below before n ≡ b → not b ≡ true
      by true e = absurd (out ((below_decides before n).0 e))
      by false e = refl

-- a name without its first label stands above it
pub above_first : (label : List ℕ) (name : Labels) → IsStrictlyBelow (place (label ∷ name)) (place name)
above_first label name = record { next = map to_ascii_lowercase label; under = []; is = reverse-append (map to_ascii_lowercase label ∷ []) (lower name) }

at_strictly : (a b c : Place) → IsAtOrBelow a b → IsStrictlyBelow b c → IsStrictlyBelow a c
at_strictly a b c h g = record { next = g.next; under = g.under ++ h.under; is = h.is ∙ (ap (λ (x : Place). x ++ h.under) g.is ∙ append_assoc c (g.next ∷ g.under) h.under) }

one_longer : (label : List ℕ) (name : Labels) → length (place (label ∷ name)) ≡ length (place name) + 1
one_longer label name = ap length (reverse-append (map to_ascii_lowercase label ∷ []) (lower name)) ∙ length-append (place name) (map to_ascii_lowercase label ∷ [])

-- what stands strictly above it is this, or above this
pub above_shorter : (label : List ℕ) (name : Labels) (n : Place) → IsStrictlyBelow (place (label ∷ name)) n → IsAtOrBelow (place name) n
above_shorter label name n h =
    let one = above_first label name in
    elim (ancestors_comparable (place (label ∷ name)) (place name) n (at_or_below (place (label ∷ name)) (place name) one) (at_or_below (place (label ∷ name)) n h)) [
      | inl good ↦ good
      | inr bad ↦ absurd (
          let e1 = ap length h.is in let e2 = ap length bad.is in
          omega (arith, one_longer label name, length-append n (h.next ∷ h.under), length-append (place name) (bad.next ∷ bad.under))
          )
    ]

module _ (apex before : Place) where
  -- names above a new name aren't nearer
  near_new : (m n : Place) → IsAtOrBelow m n → is_new apex before n ≡ true → is_new apex before m ≡ true
  near_new m n below h =
      let s = new_says apex before n h in
      says_new apex before m (at_strictly m n apex below s.0) (λ b. s.1 (below_trans before m n b below))

  -- the new names stand above the name
  pub new_are : (name m : Labels) → Contains (new_above apex before name) m → (is_new apex before (place m) ≡ true) × IsStrictlyBelow (place name) (place m)
  unfolding new_above
  new_are [] m h = absurd (not_in_none m h)
  new_are (label ∷ name) m h = by (new_are name m) (is_new apex before (place name)) refl h
    where
      by : (Contains (new_above apex before name) m → (is_new apex before (place m) ≡ true) × IsStrictlyBelow (place name) (place m)) → (b : Bool) → is_new apex before (place name) ≡ b
          → Contains (cond b (name ∷ new_above apex before name) []) m → (is_new apex before (place m) ≡ true) × IsStrictlyBelow (place (label ∷ name)) (place m)
      by others true e g = elim (in_more name m (new_above apex before name) g) [
        | inl same ↦ subst (λ (k : Labels). (is_new apex before (place k) ≡ true) × IsStrictlyBelow (place (label ∷ name)) (place k)) same (e, above_first label name)
        | inr later ↦ let o = others later in (o.0, strictly_below_trans (place (label ∷ name)) (place name) (place m) (above_first label name) (at_or_below (place name) (place m) o.1))
      ]
      by others false e g = absurd (not_in_none m g)

  -- and all of them are there
  pub new_there : (name : Labels) (n : Place) → IsStrictlyBelow (place name) n → is_new apex before n ≡ true → (m : Labels) × Contains (new_above apex before name) m × (place m ≡ n)
  unfolding new_above
  new_there [] n h new = absurd (not_both_below [] n h (record { under = n; is = refl }))
  new_there (label ∷ name) n h new =
      let up : IsAtOrBelow (place name) n = above_shorter label name n h in
      by (λ below. new_there name n below new) (is_new apex before (place name)) refl up
    where
      by : (IsStrictlyBelow (place name) n → (m : Labels) × Contains (new_above apex before name) m × (place m ≡ n)) → (b : Bool) → is_new apex before (place name) ≡ b → IsAtOrBelow (place name) n
          → (m : Labels) × Contains (cond b (name ∷ new_above apex before name) []) m × (place m ≡ n)
      by others true e up = elim (same_or_below (place name) n up) [
        | inl same ↦ (name, first_in name (new_above apex before name), same)
        | inr below ↦ let o = others below in (o.0, later_in name o.0 (new_above apex before name) o.1, o.2)
      ]
      by others false e up = absurd (true≢false (sym (near_new (place name) n up new) ∙ e))

  -- no two of them are one
  pub new_once : (name : Labels) → AllPairs (λ (m k : Labels). place m ≡ place k → ⊥) (new_above apex before name)
  unfolding new_above
  new_once [] = λ i j d lt lj. absurd (omega arith)
  new_once (label ∷ name) = by (is_new apex before (place name)) (new_once name)
    where
      by : (b : Bool) → AllPairs (λ (m k : Labels). place m ≡ place k → ⊥) (new_above apex before name) → AllPairs (λ (m k : Labels). place m ≡ place k → ⊥) (cond b (name ∷ new_above apex before name) [])
      by true others = AllPairs-cons (λ (m k : Labels). place m ≡ place k → ⊥) name (new_above apex before name)
          (λ k d lt same. not_strictly_itself (place name) (subst (λ (p : Place). IsStrictlyBelow (place name) p) (sym same) (new_are name (get_or (new_above apex before name) k d) (Contains-get_or (new_above apex before name) k d lt)).1))
          others
      by false others = λ i j d lt lj. absurd (omega arith)
