-- The next alias among judged groups is the next among what aliases see of them.
use Rattle.std.proofs.Common.{◌≡◌, ℕ, ◌+◌, Bool, cond, List, [], ◌∷◌, map, length, Some, None, refl, ap, ◌∙◌}
use Rattle.std.specs.Prelude.{position, nat_lt}
use Rattle.std.specs.List.{position_or_len}
use Rattle.std.proofs.Math.Bool.{not}
use Rattle.std.proofs.lemmas.List.{length-map}
use Rattle.dsec_nodes.specs.Judging.{Judged}
use Rattle.dsec_alias.specs.Candidates.{Candidate}
use Rattle.dsec_nodes.specs.Aliases.{candidate_of}

module _ {A B : Type 0} (f : A → B) (test : B → Bool) where
  same_place : (xs : List A) → position_or_len test (map f xs) ≡ position_or_len (λ x. test (f x)) xs
  same_place [] = refl
  same_place (x ∷ xs) = ap (λ (n : ℕ). cond (not (test (f x))) (1 + n) 0) (same_place xs)

  -- a test passes in a mapped list where it passes what the things are mapped to
  pub position-map : (xs : List A) → position test (map f xs) ≡ position (λ x. test (f x)) xs
  position-map xs =
      ap (λ (n : ℕ). cond (nat_lt n (length (map f xs))) (Some n) None) (same_place xs)
      ∙ ap (λ (m : ℕ). cond (nat_lt (position_or_len (λ x. test (f x)) xs) m) (Some (position_or_len (λ x. test (f x)) xs)) None) (length-map xs f)

pub next_at : (test : Candidate → Bool) (js : List Judged) → position test (map candidate_of js) ≡ position (λ (j : Judged). test (candidate_of j)) js
next_at test js = position-map candidate_of test js
