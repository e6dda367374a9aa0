-- Records at places of a slice.
use Rattle.std.proofs.Common.{◌≡◌, ℕ, zero, suc, ◌<◌, Bool, ◌||◌, List, [], ◌∷◌, length, get_or, Option, Some, None, refl, ap, ◌∙◌, subst, arith}
use Rattle.std.specs.Prelude.{IfSome, slice_get}
use Rattle.std.specs.Borrow.{Bor}
use Rattle.std.specs.List.{list_any}
use Rattle.std.proofs.lemmas.List.Elements.{All-head, All-tail}
use Rattle.dsec_spec.specs.Records.{Record}
use Rattle.dsec_sorted.specs.Sets.{AreWithin, and_then, passes_in, records_at}

-- a test passes at one of the records at places where it passes at one of the places
pub any_at : (test : Record → Bool) (records : List Record) (places : List ℕ) → list_any (λ k. passes_in test (slice_get records k)) places ≡ list_any test (records_at records places)
any_at test records [] = refl
any_at test records (k ∷ places) = ap (λ (b : Bool). passes_in test (slice_get records k) || b) (any_at test records places) ∙ by (slice_get records k)
  where
    by : (o : Option Record) → (passes_in test o || list_any test (records_at records places)) ≡ list_any test (and_then o (records_at records places))
    by (Some r) = refl
    by None = refl

found_at : (records : List Record) (k : ℕ) (d : Record) → k < length records → slice_get records k ≡ Some (get_or records k d)
found_at [] k d lt = absurd (omega arith)
found_at (r ∷ records) zero d lt = refl
found_at (r ∷ records) (suc k) d lt = found_at records k d (omega arith)

-- the first of the records at places
pub first_at : (records : List Record) (k : ℕ) (others places : List ℕ) (d : Record) → places ≡ k ∷ others → k < length records → records_at records places ≡ get_or records k d ∷ records_at records others
first_at records k others places d is lt = ap (records_at records) is ∙ ap (λ (o : Option Record). and_then o (records_at records others)) (found_at records k d lt)

pub within_here : (records : List Record) (o : Option (Bor (List ℕ))) (p : Bor (List ℕ)) → o ≡ Some p → IfSome o (λ q. AreWithin records q.now) → AreWithin records p.now
within_here records o p e h = subst (λ (x : Option (Bor (List ℕ))). IfSome x (λ q. AreWithin records q.now)) e h

pub within_first : (records : List Record) (k : ℕ) (others places : List ℕ) → places ≡ k ∷ others → AreWithin records places → k < length records
within_first records k others places e h = All-head (λ (j : ℕ). j < length records) k others (subst (λ (xs : List ℕ). AreWithin records xs) e h)

pub within_rest : (records : List Record) (k : ℕ) (others places : List ℕ) → places ≡ k ∷ others → AreWithin records places → AreWithin records others
within_rest records k others places e h = All-tail (λ (j : ℕ). j < length records) k others (subst (λ (xs : List ℕ). AreWithin records xs) e h)
