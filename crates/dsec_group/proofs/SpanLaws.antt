-- The least and the greatest of TTLs.
use Rattle.std.proofs.Common.{◌≡◌, ℕ, List, [], ◌∷◌, refl, sym, ap, ◌∙◌, length, arith}
use Rattle.std.specs.Prelude.{min, max}
use Rattle.dsec_spec.specs.Lasting.{least_ttl, greatest_ttl}
use Rattle.dsec_spec.specs.Records.{Record}
use Rattle.dsec_group.specs.Spans.{least_from}

least_apart : (a b : ℕ) (rs : List Record) → least_from (min a b) rs ≡ min a (least_from b rs)
unfolding least_from
least_apart a b [] = refl
least_apart a b (r ∷ rs) =
    let same : min (min a b) r.ttl ≡ min a (min b r.ttl) = grind arith in
    ap (λ (n : ℕ). least_from n rs) same ∙ least_apart a (min b r.ttl) rs

-- the least of records is that of the first and the others
pub least_is : (r : Record) (rs : List Record) → least_ttl (r ∷ rs) ≡ least_from r.ttl rs
unfolding least_from least_ttl
least_is r [] = refl
least_is r (s ∷ rs) = ap (min r.ttl) (least_is s rs) ∙ sym (least_apart r.ttl s.ttl rs)

-- one more record on the way to the greatest
pub greatest_step : (seconds next : ℕ) (r : Record) (rs : List Record) → next ≡ max seconds r.ttl → max next (greatest_ttl rs) ≡ max seconds (greatest_ttl (r ∷ rs))
unfolding greatest_ttl
greatest_step seconds next r rs e = let m = greatest_ttl rs in grind (arith, e)

pub greatest_none : (seconds : ℕ) → max seconds (greatest_ttl []) ≡ seconds
unfolding greatest_ttl
greatest_none seconds = grind arith

pub least_none : (rs : List Record) → length rs ≡ 0 → 0 ≡ least_ttl rs
unfolding least_ttl
least_none [] h = refl
least_none (r ∷ rs) h = absurd (omega (arith, h))
