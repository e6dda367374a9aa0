-- No member of a group is lost where it takes one more.
use Rattle.std.proofs.Common.{ℕ, ◌+◌, ◌≤◌, ◌<◌, Bool, true, false, cond, List, [], ◌∷◌, ◌++◌, length, arith}
use Rattle.std.proofs.lemmas.List.{length-append}
use Rattle.dsec_spec.specs.Records.{Record}
use Rattle.dsec_group.specs.Adding.{has_data, canonical_of, with_record}

-- no record is lost
no_fewer : (r : Record) (rs : List Record) → length rs ≤ length (with_record r rs)
no_fewer r rs = go (has_data (canonical_of r) rs) rs where
  go : (b : Bool) (xs : List Record) → length xs ≤ length (cond b xs (xs ++ r ∷ []))
  go true xs = omega arith
  go false xs = omega (arith, length-append xs (r ∷ []))

pub stays_led : (m : ℕ) (r : Record) (rs : List Record) → 0 < length rs + m → 0 < length (with_record r rs) + m
stays_led m r rs h = omega (arith, h, no_fewer r rs)

pub stays_signed : (m : ℕ) (r : Record) (rs : List Record) → 0 < m + length rs → 0 < m + length (with_record r rs)
stays_signed m r rs h = omega (arith, h, no_fewer r rs)
