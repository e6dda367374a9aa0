-- TTLs compared one after the other.
use Rattle.std.specs.Prelude.{ℕ, min, List, [], ◌∷◌}
use Rattle.dsec_spec.specs.Records.{Record}

-- the least of a number of seconds and the TTLs of records
unfoldable pub least_from : ℕ → List Record → ℕ
least_from least [] = least
least_from least (r ∷ rs) = least_from (min least r.ttl) rs
