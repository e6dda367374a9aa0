-- Moments on a circle of 2 ^ 32 seconds (RFC 4034 3.1.5, RFC 1982 3).
use Rattle.std.specs.Prelude.{ℕ, ◌+◌, ◌-◌, ◌%◌, ◌^◌, ◌<◌, ◌≤◌, ◌&&◌, nat_lt, nat_le, Bool}

-- how many seconds the moment b comes after the moment a, of moments below 2 ^ 32
abbrev pub seconds_after : ℕ → ℕ → ℕ
seconds_after a b = (b + (2 ^ 32 - a)) % 2 ^ 32

-- the moment t is in the period from inception to expiration, which ends less than 2 ^ 31 seconds after it begins
pub record InPeriod (inception expiration t : ℕ) : Type 0 where
  pub ordered : seconds_after inception expiration < 2 ^ 31
  pub within : seconds_after inception t ≤ seconds_after inception expiration

-- whether a moment is in a period
abbrev pub in_period : ℕ → ℕ → ℕ → Bool
in_period inception expiration t =
    nat_lt (seconds_after inception expiration) (2 ^ 31) && nat_le (seconds_after inception t) (seconds_after inception expiration)
