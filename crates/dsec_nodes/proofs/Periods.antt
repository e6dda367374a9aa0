-- How long a signature counts.
use Rattle.std.proofs.Common.{ℕ, ◌+◌, ◌≤◌, arith}
use Rattle.dsec_spec.specs.Period.{InPeriod, seconds_after}
use Rattle.dsec_nodes.specs.World.{on_circle}

-- from a moment in its period on, a signature counts until the period ends
pub lasts : (inception expiration now s : ℕ) → InPeriod inception expiration (on_circle now) → now ≤ s
    → s ≤ now + seconds_after (on_circle now) expiration
    → InPeriod inception expiration (on_circle s)
lasts inception expiration now s p from to = record {
  ordered = p.ordered;
  within = omega (arith, p.ordered, p.within, from, to);
}
