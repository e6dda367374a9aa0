use Rattle.std.proofs.Common.{◌≡◌, ◌+◌}
use Rattle.dsec_nsec3_calls.proofs.missing.spend.Given as goal

abbrev pub invariant-loop : goal.invariant-loop
invariant-loop g l = l.steps ≡ l.fn.steps + l.counter
