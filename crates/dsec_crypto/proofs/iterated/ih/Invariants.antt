use Rattle.std.proofs.Common.{◌≡◌}
use Rattle.dsec_spec.specs.Digests.{iterated_hash}
use Rattle.dsec_crypto.proofs.iterated.ih.Given as goal

-- the hash after as many turns as were taken
abbrev pub invariant-loop : goal.invariant-loop
invariant-loop l = l.hash ≡ iterated_hash l.salt l.octets l.counter
