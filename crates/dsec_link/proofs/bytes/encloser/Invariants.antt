use Rattle.std.proofs.Common.{◌≡◌, drop}
use Rattle.dsec_link.proofs.bytes.encloser.Given as goal

abbrev pub invariant-loop : goal.invariant-loop
invariant-loop l = l.name ≡ drop l.counter l.owner
