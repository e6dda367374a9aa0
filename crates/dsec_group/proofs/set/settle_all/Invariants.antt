use Rattle.std.proofs.Common.{◌≡◌}
use Rattle.dsec_group.proofs.set.settle_all.Given as goal

abbrev pub invariant-loop-index : goal.invariant-loop-index
invariant-loop-index l = l.groups ≡ l.fn.groups
