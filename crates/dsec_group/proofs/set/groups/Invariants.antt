use Rattle.std.proofs.Common.{◌≡◌}
use Rattle.dsec_spec.specs.Groups.{groups_of}
use Rattle.dsec_group.proofs.set.groups.Given as goal

abbrev pub invariant-loop-next : goal.invariant-loop-next
invariant-loop-next l = (l.groups.groups ≡ groups_of l.yielded) × (l.groups.seed ≡ l.fn.seed)
