use Rattle.std.proofs.Common.{◌≡◌, take}
use Rattle.dsec_group.proofs.set.GroupSet.clone.Given as goal

abbrev pub invariant-loop-group : goal.invariant-loop-group
invariant-loop-group l = (l.copy.groups ≡ take l.group-index l.groups) × (l.copy.seed ≡ l.self.seed)
