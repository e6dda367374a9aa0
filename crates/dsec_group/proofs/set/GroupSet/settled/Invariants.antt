use Rattle.std.proofs.Common.{◌≡◌, take}
use Rattle.dsec_spec.specs.Redirection.{staying_from}
use Rattle.dsec_group.proofs.set.GroupSet.settled.Given as goal

abbrev pub invariant-loop-index : goal.invariant-loop-index
invariant-loop-index l = (l.settled.groups ≡ staying_from l.anchors l.groups 0 (take l.index l.groups)) × (l.settled.seed ≡ l.self.seed)
