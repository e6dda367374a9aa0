use Rattle.std.proofs.Common.{◌≡◌, take, map}
use Rattle.dsec_spec.specs.Redirection.{followed}
use Rattle.dsec_group.proofs.settle.all_followed.Given as goal

abbrev pub invariant-loop-group : goal.invariant-loop-group
invariant-loop-group l = l.all.items ≡ map (followed l.anchors l.groups) (take l.group-index l.groups)
