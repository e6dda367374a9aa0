use Rattle.std.proofs.Common.{◌≡◌, drop}
use Rattle.dsec_spec.specs.Redirection.{followed_from}
use Rattle.dsec_group.proofs.dname.followed_index.Given as goal

abbrev pub invariant-loop-index : goal.invariant-loop-index
invariant-loop-index l = followed_from l.anchors l.cname l.index (drop l.index l.groups) ≡ followed_from l.anchors l.cname 0 l.groups
