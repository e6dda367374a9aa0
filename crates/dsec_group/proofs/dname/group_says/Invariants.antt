use Rattle.std.proofs.Common.{◌≡◌, drop}
use Rattle.dsec_spec.specs.Redirection.{said_by}
use Rattle.dsec_group.proofs.dname.group_says.Given as goal

abbrev pub invariant-loop-dname : goal.invariant-loop-dname
invariant-loop-dname l = said_by l.cname (drop l.dname-index l.records) ≡ said_by l.cname l.records
