use Rattle.std.proofs.Common.{length}
use Rattle.dsec_name.proofs.NamePrefix.{NameBegins}
use Rattle.dsec_name.proofs.name_ref.labels_size.Given as goal

abbrev pub invariant-loop-size : goal.invariant-loop-size
invariant-loop-size l = NameBegins l.octets l.rest

abbrev pub decreases-loop-size : goal.decreases-loop-size
decreases-loop-size l = length l.rest
