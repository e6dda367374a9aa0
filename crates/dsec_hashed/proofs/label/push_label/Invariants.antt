use Rattle.std.proofs.Common.{length}
use Rattle.dsec_hashed.proofs.LabelLaws.{HasWritten}
use Rattle.dsec_hashed.proofs.label.push_label.Given as goal

abbrev pub invariant-loop-rest : goal.invariant-loop-rest
invariant-loop-rest l = HasWritten l.fn.out.items l.out.items l.hash l.rest

abbrev pub decreases-loop-rest : goal.decreases-loop-rest
decreases-loop-rest l = length l.rest
