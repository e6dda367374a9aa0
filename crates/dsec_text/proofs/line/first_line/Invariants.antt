use Rattle.std.proofs.Common.{length}
use Rattle.dsec_text.proofs.SpanLemmas.{HasNoWord}
use Rattle.dsec_text.proofs.line.first_line.Given as goal

abbrev pub invariant-loop-rest : goal.invariant-loop-rest
invariant-loop-rest l = HasNoWord l.text l.rest l.start l.before

abbrev pub decreases-loop-rest : goal.decreases-loop-rest
decreases-loop-rest l = length l.rest
