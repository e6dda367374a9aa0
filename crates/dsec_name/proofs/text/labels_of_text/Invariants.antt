use Rattle.std.proofs.Common.{length}
use Rattle.dsec_name.specs.Keys.{labels_of}
use Rattle.dsec_name.proofs.TextSteps.{HasFront}
use Rattle.dsec_name.proofs.text.labels_of_text.Given as goal

abbrev pub invariant-loop-octets : goal.invariant-loop-octets
invariant-loop-octets l = HasFront (labels_of l.origin) l.text l.rest l.octets.items l.long

abbrev pub decreases-loop-octets : goal.decreases-loop-octets
decreases-loop-octets l = length l.rest
