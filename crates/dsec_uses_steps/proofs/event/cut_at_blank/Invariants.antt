use Rattle.std.proofs.Common.{length, ◌-◌}
use Rattle.dsec_uses_steps.proofs.event.cut_at_blank.Given as goal

abbrev pub decreases-loop-at : goal.decreases-loop-at
decreases-loop-at l = length l.text - l.at
