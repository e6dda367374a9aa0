use Rattle.std.proofs.Common.{arith, ◌∙◌}
use Rattle.dsec_outside.proofs.Pieces.{more_sent}
use Rattle.dsec_outside.proofs.whole.write_all.Goals as goal

pub loop-at-preserved : goal.loop-at-preserved
loop-at-preserved g c =
    (c.in_ok-count.ensures.counts ∙ c.loop-at.invariant.0, omega (arith, c.in_ok-count.ensures.bound, c.loop-at-test.true), more_sent _ _ _ _ _ _ c.loop-at.invariant.2 c.in_ok-count.ensures.octets)
