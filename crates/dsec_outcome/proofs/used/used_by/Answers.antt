use Rattle.dsec_outcome.proofs.UsedSteps.{used_more}
use Rattle.dsec_outcome.proofs.used.used_by.Goals as goal

pub loop-index-preserved : goal.loop-index-preserved
loop-index-preserved g c =
    used_more c.args.authorities.now c.args.indexes.now c.loop-index.index-index c.loop-index.used.items c.push_used.new.used.items c.loop-index-test.true c.loop-index.invariant c.in_ok-push_used.ensures
