use Rattle.dsec_outcome.proofs.UsedSteps.{none_past}
use Rattle.dsec_outcome.proofs.used.push_used.Goals as goal

pub returns-in-None : goal.returns-in-None
returns-in-None g c = none_past c.args.used.now.items c.args.authorities.now c.args.index c.in-None.ensures.lookup.0
