use Rattle.dsec_outcome.proofs.AliasSteps.{alias_past}
use Rattle.dsec_outcome.proofs.aliases.push_alias.Goals as goal

pub returns-in-None : goal.returns-in-None
returns-in-None g c = alias_past c.args.aliases.now.items c.args.answers.now c.args.step.now c.group.result c.group.ensures c.in-None.ensures.lookup.0
