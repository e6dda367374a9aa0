use Rattle.dsec_outcome.proofs.AliasSteps.{aliases_more}
use Rattle.dsec_outcome.proofs.aliases.aliases_on.Goals as goal

pub loop-step-preserved : goal.loop-step-preserved
loop-step-preserved g c =
    aliases_more c.args.answers.now c.args.steps.now c.loop-step.step-index c.step-item.result c.loop-step.aliases.items c.push_alias.new.aliases.items c.loop-step-test.true c.step-item.is
    c.loop-step.invariant c.in_ok-push_alias.ensures
