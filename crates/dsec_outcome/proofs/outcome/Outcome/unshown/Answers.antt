use Rattle.std.proofs.Common.{◌∙◌}
use Rattle.dsec_outcome.specs.Outcomes.{why_view}
use Rattle.dsec_outcome.proofs.FindingSteps.{unshown_is}
use Rattle.dsec_outcome.proofs.outcome.Outcome.unshown.Goals as goal

pub returns : goal.returns
returns g c = λ where_shown.
    c.new.ensures ∙ unshown_is where_shown c.args.judged.now.finding c.state.result c.cause.result (why_view c.in_ok-why.why) c.state.ensures c.cause.ensures c.in_ok-why.ensures c.requires
