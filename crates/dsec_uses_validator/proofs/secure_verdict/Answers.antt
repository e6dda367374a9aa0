use Rattle.std.proofs.Common.{◌∙◌, ap}
use Rattle.dsec_nodes.specs.Outcomes.{Outcome}
use Rattle.dsec_uses_validator.proofs.FoundLaws.{none_else}
use Rattle.dsec_uses_validator.proofs.secure_verdict.Goals as goal

pub returns-in_default : goal.returns-in_default
returns-in_default g c =
    let judged = c.in_ok-verdict.ensures in
    let state = c.state.ensures ∙ ap (λ (o : Outcome). o.state) c.outcome.ensures in
    record {
      sound = tt;
      finds = (c.in_ok-verdict.verdict, judged.handed_on, none_else c.state.result c.in_ok-verdict.verdict c.in_default.not-Secure state);
      same_anchors = judged.same_anchors;
      same_config = judged.same_config;
    }
