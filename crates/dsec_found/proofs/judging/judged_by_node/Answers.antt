use Rattle.std.proofs.Common.{◌≡◌, [], ◌∙◌, subst}
use Rattle.std.specs.Arc.{arc_value}
use Rattle.dsec_nodes.specs.Judging.{found_at}
use Rattle.dsec_nodes.specs.Nodes.{Node}
use Rattle.dsec_node.specs.Views.{bounds_of, world_of}
use Rattle.dsec_found.specs.Founds.{finding_by}
use Rattle.dsec_found.proofs.FoundSteps.{found_from_any, if_ok, judged_by}
use Rattle.dsec_found.proofs.judging.judged_by_node.Goals as goal

pub returns-clause-judged : goal.returns-clause-judged
returns-clause-judged g c =
    let w = world_of g.V.Verifier.accepts [] (bounds_of c.args.config.now) c.args.now in
    let n = arc_value c.args.node in
    let found = subst (λ (n : Node). finding_by c.args.group n c.in_ok-found.found ≡ found_at w c.args.group n n.standing) c.deref.ensures c.in_ok-found.ensures.found in
    if_ok c.new.result (λ it h anchors.
    h ∙ judged_by c.args.group n _ _ (found ∙ found_from_any g.V.Verifier.accepts anchors (bounds_of c.args.config.now) c.args.now c.args.group n n.standing)) c.new.ensures
