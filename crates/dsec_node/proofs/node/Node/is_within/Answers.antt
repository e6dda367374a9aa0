use Rattle.std.proofs.Common.{sym, ◌∙◌}
use Rattle.dsec_node.specs.KeptBounds.{bounds_view}
use Rattle.dsec_node.proofs.CountingLaws.{bounds_decides}
use Rattle.dsec_node.proofs.node.Node.is_within.Goals as goal

pub returns : goal.returns
returns g c =
    let same = bounds_decides (bounds_view c.bounds.result) (bounds_view c.args.bounds.now) in
    (λ t. sym c.bounds.ensures ∙ same.0 (sym c.eq.ensures ∙ t), λ h. c.eq.ensures ∙ same.1 (c.bounds.ensures ∙ h))
