use Rattle.std.proofs.Common.{sym, ◌∙◌}
use Rattle.dsec_spec.specs.Names.{place}
use Rattle.dsec_spec.proofs.CanonicalNames.{same_place_decides}
use Rattle.dsec_node.proofs.node.Node.is_of.Goals as goal

pub returns : goal.returns
returns g c =
    let same = same_place_decides (place c.name.result.now) (place c.args.name.now) in
    (λ t. sym c.name.ensures ∙ same.0 (sym c.eq.ensures ∙ t), λ h. c.eq.ensures ∙ same.1 (c.name.ensures ∙ h))
