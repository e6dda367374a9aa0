use Rattle.std.proofs.Common.{[], refl, sym, ap, ◌∙◌, subst}
use Rattle.dsec_spec.specs.Names.{place}
use Rattle.dsec_nodes.specs.Nodes.{Kept, within}
use Rattle.dsec_node.specs.Views.{bounds_view, world_of}
use Rattle.dsec_node.proofs.NodeSteps.{same_parts}
use Rattle.dsec_node.proofs.below.within_at.Goals as goal

pub new_intermediate-requires : goal.new_intermediate-requires
new_intermediate-requires g c =
    let w = world_of g.V.Verifier.accepts [] (bounds_view c.args.bounds.now) c.args.now in
    subst (Kept g.V.Verifier.accepts)
    (sym (same_parts w (place c.in_ok-name.name) (place c.args.name.now) c.args.valid_for c.args.valid_for c.in_ok-anchor.anchor c.args.zone.now.anchor (place c.in_ok-signer.signer) c.args.zone.now.signer c.in_ok-links.links c.args.zone.now.links (within c.args.last) (within c.args.last)
    (ap place c.in_ok-name.ensures) refl c.in_ok-anchor.ensures (ap place c.in_ok-signer.ensures ∙ c.signer_name.ensures) (c.in_ok-links.ensures ∙ c.chain.ensures.value) refl))
    c.requires

pub returns : goal.returns
returns g c =
    let w = world_of g.V.Verifier.accepts [] (bounds_view c.args.bounds.now) c.args.now in
    c.new_intermediate.ensures
    ∙ same_parts w (place c.in_ok-name.name) (place c.args.name.now) c.args.valid_for c.args.valid_for c.in_ok-anchor.anchor c.args.zone.now.anchor (place c.in_ok-signer.signer) c.args.zone.now.signer c.in_ok-links.links c.args.zone.now.links (within c.args.last) (within c.args.last)
    (ap place c.in_ok-name.ensures) refl c.in_ok-anchor.ensures (ap place c.in_ok-signer.ensures ∙ c.signer_name.ensures) (c.in_ok-links.ensures ∙ c.chain.ensures.value) refl
