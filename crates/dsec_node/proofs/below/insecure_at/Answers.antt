use Rattle.std.proofs.Common.{[], refl, sym, ap, ◌∙◌, subst}
use Rattle.dsec_spec.specs.Names.{place}
use Rattle.dsec_nodes.specs.Nodes.{Kept}
use Rattle.dsec_node.specs.Views.{bounds_view, standing_view, world_of}
use Rattle.dsec_node.proofs.KeyData.{if_ok}
use Rattle.dsec_node.proofs.NodeSteps.{same_parts}
use Rattle.dsec_node.proofs.below.insecure_at.Goals as goal

pub new_delegation-requires : goal.new_delegation-requires
new_delegation-requires g c =
    let w = world_of g.V.Verifier.accepts [] (bounds_view c.args.bounds.now) c.args.now in
    subst (Kept g.V.Verifier.accepts)
    (sym (same_parts w (place c.in_ok-signer.signer) (place c.args.name.now) c.args.valid_for c.args.valid_for c.in_ok-anchor.anchor c.args.zone.now.anchor (place c.in_ok-signer.signer) (place c.args.name.now) c.in_ok-links.links c.args.zone.now.links (standing_view c.args.standing) (standing_view c.args.standing)
    (ap place c.in_ok-signer.ensures) refl c.in_ok-anchor.ensures (ap place c.in_ok-signer.ensures) (c.in_ok-links.ensures ∙ c.chain.ensures.value) refl))
    c.requires

pub returns : goal.returns
returns g c =
    let w = world_of g.V.Verifier.accepts [] (bounds_view c.args.bounds.now) c.args.now in
    if_ok c.new_delegation.result (λ n h. h
    ∙ same_parts w (place c.in_ok-signer.signer) (place c.args.name.now) c.args.valid_for c.args.valid_for c.in_ok-anchor.anchor c.args.zone.now.anchor (place c.in_ok-signer.signer) (place c.args.name.now) c.in_ok-links.links c.args.zone.now.links (standing_view c.args.standing) (standing_view c.args.standing)
    (ap place c.in_ok-signer.ensures) refl c.in_ok-anchor.ensures (ap place c.in_ok-signer.ensures) (c.in_ok-links.ensures ∙ c.chain.ensures.value) refl)
    c.new_delegation.ensures
