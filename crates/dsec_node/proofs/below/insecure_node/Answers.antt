use Rattle.std.proofs.Common.{[], sym, ◌∙◌, subst}
use Rattle.dsec_spec.specs.Names.{place}
use Rattle.dsec_wire.specs.Views.{key_view}
use Rattle.dsec_nodes.specs.Nodes.{Kept}
use Rattle.dsec_node.specs.Views.{bounds_view, ground_view, world_of}
use Rattle.dsec_node.proofs.KeyData.{if_ok}
use Rattle.dsec_node.proofs.NodeSteps.{insecure_is, stands}
use Rattle.dsec_node.proofs.below.insecure_node.Goals as goal

pub insecure_at-requires : goal.insecure_at-requires
insecure_at-requires g c =
    let w = world_of g.V.Verifier.accepts [] (bounds_view c.args.bounds.now) c.args.now in
    let one = stands c.args.group.now.signatures c.args.signature c.requires.signature in
    subst (Kept g.V.Verifier.accepts)
    (sym (insecure_is w c.args.zone.now c.args.keys.now (place c.args.name.now) c.args.cause (ground_view c.args.basis) c.args.group.now (one.0, key_view c.args.key.now) c.kept_for-valid_for.result c.in_ok-link.link c.in_ok-to_zone.to_zone c.in_ok-links.links
    (c.kept_for-valid_for.ensures one.0 one.1) (c.in_ok-link.ensures one.0 one.1) (c.in_ok-to_zone.ensures ∙ c.chain.ensures.value) c.in_ok-links.ensures))
    (c.requires.kept one.0 one.1)

pub returns : goal.returns
returns g c =
    let w = world_of g.V.Verifier.accepts [] (bounds_view c.args.bounds.now) c.args.now in
    if_ok c.insecure_at.result (λ n h one there. h
    ∙ insecure_is w c.args.zone.now c.args.keys.now (place c.args.name.now) c.args.cause (ground_view c.args.basis) c.args.group.now (one, key_view c.args.key.now) c.kept_for-valid_for.result c.in_ok-link.link c.in_ok-to_zone.to_zone c.in_ok-links.links
    (c.kept_for-valid_for.ensures one there) (c.in_ok-link.ensures one there) (c.in_ok-to_zone.ensures ∙ c.chain.ensures.value) c.in_ok-links.ensures)
    c.insecure_at.ensures
