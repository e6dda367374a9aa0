use Rattle.std.proofs.Common.{[], sym, ◌∙◌, subst}
use Rattle.dsec_spec.specs.Names.{place}
use Rattle.dsec_wire.specs.Views.{key_view}
use Rattle.dsec_nodes.specs.Nodes.{Kept}
use Rattle.dsec_node.specs.Views.{bounds_view, world_of}
use Rattle.dsec_node.proofs.KeyData.{if_ok}
use Rattle.dsec_node.proofs.NodeSteps.{within_is, stands}
use Rattle.dsec_node.proofs.below.within_node.Goals as goal

pub within_at-requires : goal.within_at-requires
within_at-requires g c =
    let w = world_of g.V.Verifier.accepts [] (bounds_view c.args.bounds.now) c.args.now in
    let one = stands c.args.group.now.signatures c.args.signature c.requires.signature in
    subst (Kept g.V.Verifier.accepts)
    (sym (within_is w c.args.zone.now c.args.keys.now (place c.args.name.now) c.args.group.now (one.0, key_view c.args.key.now) c.kept_for-valid_for.result c.in_ok-last.last
    (c.kept_for-valid_for.ensures one.0 one.1) (c.in_ok-last.ensures one.0 one.1)))
    (c.requires.kept one.0 one.1)

pub returns : goal.returns
returns g c =
    let w = world_of g.V.Verifier.accepts [] (bounds_view c.args.bounds.now) c.args.now in
    if_ok c.within_at.result (λ n h one there. h
    ∙ within_is w c.args.zone.now c.args.keys.now (place c.args.name.now) c.args.group.now (one, key_view c.args.key.now) c.kept_for-valid_for.result c.in_ok-last.last
    (c.kept_for-valid_for.ensures one there) (c.in_ok-last.ensures one there))
    c.within_at.ensures
