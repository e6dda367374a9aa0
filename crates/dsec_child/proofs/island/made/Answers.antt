use Rattle.std.proofs.Common.{◌≡◌, sym, subst}
use Rattle.std.proofs.lemmas.Option.{slice_get_within}
use Rattle.dsec_spec.specs.Names.{place}
use Rattle.dsec_nodes.specs.Walk.{anchored}
use Rattle.dsec_node.specs.Good.{IsGoodByAnchorAt}
use Rattle.dsec_node.specs.Views.{bounds_of, world_of}
use Rattle.dsec_node.proofs.KeyData.{if_ok}
use Rattle.dsec_child.proofs.AnchoredSteps.{pair_is, good_is, node_is}
use Rattle.dsec_child.proofs.WaySteps.{stands_at}
use Rattle.dsec_child.proofs.island.made.Goals as goal

pub anchor_node-requires-clause-good : goal.anchor_node-requires-clause-good
anchor_node-requires-clause-good g c =
    let accepts = g.V.Verifier.accepts in
    let anchors = c.args.anchors.now in
    let group = c.args.group.now in
    let it = c.args.it in
    let anchor = c.index-anchors-it.result in
    let h = c.requires.admitted in
    let there = stands_at anchors it.via anchor (slice_get_within anchors it.via h.pair.1.way h.stands.way_stands) c.index-anchors-it.is in
    subst (λ b. IsGoodByAnchorAt (world_of accepts anchors b c.args.now) group anchor it.key it.signature) (sym c.bounds-bounds.ensures)
    (good_is (world_of accepts anchors (bounds_of c.args.config.now) c.args.now) group it h anchor there)

pub returns : goal.returns
returns g c =
    let accepts = g.V.Verifier.accepts in
    let anchors = c.args.anchors.now in
    let group = c.args.group.now in
    let it = c.args.it in
    let anchor = c.index-anchors-it.result in
    let h = c.requires.admitted in
    let w = world_of accepts anchors (bounds_of c.args.config.now) c.args.now in
    let there = stands_at anchors it.via anchor (slice_get_within anchors it.via h.pair.1.way h.stands.way_stands) c.index-anchors-it.is in
    if_ok c.anchor_node.result
    (λ n k. node_is w group it h anchor there n
    (subst (λ b. n ≡ anchored (world_of accepts anchors b c.args.now) (place group.owner) group h.pair) c.bounds-bounds.ensures (k h.pair (pair_is w group it h anchor there))))
    c.anchor_node.ensures
