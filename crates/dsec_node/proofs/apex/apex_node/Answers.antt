use Rattle.std.proofs.Common.{[], sym, ap, ◌∙◌, subst}
use Rattle.dsec_spec.specs.Names.{place}
use Rattle.dsec_nodes.specs.Nodes.{Kept}
use Rattle.dsec_nodes.proofs.KeptLaws.{held, apex_kept}
use Rattle.dsec_node.specs.Views.{bounds_view, world_of}
use Rattle.dsec_node.proofs.NodeSteps.{apex_is, read}
use Rattle.dsec_node.proofs.apex.apex_node.Goals as goal

pub new-requires : goal.new-requires
new-requires g c =
    let w = world_of g.V.Verifier.accepts [] (bounds_view c.args.bounds.now) c.args.now in
    let sig = c.index-sig_set-signature.result in
    let one = c.index-rr_set-key.result in
    let sig_there = read c.sig_set.result.now c.args.group.now.signatures c.args.signature sig c.sig_set.ensures.signatures c.requires.signature c.index-sig_set-signature.is in
    let key_there = read c.rr_set.result.now c.args.group.now.records c.args.key one c.rr_set.ensures.records c.requires.key c.index-rr_set-key.is in
    let p = c.requires.good.pair in
    let is = apex_is w c.args.zone.now c.args.pending.now c.args.group.now c.args.via.now c.args.key c.args.signature p sig one c.in_ok-link.link c.in_ok-links.links c.in_ok-keys.keys c.in_ok-anchor.anchor
    (place c.in_ok-name.name) (place c.in_ok-signer.signer) c.valid_for-valid_for.result c.requires.good.is_pair sig_there key_there c.in_ok-link.ensures c.in_ok-links.ensures.links c.in_ok-keys.ensures c.in_ok-anchor.ensures
    (ap place c.in_ok-name.ensures ∙ c.name.ensures) (ap place c.in_ok-signer.ensures ∙ c.name-2.ensures) c.valid_for-valid_for.ensures in
    let zone = held w c.args.zone.now c.requires.ready.0 c.in_ok-links.ensures.kept c.requires.ready.1 c.requires.made c.requires.counts in
    subst (Kept g.V.Verifier.accepts) (sym is) (apex_kept w c.args.zone.now c.requires.ready.0 c.args.pending.now c.args.group.now p zone c.requires.ready.2 c.requires.good.is_good c.requires.at).0

pub returns : goal.returns
returns g c =
    let w = world_of g.V.Verifier.accepts [] (bounds_view c.args.bounds.now) c.args.now in
    let sig = c.index-sig_set-signature.result in
    let one = c.index-rr_set-key.result in
    let sig_there = read c.sig_set.result.now c.args.group.now.signatures c.args.signature sig c.sig_set.ensures.signatures c.requires.signature c.index-sig_set-signature.is in
    let key_there = read c.rr_set.result.now c.args.group.now.records c.args.key one c.rr_set.ensures.records c.requires.key c.index-rr_set-key.is in
    λ p is. c.new.ensures ∙ apex_is w c.args.zone.now c.args.pending.now c.args.group.now c.args.via.now c.args.key c.args.signature p sig one c.in_ok-link.link c.in_ok-links.links c.in_ok-keys.keys c.in_ok-anchor.anchor
    (place c.in_ok-name.name) (place c.in_ok-signer.signer) c.valid_for-valid_for.result is sig_there key_there c.in_ok-link.ensures c.in_ok-links.ensures.links c.in_ok-keys.ensures c.in_ok-anchor.ensures
    (ap place c.in_ok-name.ensures ∙ c.name.ensures) (ap place c.in_ok-signer.ensures ∙ c.name-2.ensures) c.valid_for-valid_for.ensures
