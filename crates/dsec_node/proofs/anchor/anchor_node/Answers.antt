use Rattle.std.proofs.Common.{sym, ap, ◌∙◌, subst}
use Rattle.dsec_spec.specs.Names.{place}
use Rattle.dsec_link.specs.Links.{kind_view}
use Rattle.dsec_nodes.specs.Nodes.{Kept}
use Rattle.dsec_nodes.proofs.AnchorLaws.{anchored_kept}
use Rattle.dsec_node.specs.Views.{bounds_view, world_of}
use Rattle.dsec_node.proofs.NodeSteps.{anchored_is, read}
use Rattle.dsec_node.proofs.anchor.anchor_node.Goals as goal

pub new-requires : goal.new-requires
new-requires g c =
    let w = world_of g.V.Verifier.accepts c.args.anchors.now (bounds_view c.args.bounds.now) c.args.now in
    let sig = c.index-sig_set-signature.result in
    let one = c.index-rr_set-key.result in
    let sig_there = read c.sig_set.result.now c.args.group.now.signatures c.args.signature sig c.sig_set.ensures.signatures c.requires.signature c.index-sig_set-signature.is in
    let key_there = read c.rr_set.result.now c.args.group.now.records c.args.key one c.rr_set.ensures.records c.requires.key c.index-rr_set-key.is in
    let p = c.requires.good.pair in
    let is = anchored_is w c.args.group.now c.args.anchor.now c.args.key c.args.signature p sig one c.in_ok-link.link c.in_ok-links.links c.in_ok-keys.keys (kind_view c.anchor_kind-kind.result) c.octets-via.result.now c.in_ok-anchor.anchor
    (place c.in_ok-name.name) (place c.in_ok-signer.signer) c.valid_for-valid_for.result c.requires.good.is_pair sig_there key_there c.in_ok-link.ensures c.anchor_kind-kind.ensures (c.octets-via.ensures.value ∙ ap (λ d. d.octets) c.rdata.ensures.value) c.in_ok-links.ensures c.in_ok-keys.ensures c.in_ok-anchor.ensures
    (ap place (c.in_ok-name.ensures ∙ c.owner.ensures)) (ap place (c.in_ok-signer.ensures ∙ c.owner-2.ensures)) c.valid_for-valid_for.ensures in
    subst (Kept g.V.Verifier.accepts) (sym is) (anchored_kept w (place c.args.group.now.owner) c.args.group.now p c.requires.good.is_good c.requires.at).0

pub returns : goal.returns
returns g c =
    let w = world_of g.V.Verifier.accepts c.args.anchors.now (bounds_view c.args.bounds.now) c.args.now in
    let sig = c.index-sig_set-signature.result in
    let one = c.index-rr_set-key.result in
    let sig_there = read c.sig_set.result.now c.args.group.now.signatures c.args.signature sig c.sig_set.ensures.signatures c.requires.signature c.index-sig_set-signature.is in
    let key_there = read c.rr_set.result.now c.args.group.now.records c.args.key one c.rr_set.ensures.records c.requires.key c.index-rr_set-key.is in
    λ p is. c.new.ensures ∙ anchored_is w c.args.group.now c.args.anchor.now c.args.key c.args.signature p sig one c.in_ok-link.link c.in_ok-links.links c.in_ok-keys.keys (kind_view c.anchor_kind-kind.result) c.octets-via.result.now c.in_ok-anchor.anchor
    (place c.in_ok-name.name) (place c.in_ok-signer.signer) c.valid_for-valid_for.result is sig_there key_there c.in_ok-link.ensures c.anchor_kind-kind.ensures (c.octets-via.ensures.value ∙ ap (λ d. d.octets) c.rdata.ensures.value) c.in_ok-links.ensures c.in_ok-keys.ensures c.in_ok-anchor.ensures
    (ap place (c.in_ok-name.ensures ∙ c.owner.ensures)) (ap place (c.in_ok-signer.ensures ∙ c.owner-2.ensures)) c.valid_for-valid_for.ensures
