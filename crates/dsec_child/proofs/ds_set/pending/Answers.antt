use Rattle.std.proofs.Common.{◌≡◌, [], sym, ap, ◌∙◌, subst}
use Rattle.std.proofs.lemmas.Option.{slice_get_within}
use Rattle.dsec_spec.specs.Chain as chain
use Rattle.dsec_spec.specs.Names.{place}
use Rattle.dsec_link.specs.TaggedKeys.{tagged_view}
use Rattle.dsec_nodes.specs.Signing.{kept_for, keys_of, link_under}
use Rattle.dsec_node.specs.Views.{bounds_of, world_of}
use Rattle.dsec_child.proofs.BelowSteps.{pair_is, pending_is}
use Rattle.dsec_child.proofs.ds_set.pending.Goals as goal

pub returns : goal.returns
returns g c = λ p pair.
    let accepts = g.V.Verifier.accepts in
    let a = c.args in
    let w = world_of accepts [] (bounds_of a.config.now) a.now in
    let same = pair_is (keys_of a.keys.now) a.group.now a.by p p.0 (tagged_view c.key_at-one.result) pair pair.signature_there c.key_at-one.ensures in
    let link = c.in_ok-link.ensures p.0 pair.signature_there ∙ ap (link_under chain.ds a.keys.now a.group.now) (sym same) in
    let valid = subst (λ b. c.kept_for-valid_for.result ≡ kept_for (world_of accepts [] b a.now) a.zone.now a.group.now p.0) c.bounds-bounds.ensures (c.kept_for-valid_for.ensures p.0 pair.signature_there) in
    c.new.ensures ∙ pending_is w a.zone.now a.keys.now (place a.name.now) a.group.now p (place c.in_ok-name.name) c.in_ok-link.link c.kept_for-valid_for.result (ap place c.in_ok-name.ensures) link valid

pub key_at-one-requires : goal.key_at-one-requires
key_at-one-requires g c = slice_get_within (keys_of c.args.keys.now) c.args.by.key c.requires.pair.0.1 c.requires.pair.1.key_there
