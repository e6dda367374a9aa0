use Rattle.std.proofs.Common.{◌≡◌, [], sym, ap, ◌∙◌, subst}
use Rattle.std.proofs.lemmas.Option.{slice_get_within}
use Rattle.dsec_spec.specs.Names.{place}
use Rattle.dsec_spec.specs.Records as records
use Rattle.dsec_link.specs.TaggedKeys.{tagged_view}
use Rattle.dsec_nodes.specs.MissingDs.{within_by}
use Rattle.dsec_nodes.specs.Nodes.{Kept}
use Rattle.dsec_nodes.specs.Signing.{keys_of}
use Rattle.dsec_node.specs.Views.{bounds_of, world_of}
use Rattle.dsec_node.proofs.KeyData.{if_ok}
use Rattle.dsec_child.proofs.BelowSteps.{pair_is}
use Rattle.dsec_child.proofs.missing.within.Goals as goal

pub within_node-requires-clause-kept : goal.within_node-requires-clause-kept
within_node-requires-clause-kept g c = λ one there.
    let accepts = g.V.Verifier.accepts in
    let a = c.args in
    let w = world_of accepts [] (bounds_of a.config.now) a.now in
    let kept = c.requires.kept in
    let same = pair_is (keys_of a.keys.now) a.group.now a.by kept.0 one (tagged_view c.key_at-one.result) kept.1 there c.key_at-one.ensures in
    subst (λ b. Kept accepts (within_by (world_of accepts [] b a.now) a.zone.now a.keys.now (place a.name.now) a.group.now (one, tagged_view c.key_at-one.result))) (sym c.bounds-bounds.ensures)
    (subst (λ (p : records.Record × records.Key). Kept accepts (within_by w a.zone.now a.keys.now (place a.name.now) a.group.now p)) same kept.2)

pub returns : goal.returns
returns g c =
    let accepts = g.V.Verifier.accepts in
    let a = c.args in
    let w = world_of accepts [] (bounds_of a.config.now) a.now in
    if_ok c.within_node.result (λ n h p pair.
    subst (λ b. n ≡ within_by (world_of accepts [] b a.now) a.zone.now a.keys.now (place a.name.now) a.group.now (p.0, tagged_view c.key_at-one.result)) c.bounds-bounds.ensures (h p.0 pair.signature_there)
    ∙ ap (λ (q : records.Record × records.Key). within_by w a.zone.now a.keys.now (place a.name.now) a.group.now q)
    (sym (pair_is (keys_of a.keys.now) a.group.now a.by p p.0 (tagged_view c.key_at-one.result) pair pair.signature_there c.key_at-one.ensures)))
    c.within_node.ensures

pub key_at-one-requires : goal.key_at-one-requires
key_at-one-requires g c = slice_get_within (keys_of c.args.keys.now) c.args.by.key c.requires.kept.0.1 c.requires.kept.1.key_there
