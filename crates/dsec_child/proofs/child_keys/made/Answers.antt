use Rattle.std.proofs.Common.{◌≡◌, [], sym, ap, ◌∙◌, subst}
use Rattle.dsec_spec.specs.Numbers.{DNSKEY}
use Rattle.dsec_spec.specs.Chain.{Link}
use Rattle.dsec_spec.specs.Records.{RecordSet}
use Rattle.dsec_nodes.specs.ByDs.{apex_by}
use Rattle.dsec_nodes.proofs.Lasting.{set_at}
use Rattle.dsec_node.specs.Good.{IsGoodAt}
use Rattle.dsec_node.specs.Views.{bounds_of, world_of}
use Rattle.dsec_node.proofs.KeyData.{if_ok}
use Rattle.dsec_child.proofs.ChildKeysSteps.{data_there, pair_is, good_is, node_is}
use Rattle.dsec_child.proofs.child_keys.made.Goals as goal

pub apex_node-requires-clause-at : goal.apex_node-requires-clause-at
apex_node-requires-clause-at g c = set_at c.args.pending.now.name DNSKEY c.args.group.now c.requires.at

pub apex_node-requires-clause-good : goal.apex_node-requires-clause-good
apex_node-requires-clause-good g c =
    let w = world_of g.V.Verifier.accepts [] (bounds_of c.args.config.now) c.args.now in
    let pending = c.args.pending.now in
    let group = c.args.group.now in
    let it = c.args.it in
    let h = c.requires.admitted in
    let datas_are = c.datas.ensures.values ∙ ap (λ (r : RecordSet). r.datas) (c.records.ensures ∙ ap (λ (l : Link). l.records) c.link.ensures) in
    let there = data_there c.datas.result.now pending.link.records.datas it.via h.pair.1.way c.index-datas-it.result c.octets-via.result.now datas_are h.stands.way_stands c.index-datas-it.is c.octets-via.ensures.value in
    subst (λ b. IsGoodAt (world_of g.V.Verifier.accepts [] b c.args.now) pending group c.octets-via.result.now it.key it.signature) (sym c.bounds-bounds.ensures)
    (good_is w c.args.zone.now pending group it h c.octets-via.result.now there)

pub returns : goal.returns
returns g c =
    let w = world_of g.V.Verifier.accepts [] (bounds_of c.args.config.now) c.args.now in
    let pending = c.args.pending.now in
    let group = c.args.group.now in
    let it = c.args.it in
    let h = c.requires.admitted in
    let datas_are = c.datas.ensures.values ∙ ap (λ (r : RecordSet). r.datas) (c.records.ensures ∙ ap (λ (l : Link). l.records) c.link.ensures) in
    let there = data_there c.datas.result.now pending.link.records.datas it.via h.pair.1.way c.index-datas-it.result c.octets-via.result.now datas_are h.stands.way_stands c.index-datas-it.is c.octets-via.ensures.value in
    if_ok c.apex_node.result
    (λ n k. node_is w c.args.zone.now pending group it h c.octets-via.result.now there n
    (subst (λ b. n ≡ apex_by (world_of g.V.Verifier.accepts [] b c.args.now) c.args.zone.now pending group h.pair) c.bounds-bounds.ensures (k h.pair (pair_is w c.args.zone.now pending group it h c.octets-via.result.now there))))
    c.apex_node.ensures
