use Rattle.std.proofs.Common.{◌<◌, ◌+◌, ◌*◌, ◌^◌, map, ap, subst, ◌∙◌, arith}
use Rattle.std.proofs.lemmas.List.{length-map, take_all}
use Rattle.dsec_link.specs.Sets.{octets_of}
use Rattle.dsec_link.specs.TaggedKeys.{tagged_view}
use Rattle.dsec_keys.specs.Indexes.{HaveTags, code_of, entries_of, entry_of}
use Rattle.dsec_keys.proofs.Lists.{entries_more, tags_more}
use Rattle.dsec_nodes.specs.Signing.{keys_of}
use Rattle.dsec_node.proofs.KeyPlaces.{keys_length}
use Rattle.dsec_node.proofs.keys.index_of.Goals as goal

pub loop-index-preserved : goal.loop-index-preserved
loop-index-preserved c =
    let i = c.loop-index.index in
    let one = c.tagged_at-one.result in
    let keys = keys_of (octets_of c.args.datas.now) in
    let entry = c.entry.ensures.value ∙ ap (λ t. entry_of (one.key.algorithm * 2 ^ 16 + t) i) one.summed in (
      c.in_ok-push.ensures.items ∙ entries_more keys i (tagged_view one) c.tagged_at-one.ensures c.loop-index.entries.items c.entry.result c.loop-index.invariant.0 entry,
      tags_more keys i (tagged_view one) c.tagged_at-one.ensures c.loop-index.invariant.1 (subst (λ t. t < 2 ^ 16) one.summed c.entry.ensures.short),
    )

pub returns-clause-index : goal.returns-clause-index
returns-clause-index c =
    let keys = keys_of (octets_of c.args.datas.now) in
    let size = keys_length c.args.tags.now (octets_of c.args.datas.now) c.requires.tags ∙ length-map c.args.datas.now (λ d. d.octets) in
    let all = take_all c.loop-index.index keys (omega (arith, size, c.loop-index-test.false)) in
    c.of.ensures (map code_of keys) (c.loop-index.invariant.0 ∙ ap (λ ks. entries_of (map code_of ks)) all)

pub returns-clause-tags : goal.returns-clause-tags
returns-clause-tags c =
    let keys = keys_of (octets_of c.args.datas.now) in
    let size = keys_length c.args.tags.now (octets_of c.args.datas.now) c.requires.tags ∙ length-map c.args.datas.now (λ d. d.octets) in
    let all = take_all c.loop-index.index keys (omega (arith, size, c.loop-index-test.false)) in
    subst HaveTags all c.loop-index.invariant.1
