use Rattle.std.proofs.Common.{length, refl, sym, ap, ◌∙◌}
use Rattle.std.specs.Option.{option_map}
use Rattle.std.proofs.lemmas.Option.{slice_get-map, slice_get_read}
use Rattle.dsec_wire.specs.TypedData.{TypedData}
use Rattle.dsec_wire.specs.Views.{key_view}
use Rattle.dsec_link.specs.Sets.{octets_of}
use Rattle.dsec_node.proofs.KeyPlaces.{key_there}
use Rattle.dsec_node.proofs.KeyTagLaws.{said_key, tag_of_data}
use Rattle.dsec_node.proofs.keys.tagged_at.Goals as goal

pub tag_at-tag-requires : goal.tag_at-tag-requires
tag_at-tag-requires c =
    tag_of_data c.args.tags.now c.args.datas.now c.args.index c.index-datas-index.result (key_view c.in-Some.key) c.requires.tags c.requires.within c.index-datas-index.is
    (sym (ap (option_map key_view) c.in-Some.is) ∙ c.dnskey.ensures.value)

pub returns : goal.returns
returns c =
    let one = c.index-datas-index.result in
    let key = key_view c.in-Some.key in
    let there = slice_get-map (λ (d : TypedData). d.octets) c.args.datas.now c.args.index ∙ ap (option_map (λ (d : TypedData). d.octets)) (slice_get_read c.args.datas.now (length c.args.datas.now) c.args.index one refl c.requires.within c.index-datas-index.is) in
    key_there c.args.tags.now (octets_of c.args.datas.now) c.requires.tags c.args.index one.octets key there
    (sym (said_key one key (sym (ap (option_map key_view) c.in-Some.is) ∙ c.dnskey.ensures.value)))
