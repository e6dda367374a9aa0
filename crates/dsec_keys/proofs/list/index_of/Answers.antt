use Rattle.std.proofs.Common.{◌<◌, ◌+◌, ◌*◌, ◌^◌, length, map, ap, refl, subst, ◌∙◌}
use Rattle.std.specs.Option.{option_map}
use Rattle.std.proofs.lemmas.Option.{slice_get-map, slice_get_read}
use Rattle.dsec_link.specs.TaggedKeys.{tagged_view}
use Rattle.dsec_keys.specs.Indexes.{entry_of}
use Rattle.dsec_keys.proofs.Lists.{entries_more, tags_more}
use Rattle.dsec_keys.proofs.list.index_of.Goals as goal

pub loop-index-preserved : goal.loop-index-preserved
loop-index-preserved c =
    let i = c.loop-index.index in
    let one = c.index-keys-index.result in
    let keys = map tagged_view c.args.keys.now in
    let there = slice_get-map tagged_view c.args.keys.now i ∙ ap (option_map tagged_view) (slice_get_read c.args.keys.now (length c.args.keys.now) i one refl c.loop-index-test.true c.index-keys-index.is) in
    let entry = c.entry.ensures.value ∙ ap (λ t. entry_of (one.key.algorithm * 2 ^ 16 + t) i) one.summed in (
      c.in_ok-push.ensures.items ∙ entries_more keys i (tagged_view one) there c.loop-index.entries.items c.entry.result c.loop-index.invariant.0 entry,
      tags_more keys i (tagged_view one) there c.loop-index.invariant.1 (subst (λ t. t < 2 ^ 16) one.summed c.entry.ensures.short),
    )
