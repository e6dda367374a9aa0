use Rattle.std.proofs.Common.{◌<◌, ◌^◌, List, length, map, subst}
use Rattle.std.proofs.lemmas.List.{length-map}
use Rattle.dsec_spec.specs.Records.{Key}
use Rattle.dsec_link.specs.TaggedKeys.{tagged_view}
use Rattle.dsec_keys.specs.Indexes.{IsNextBy, code_of, is_named}
use Rattle.dsec_keys.proofs.Lists.{next_named}
use Rattle.dsec_keys.proofs.list.TaggedKeysKeyList.next_named.Goals as goal

pub returns-clause-next : goal.returns-clause-next
returns-clause-next c =
    let keys = map tagged_view c.self.inside.keys.items in
    subst (λ (ks : List Key). IsNextBy (is_named c.args.algorithm c.args.tag) c.args.from ks c.next.result) c.self.view_is (next_named c.args.algorithm c.args.tag c.args.from c.ranges.tag.fits keys c.self.invariant.1 c.next.result (c.next.ensures (map code_of keys) c.self.invariant.0))

pub returns-clause-few : goal.returns-clause-few
returns-clause-few c =
    let keys = map tagged_view c.self.inside.keys.items in
    subst (λ (ks : List Key). length ks < 2 ^ 64) c.self.view_is (subst (λ n. n < 2 ^ 64) (length-map keys code_of) c.self.invariant.0.few)
