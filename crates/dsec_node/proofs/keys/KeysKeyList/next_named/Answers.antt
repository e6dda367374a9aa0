use Rattle.std.proofs.Common.{◌<◌, ◌^◌, List, ℕ, length, map, subst}
use Rattle.std.proofs.lemmas.List.{length-map}
use Rattle.dsec_link.specs.Sets.{octets_of}
use Rattle.dsec_keys.specs.Indexes.{IsNextBy, code_of, is_named}
use Rattle.dsec_keys.proofs.Lists.{next_named}
use Rattle.dsec_nodes.specs.Signing.{keys_of}
use Rattle.dsec_node.proofs.keys.KeysKeyList.next_named.Goals as goal

pub returns-clause-next : goal.returns-clause-next
returns-clause-next c =
    let keys = keys_of (octets_of c.self.inside.datas.items) in
    subst (λ (ds : List (List ℕ)). IsNextBy (is_named c.args.algorithm c.args.tag) c.args.from (keys_of ds) c.next.result) c.self.view_is
    (next_named c.args.algorithm c.args.tag c.args.from c.ranges.tag.fits keys c.self.invariant.3 c.next.result (c.next.ensures (map code_of keys) c.self.invariant.2))

pub returns-clause-few : goal.returns-clause-few
returns-clause-few c =
    let keys = keys_of (octets_of c.self.inside.datas.items) in
    subst (λ (ds : List (List ℕ)). length (keys_of ds) < 2 ^ 64) c.self.view_is (subst (λ n. n < 2 ^ 64) (length-map keys code_of) c.self.invariant.2.few)
