use Rattle.std.proofs.Common.{List, ℕ, length, ap, sym, ◌∙◌, arith}
use Rattle.std.proofs.lemmas.List.{length-map}
use Rattle.dsec_link.specs.Sets.{octets_of}
use Rattle.dsec_nodes.specs.Signing.{keys_of}
use Rattle.dsec_node.proofs.KeyPlaces.{keys_length}
use Rattle.dsec_node.proofs.keys.KeysKeyList.key_at.Goals as goal

pub tagged_at-requires-clause-within : goal.tagged_at-requires-clause-within
tagged_at-requires-clause-within c =
    let datas = c.self.inside.datas.items in
    let size = ap (λ (ds : List (List ℕ)). length (keys_of ds)) (sym c.self.view_is) ∙ (keys_length c.self.inside.tags.items (octets_of datas) c.self.invariant.1 ∙ length-map datas (λ d. d.octets)) in
    omega (arith, size, c.requires, c.deref.ensures.len)
