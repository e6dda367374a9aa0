use Rattle.std.proofs.Common.{◌≡◌, ◌∙◌, length, ap, ℕ, List, arith}
use Rattle.dsec_spec.specs.Names.{Labels, wire_length}
use Rattle.dsec_spec.proofs.WireNameLemmas.{length-wire_octets}
use Rattle.dsec_spec.proofs.WrittenMessageLaws.{length-record_octets}
use Rattle.dsec_wire.specs.TypedData.{TypedData}
use Rattle.dsec_builder.proofs.items.record_len.Goals as goal

pub returns : goal.returns
returns c =
    let owner : c.wire_len.result ≡ wire_length c.args.item.now.owner = c.wire_len.ensures.value ∙ ap (λ (n : Labels). wire_length n) c.owner.ensures in
    let rdata : c.len.result ≡ length c.args.item.now.rdata = c.len.ensures ∙ ap (λ (x : List ℕ). length x) (c.octets.ensures.value ∙ ap (λ (d : TypedData). d.octets) c.rdata.ensures.value) in
    omega (arith, owner, rdata, length-record_octets c.args.item.now, length-wire_octets c.args.item.now.owner)
