use Rattle.std.proofs.Common.{◌≡◌, ◌∙◌, ap, arith}
use Rattle.dsec_spec.specs.Names.{Labels, wire_length}
use Rattle.dsec_spec.proofs.WireNameLemmas.{length-wire_octets}
use Rattle.dsec_spec.proofs.WrittenMessageLaws.{length-question_octets}
use Rattle.dsec_builder.proofs.items.question_len.Goals as goal

pub returns : goal.returns
returns c =
    let name : c.wire_len.result ≡ wire_length c.args.question.now.name = c.wire_len.ensures.value ∙ ap (λ (n : Labels). wire_length n) c.qname.ensures in
    omega (arith, name, length-question_octets c.args.question.now, length-wire_octets c.args.question.now.name)
