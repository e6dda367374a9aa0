use Rattle.dsec_spec.specs.Names.{Labels}
use Rattle.dsec_name.specs.Wire.{IsOnWire, wire_labels}
use Rattle.dsec_name.proofs.NameReading.{answers}
use Rattle.dsec_name.proofs.WireReading.{wire_reads, wire_written}
use Rattle.dsec_name.proofs.name.Name.from_wire.Goals as goal

pub returns-clause-meaning : goal.returns-clause-meaning
returns-clause-meaning c =
    let octets = c.args.octets.now in
    answers (λ (labels : Labels). IsOnWire labels octets) (wire_labels octets)
    (λ labels e. let w = wire_reads octets labels e in (w, w.some))
    (λ labels w. wire_written octets labels w)
    c.read_wire.result c.read_wire.ensures
