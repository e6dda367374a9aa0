use Rattle.std.proofs.Common.{arith}
use Rattle.dsec_spec.specs.WrittenMessages.{record_octets}
use Rattle.dsec_builder.proofs.BuildingLemmas.{number_in_front}
use Rattle.dsec_builder.proofs.octets.count_record.Goals as goal

pub raise-requires-clause-low : goal.raise-requires-clause-low
raise-requires-clause-low c =
    let old = c.args.octets.now.items in
    let is = c.in-Ok.ensures.ok in
    rw (is, number_in_front old (record_octets c.args.item.now) c.args.count_at (omega (arith, c.requires.count_at, c.requires.header))) c.requires.low
