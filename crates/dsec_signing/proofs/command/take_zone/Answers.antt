use Rattle.std.proofs.Common.{List, Vec, Global, subst}
use Rattle.dsec_spec.specs.Records as records
use Rattle.dsec_wire.specs.declared.record.Record.{Record}
use Rattle.dsec_signing.specs.Reading.{AnswersSource}
use Rattle.dsec_signing.proofs.ZoneReading.{read_in}
use Rattle.dsec_signing.proofs.command.take_zone.Goals as goal

abbrev Read : Type 0
Read = Vec Record Global

abbrev view : Read → List records.Record
view read = read.items

pub returns-clause-class : goal.returns-clause-class
returns-clause-class c =
    read_in Read view c.args.content.items c.read_zone.result (subst (λ (content : List _). AnswersSource view content c.read_zone.result) c.deref.ensures.value c.read_zone.ensures)
