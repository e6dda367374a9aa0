use Rattle.std.proofs.Common.{◌∙◌, ap, List}
use Rattle.std.specs.Option.{is_some}
use Rattle.dsec_spec.specs.Layouts.{Field}
use Rattle.dsec_spec.specs.RecordData.{parts_in}
use Rattle.dsec_wire.proofs.Readable.{readable_by_parts}
use Rattle.dsec_wire.proofs.data.Data.is_readable.Goals as goal

pub returns-then-octets-le-MAX_DATA : goal.returns-then-octets-le-MAX_DATA
returns-then-octets-le-MAX_DATA c =
    readable_by_parts c.args.rtype c.args.octets.now c.takes_all.result
    (c.takes_all.ensures ∙ ap (λ (fields : List Field). is_some (parts_in fields c.args.octets.now)) c.layout.ensures)
    c.if-octets-le-MAX_DATA.true
