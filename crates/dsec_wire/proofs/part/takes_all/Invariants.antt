use Rattle.std.proofs.Common.{◌≡◌, drop}
use Rattle.std.specs.Prelude.{map}
use Rattle.std.specs.Option.{is_some}
use Rattle.dsec_spec.specs.RecordData.{parts_in}
use Rattle.dsec_wire.specs.Fields.{field_view}
use Rattle.dsec_wire.proofs.part.takes_all.Given as goal

abbrev pub invariant-loop-field : goal.invariant-loop-field
invariant-loop-field l =
    is_some (parts_in (map field_view (drop l.field-index l.fields)) l.rest) ≡ is_some (parts_in (map field_view l.fields) l.octets)
