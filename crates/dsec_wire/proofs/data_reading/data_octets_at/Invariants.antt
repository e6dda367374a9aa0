use Rattle.std.proofs.Common.{◌≡◌, ◌≤◌, drop, []}
use Rattle.std.specs.Prelude.{map}
use Rattle.dsec_spec.specs.Layouts.{layout_of}
use Rattle.dsec_wire.specs.Fields.{field_view}
use Rattle.dsec_wire.proofs.FieldLoops.{data_left}
use Rattle.dsec_wire.proofs.data_reading.data_octets_at.Given as goal

abbrev pub invariant-loop-field : goal.invariant-loop-field
invariant-loop-field l =
    (data_left l.out.items (map field_view (drop l.field-index l.fields)) l.message l.at l.end ≡ data_left [] (layout_of l.fn.rtype) l.message l.start l.end) × (l.at ≤ l.end)
