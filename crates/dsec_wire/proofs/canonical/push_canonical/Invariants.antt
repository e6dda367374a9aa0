use Rattle.std.proofs.Common.{◌≡◌, ◌≤◌, ◌+◌, drop, length}
use Rattle.std.specs.Prelude.{map, vec_len}
use Rattle.std.specs.Vec.{vec_capacity}
use Rattle.dsec_wire.specs.Fields.{field_view}
use Rattle.dsec_wire.proofs.CanonicalLoops.{canonical_left}
use Rattle.dsec_wire.proofs.canonical.push_canonical.Given as goal

abbrev pub invariant-loop-field : goal.invariant-loop-field
invariant-loop-field l =
    (canonical_left l.out.items (map field_view (drop l.field-index l.fields)) l.rest ≡ canonical_left l.fn.out.items (map field_view l.fields) l.octets) × (vec_len l.out + length l.rest ≤ vec_capacity l.out)
