use Rattle.std.proofs.Common.{◌≡◌, ◌≤◌, ◌+◌, ◌++◌, take}
use Rattle.std.specs.Prelude.{map, vec_len}
use Rattle.std.specs.Char.{to_ascii_lowercase}
use Rattle.std.specs.Vec.{vec_capacity}
use Rattle.dsec_wire.proofs.canonical.push_part.Given as goal

abbrev pub invariant-loop-octet : goal.invariant-loop-octet
invariant-loop-octet l =
    (l.out.items ≡ l.fn.out.items ++ map to_ascii_lowercase (take l.octet-index l.part)) × (vec_len l.out ≡ vec_len l.fn.out + l.octet-index) × (vec_capacity l.fn.out ≤ vec_capacity l.out)
