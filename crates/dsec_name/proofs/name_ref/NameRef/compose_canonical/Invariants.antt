use Rattle.std.proofs.Common.{◌≡◌, ◌++◌, ◌+◌, ◌≤◌, length, take}
use Rattle.std.specs.Prelude.{map, vec_len}
use Rattle.std.specs.Vec.{vec_capacity}
use Rattle.std.specs.Char.{to_ascii_lowercase}
use Rattle.dsec_name.proofs.name_ref.NameRef.compose_canonical.Given as goal

abbrev pub invariant-loop-octet : goal.invariant-loop-octet
invariant-loop-octet l =
    (l.out.items ≡ l.fn.out.items ++ map to_ascii_lowercase (take l.octet-index l.labels)) × (vec_len l.out + length l.labels + 1 ≤ vec_capacity l.out + l.octet-index)
