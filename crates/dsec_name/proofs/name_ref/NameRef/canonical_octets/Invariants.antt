use Rattle.std.proofs.Common.{◌≡◌, ◌≤◌, length, take}
use Rattle.std.specs.Prelude.{map}
use Rattle.std.specs.Char.{to_ascii_lowercase}
use Rattle.arrayvec.specs.ArrayVec.{array_vec_len}
use Rattle.dsec_name.proofs.name_ref.NameRef.canonical_octets.Given as goal

abbrev pub invariant-loop-octet : goal.invariant-loop-octet
invariant-loop-octet l =
    (l.out.items ≡ map to_ascii_lowercase (take l.octet-index l.labels)) × (array_vec_len l.out ≤ l.octet-index) × (length l.labels ≤ 254)
