use Rattle.std.proofs.Common.{◌≡◌, ◌-◌, ◌≤◌}
use Rattle.arrayvec.specs.ArrayVec.{array_vec_len}
use Rattle.dsec_spec.specs.WireNames.{name_within}
use Rattle.dsec_wire.specs.NameOctets.{name_octets}
use Rattle.dsec_wire.proofs.NameLoop.{with_front}
use Rattle.dsec_wire.proofs.names.name_octets_at.Given as goal

abbrev pub invariant-loop : goal.invariant-loop
invariant-loop l =
    (with_front l.octets.items l.after (name_within (383 - l.counter) l.message l.at l.pointers (255 - array_vec_len l.octets)) ≡ name_octets l.message l.start) × (array_vec_len l.octets ≤ 254)
