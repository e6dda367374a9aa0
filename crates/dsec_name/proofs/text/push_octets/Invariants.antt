use Rattle.std.proofs.Common.{◌≡◌, ◌≤◌, length}
use Rattle.dsec_name.specs.TextReading.{after_octets, read_label}
use Rattle.dsec_name.proofs.text.push_octets.Given as goal

abbrev pub invariant-loop-rest : goal.invariant-loop-rest
invariant-loop-rest l =
    (after_octets l.octets.items (read_label l.rest) ≡ after_octets l.fn.octets.items (read_label l.text)) × (length l.rest ≤ length l.text)

abbrev pub decreases-loop-rest : goal.decreases-loop-rest
decreases-loop-rest l = length l.rest
