use Rattle.std.proofs.Common.{◌≡◌, ◌≤◌, length, drop}
use Rattle.dsec_spec.specs.Names.{Labels, wire_octets}
use Rattle.dsec_nsec3_calls.proofs.asked.after_labels.Given as goal

abbrev pub invariant-loop : goal.invariant-loop
invariant-loop l = (name : Labels) → l.octets ≡ wire_octets name → l.labels ≤ length name → l.rest ≡ wire_octets (drop l.counter name)
