use Rattle.std.proofs.Common.{◌≡◌, drop}
use Rattle.dsec_name.specs.Keys.{labels_octets, labels_of}
use Rattle.dsec_name.proofs.parts.after_labels.Given as goal

abbrev pub invariant-loop : goal.invariant-loop
invariant-loop l = l.rest ≡ labels_octets (drop l.counter (labels_of l.octets))
