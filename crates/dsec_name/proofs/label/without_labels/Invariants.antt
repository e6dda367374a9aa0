use Rattle.std.proofs.Common.{◌≡◌, drop}
use Rattle.dsec_name.specs.Keys.{labels_of}
use Rattle.dsec_name.proofs.label.without_labels.Given as goal

abbrev pub invariant-loop : goal.invariant-loop
invariant-loop l = labels_of l.rest ≡ drop l.counter (labels_of l.octets)
