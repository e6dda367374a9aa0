use Rattle.std.proofs.Common.{◌≡◌, length}
use Rattle.std.specs.Prelude.{◌||◌}
use Rattle.std.specs.Option.{option_map}
use Rattle.std.specs.List.{list_any}
use Rattle.dsec_name.specs.Errors.{is_long}
use Rattle.dsec_name.specs.Wire.{wire_labels}
use Rattle.dsec_name.proofs.name.has_long_label.Given as goal

abbrev pub invariant-loop-length : goal.invariant-loop-length
invariant-loop-length l =
    option_map (λ labels. l.long || list_any is_long labels) (wire_labels l.rest) ≡ option_map (list_any is_long) (wire_labels l.octets)

abbrev pub decreases-loop-length : goal.decreases-loop-length
decreases-loop-length l = length l.rest
