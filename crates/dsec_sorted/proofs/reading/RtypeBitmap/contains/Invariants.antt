use Rattle.std.proofs.Common.{◌≡◌, length}
use Rattle.dsec_spec.specs.TypeBitmaps.{has_type}
use Rattle.dsec_sorted.specs.Blocks.{found_or_left}
use Rattle.dsec_sorted.proofs.reading.RtypeBitmap.contains.Given as goal

abbrev pub invariant-loop-block : goal.invariant-loop-block
invariant-loop-block l = has_type l.self.octets.now l.number ≡ found_or_left l.found l.rest l.number

abbrev pub decreases-loop-block : goal.decreases-loop-block
decreases-loop-block l = length l.rest
