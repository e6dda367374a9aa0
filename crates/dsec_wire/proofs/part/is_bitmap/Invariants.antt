use Rattle.std.proofs.Common.{length}
use Rattle.dsec_wire.proofs.PartLoops.{BitmapBegins}
use Rattle.dsec_wire.proofs.part.is_bitmap.Given as goal

abbrev pub invariant-loop-after : goal.invariant-loop-after
invariant-loop-after l = BitmapBegins l.octets l.rest

abbrev pub decreases-loop-after : goal.decreases-loop-after
decreases-loop-after l = length l.rest
