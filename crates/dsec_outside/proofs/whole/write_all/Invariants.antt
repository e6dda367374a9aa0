use Rattle.std.proofs.Common.{length, take, ◌-◌, ◌≤◌, ◌≡◌}
use Rattle.std.specs.Io.KnownBytes.{Appends}
use Rattle.dsec_outside.proofs.whole.write_all.Given as goal

abbrev pub invariant-loop-at : goal.invariant-loop-at
invariant-loop-at g l =
    (g.K.Sink.faults l.sink ≡ g.K.Sink.faults l.fn.sink)
    × (l.at ≤ length l.octets)
    × Appends (g.K.Sink.written l.fn.sink) (g.K.Sink.written l.sink) (take l.at l.octets)

abbrev pub decreases-loop-at : goal.decreases-loop-at
decreases-loop-at g l = length l.octets - l.at
