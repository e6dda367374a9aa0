use Rattle.std.proofs.Common.{length, ◌-◌, ◌≤◌, ◌≡◌}
use Rattle.std.specs.Io.KnownBytes.{Consumes}
use Rattle.dsec_outside.proofs.whole.read_all.Given as goal

abbrev pub invariant-loop-piece : goal.invariant-loop-piece
invariant-loop-piece g l =
    (g.S.Source.faults l.source ≡ g.S.Source.faults l.fn.source)
    × (g.S.Source.ended l.source ≡ g.S.Source.ended l.fn.source)
    × (length l.all.items ≤ 16777217)
    × Consumes (g.S.Source.left l.fn.source) (g.S.Source.left l.source) l.all.items

abbrev pub decreases-loop-piece : goal.decreases-loop-piece
decreases-loop-piece g l = 16777217 - length l.all.items
