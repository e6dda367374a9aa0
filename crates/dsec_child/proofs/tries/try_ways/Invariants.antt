use Rattle.std.proofs.Common.{◌≡◌, ◌+◌, ◌<◌, ◌≤◌, drop}
use Rattle.std.specs.Prelude.{unwrap_or}
use Rattle.dsec_nodes.specs.Admission.{cause_among}
use Rattle.dsec_child.specs.Ways.{ways_trial}
use Rattle.dsec_child.proofs.tries.try_ways.Given as goal

abbrev pub invariant-loop-index : goal.invariant-loop-index
invariant-loop-index g l =
    (ways_trial g.V.Verifier.accepts l.group l.t l.room (g.W.Way.picks l.most l.group) l.ways ≡ ways_trial g.V.Verifier.accepts l.group l.t l.left (g.W.Way.picks l.most l.group) (drop l.index l.ways))
    × (l.steps + l.left ≤ l.fn.steps + l.room)
    × (0 < l.left → cause_among l.bad l.group (g.W.Way.picks l.most l.group) l.ways ≡ unwrap_or l.cause (cause_among l.bad l.group (g.W.Way.picks l.most l.group) (drop l.index l.ways)))
