use Rattle.std.proofs.Common.{◌≡◌, ◌≤◌, length}
use Rattle.std.specs.Option.{option_map}
use Rattle.dsec_spec.specs.Islands.{looked_for_at}
use Rattle.dsec_spec.specs.Names.{place}
use Rattle.dsec_anchors.proofs.IslandSteps.{best_from}
use Rattle.dsec_anchors.proofs.island.island_owner.Given as goal

abbrev pub invariant-loop-index : goal.invariant-loop-index
invariant-loop-index l =
    (option_map (λ owner. owner.now) l.best ≡ best_from l.anchors (looked_for_at (place l.name) l.rtype) l.index) × (l.index ≤ length l.anchors)

abbrev pub decreases-loop-index : goal.decreases-loop-index
decreases-loop-index l = l.index
