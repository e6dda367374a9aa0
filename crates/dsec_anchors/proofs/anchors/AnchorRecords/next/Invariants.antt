use Rattle.std.proofs.Common.{◌≡◌, length}
use Rattle.dsec_anchors.specs.Anchors.{left_of}
use Rattle.dsec_anchors.proofs.anchors.AnchorRecords.next.Given as goal

abbrev pub invariant-loop-one : goal.invariant-loop-one
invariant-loop-one l = (left_of l.self ≡ left_of l.initial.self) × (l.self.owner.now ≡ l.initial.self.owner.now)

abbrev pub decreases-loop-one : goal.decreases-loop-one
decreases-loop-one l = length l.self.rest.now
