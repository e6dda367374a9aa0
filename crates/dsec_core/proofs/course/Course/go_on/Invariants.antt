use Rattle.std.proofs.Common.{◌≡◌, ◌≤◌, length}
use Rattle.dsec_course.specs.Advancing.{going_on}
use Rattle.dsec_walk.specs.Views.{world_in}
use Rattle.dsec_core.specs.Validating.{given_up}
use Rattle.dsec_core.proofs.course.Course.go_on.Given as goal

abbrev pub invariant-loop-group : goal.invariant-loop-group
invariant-loop-group g l =
    (going_on (world_in g.V.Verifier.accepts l.setting) l.self.left l.self ≡ going_on (world_in g.V.Verifier.accepts l.setting) l.fn.self.left l.fn.self)
    × (l.steps ≤ l.fn.steps) × (given_up l.self ≡ given_up l.fn.self)

abbrev pub decreases-loop-group : goal.decreases-loop-group
decreases-loop-group g l = length l.self.left
