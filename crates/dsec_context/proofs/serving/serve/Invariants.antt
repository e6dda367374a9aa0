use Rattle.std.proofs.Common.{◌≡◌, ℕ, List, length}
use Rattle.dsec_course.specs.Course.{asked_in}
use Rattle.dsec_course.specs.Ending.{steps_left}
use Rattle.dsec_core.specs.Validating.{with_course, world_by}
use Rattle.dsec_core.specs.Views.{step_view}
use Rattle.dsec_context.specs.Outside.{Outside}
use Rattle.dsec_context.specs.Turns.{AreFew, IsAt}
use Rattle.dsec_context.proofs.serving.serve.Given as goal

abbrev pub invariant-loop-alloc : goal.invariant-loop-alloc
invariant-loop-alloc g l =
    (l.validation ≡ with_course l.fn.validation l.validation.course)
    × (g.U.Upstream.table l.upstream ≡ g.U.Upstream.table l.fn.upstream)
    × ((most : ℕ) (message : List ℕ) (before : Outside)
    → IsAt (world_by g.V.Verifier.accepts l.fn.validation) most message (g.U.Upstream.table l.fn.upstream) before
    (record { held = g.C.Caches.held l.fn.caches; lasting = g.C.Caches.lasting l.fn.caches; asked = g.U.Upstream.asked l.fn.upstream; faults = g.U.Upstream.faults l.fn.upstream; heard = g.U.Upstream.heard l.fn.upstream })
    l.fn.validation.course (step_view l.fn.step)
    → IsAt (world_by g.V.Verifier.accepts l.fn.validation) most message (g.U.Upstream.table l.fn.upstream) before
    (record { held = g.C.Caches.held l.caches; lasting = g.C.Caches.lasting l.caches; asked = g.U.Upstream.asked l.upstream; faults = g.U.Upstream.faults l.upstream; heard = g.U.Upstream.heard l.upstream })
    l.validation.course (step_view l.last))
    × (l.questions ≡ length (asked_in l.validation.course))
    × ((from : ℕ) → AreFew (world_by g.V.Verifier.accepts l.fn.validation) l.fn.validation.course from l.fn.steps
    → AreFew (world_by g.V.Verifier.accepts l.fn.validation) l.validation.course from l.steps)

abbrev pub decreases-loop-alloc : goal.decreases-loop-alloc
decreases-loop-alloc g l = steps_left (world_by g.V.Verifier.accepts l.fn.validation) l.validation.course
