use Rattle.std.proofs.Common.{◌≡◌, ℕ}
use Rattle.dsec_spec.specs.Names.{Place}
use Rattle.dsec_course.specs.Ending.{steps_ahead}
use Rattle.dsec_walk.specs.Views.{step_view, world_in}
use Rattle.dsec_lookup.specs.Outside.{Outside}
use Rattle.dsec_single.specs.Progress.{IsOn}
use Rattle.dsec_single.proofs.serving.serve.Given as goal

abbrev pub invariant-loop-alloc : goal.invariant-loop-alloc
invariant-loop-alloc g l =
    (g.U.Upstream.table l.upstream ≡ g.U.Upstream.table l.fn.upstream)
    × ((before : Outside) (top target : Place) (from : ℕ)
    → IsOn (world_in g.V.Verifier.accepts l.fn.setting) (g.U.Upstream.table l.fn.upstream) before
    (record { held = g.C.Caches.held l.fn.caches; lasting = g.C.Caches.lasting l.fn.caches; asked = g.U.Upstream.asked l.fn.upstream; faults = g.U.Upstream.faults l.fn.upstream; heard = g.U.Upstream.heard l.fn.upstream })
    top target l.fn.walk (step_view l.fn.step) from l.fn.steps
    → IsOn (world_in g.V.Verifier.accepts l.fn.setting) (g.U.Upstream.table l.fn.upstream) before
    (record { held = g.C.Caches.held l.caches; lasting = g.C.Caches.lasting l.caches; asked = g.U.Upstream.asked l.upstream; faults = g.U.Upstream.faults l.upstream; heard = g.U.Upstream.heard l.upstream })
    top target l.walk (step_view l.last) from l.steps)

abbrev pub decreases-loop-alloc : goal.decreases-loop-alloc
decreases-loop-alloc g l = steps_ahead l.walk
