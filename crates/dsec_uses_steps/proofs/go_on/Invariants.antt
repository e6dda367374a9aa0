use Rattle.dsec_crypto.specs.StandIn.{stand_in}
use Rattle.dsec_course.specs.Ending.{steps_left}
use Rattle.dsec_core.specs.Validating.{world_by}
use Rattle.dsec_uses_steps.proofs.GoingLaws.{ComesBy}
use Rattle.dsec_uses_steps.proofs.go_on.Given as goal

abbrev pub invariant-loop-alloc : goal.invariant-loop-alloc
invariant-loop-alloc g l =
    ComesBy l.fn.index
    (record { message = l.fn.validation; around = record { held = g.C.Caches.held l.fn.caches; lasting = g.C.Caches.lasting l.fn.caches; written = g.K.Sink.written l.fn.sink; faults = g.K.Sink.faults l.fn.sink; checked = l.fn.steps } })
    (record { message = l.validation; around = record { held = g.C.Caches.held l.caches; lasting = g.C.Caches.lasting l.caches; written = g.K.Sink.written l.sink; faults = g.K.Sink.faults l.sink; checked = l.steps } })
    l.fn.input l.input

abbrev pub decreases-loop-alloc : goal.decreases-loop-alloc
decreases-loop-alloc g l = steps_left (world_by stand_in l.validation) l.validation.course
