use Rattle.std.proofs.Common.{◌≡◌, is_ok, Bool, false, Option, IfSome, subst, sym}
use Rattle.dsec_crypto.specs.declared.stand_in.StandIn.{StandIn}
use Rattle.dsec_walk.specs.declared.steps.Input.{Input}
use Rattle.dsec_course.specs.Course.{CourseAnswers}
use Rattle.dsec_walk.specs.Views.{input_view}
use Rattle.dsec_uses_steps.specs.Going.{Scene, StepsOn, TakesInput}
use Rattle.dsec_uses_steps.proofs.GoingLaws.{not_well, ends_so, breaks_so, goes_so}
use Rattle.dsec_uses_steps.proofs.go_on.Goals as goal

pub returns-in_err-next : goal.returns-in_err-next
returns-in_err-next g c =
    let first : Scene = record { message = c.args.validation.now; around = record { held = g.C.Caches.held c.args.caches.now; lasting = g.C.Caches.lasting c.args.caches.now; written = g.K.Sink.written c.args.sink.now; faults = g.K.Sink.faults c.args.sink.now; checked = c.args.steps.now } } in
    let now : Scene = record { message = c.loop-alloc.validation; around = record { held = g.C.Caches.held c.loop-alloc.caches; lasting = g.C.Caches.lasting c.loop-alloc.caches; written = g.K.Sink.written c.loop-alloc.sink; faults = g.K.Sink.faults c.loop-alloc.sink; checked = c.loop-alloc.steps } } in
    let after : Scene = record { message = c.step_on.new.validation; around = record { held = g.C.Caches.held c.step_on.new.caches; lasting = g.C.Caches.lasting c.step_on.new.caches; written = g.K.Sink.written c.step_on.new.sink; faults = g.K.Sink.faults c.step_on.new.sink; checked = c.step_on.new.steps } } in
    let failed : is_ok c.from_residual.result ≡ false = not_well c.from_residual.result c.from_residual.ensures.0 in
    record {
      takes = subst (λ (well : Bool). TakesInput c.args.index well first after c.args.input) (sym failed)
          (breaks_so c.args.index first now c.args.input c.loop-alloc.input c.loop-alloc.invariant (c.awaits.ensures.0 c.loop-alloc-test.true) after c.in_err-next.ensures.breaks);
    }

pub loop-alloc-preserved : goal.loop-alloc-preserved
loop-alloc-preserved g c =
    let first : Scene = record { message = c.args.validation.now; around = record { held = g.C.Caches.held c.args.caches.now; lasting = g.C.Caches.lasting c.args.caches.now; written = g.K.Sink.written c.args.sink.now; faults = g.K.Sink.faults c.args.sink.now; checked = c.args.steps.now } } in
    let now : Scene = record { message = c.loop-alloc.validation; around = record { held = g.C.Caches.held c.loop-alloc.caches; lasting = g.C.Caches.lasting c.loop-alloc.caches; written = g.K.Sink.written c.loop-alloc.sink; faults = g.K.Sink.faults c.loop-alloc.sink; checked = c.loop-alloc.steps } } in
    let after : Scene = record { message = c.step_on.new.validation; around = record { held = g.C.Caches.held c.step_on.new.caches; lasting = g.C.Caches.lasting c.step_on.new.caches; written = g.K.Sink.written c.step_on.new.sink; faults = g.K.Sink.faults c.step_on.new.sink; checked = c.step_on.new.steps } } in
    goes_so c.args.index first now c.args.input c.loop-alloc.input c.loop-alloc.invariant (c.awaits.ensures.0 c.loop-alloc-test.true) after c.in-Some.next
    (subst (λ (o : Option (Input StandIn)). StepsOn c.args.index now after c.loop-alloc.input o) c.in-Some.is c.in_ok-next.ensures.steps)
    (subst (λ (o : Option (Input StandIn)). IfSome o (λ i. CourseAnswers c.step_on.new.validation.course.waits (input_view i))) c.in-Some.is c.in_ok-next.ensures.awaits)

pub returns-in-None : goal.returns-in-None
returns-in-None g c =
    let first : Scene = record { message = c.args.validation.now; around = record { held = g.C.Caches.held c.args.caches.now; lasting = g.C.Caches.lasting c.args.caches.now; written = g.K.Sink.written c.args.sink.now; faults = g.K.Sink.faults c.args.sink.now; checked = c.args.steps.now } } in
    let now : Scene = record { message = c.loop-alloc.validation; around = record { held = g.C.Caches.held c.loop-alloc.caches; lasting = g.C.Caches.lasting c.loop-alloc.caches; written = g.K.Sink.written c.loop-alloc.sink; faults = g.K.Sink.faults c.loop-alloc.sink; checked = c.loop-alloc.steps } } in
    let after : Scene = record { message = c.step_on.new.validation; around = record { held = g.C.Caches.held c.step_on.new.caches; lasting = g.C.Caches.lasting c.step_on.new.caches; written = g.K.Sink.written c.step_on.new.sink; faults = g.K.Sink.faults c.step_on.new.sink; checked = c.step_on.new.steps } } in
    record {
      takes = ends_so c.args.index first now c.args.input c.loop-alloc.input c.loop-alloc.invariant (c.awaits.ensures.0 c.loop-alloc-test.true) after
          (subst (λ (o : Option (Input StandIn)). StepsOn c.args.index now after c.loop-alloc.input o) c.in-None.is c.in_ok-next.ensures.steps);
    }
