use Rattle.std.proofs.Common.{◌≡◌, ◌<◌, ◌+◌, length, Option, Err, ap, ◌∙◌, arith}
use Rattle.dsec_spec.specs.Outside.{Table}
use Rattle.dsec_nodes.specs.World.{World}
use Rattle.dsec_course.specs.Course.{asked_in}
use Rattle.dsec_course.specs.Ending.{steps_left}
use Rattle.dsec_core.specs.Validating.{Validating, with_course, world_by}
use Rattle.dsec_core.specs.Views.{step_view}
use Rattle.dsec_context.specs.Outside.{Outside}
use Rattle.dsec_context.specs.Judgements.{judgement_at}
use Rattle.dsec_context.specs.Checked.{IsJudgingWithin}
use Rattle.dsec_context.specs.Turns.{asks, AreFew, IsAt}
use Rattle.dsec_context.proofs.AskedLaws.{room_left}
use Rattle.dsec_context.proofs.TurnLaws.{at_awaits, carried}
use Rattle.dsec_context.proofs.serving.serve.Goals as goal

pub turn-requires-clause-awaits : goal.turn-requires-clause-awaits
turn-requires-clause-awaits g c =
    let inv = c.loop-alloc.invariant in
    let begun = c.requires.at in
    at_awaits (world_by g.V.Verifier.accepts c.args.validation.now) begun.0 begun.1 (g.U.Upstream.table c.args.upstream.now) begun.2
    (record { held = g.C.Caches.held c.loop-alloc.caches; lasting = g.C.Caches.lasting c.loop-alloc.caches; asked = g.U.Upstream.asked c.loop-alloc.upstream; faults = g.U.Upstream.faults c.loop-alloc.upstream; heard = g.U.Upstream.heard c.loop-alloc.upstream })
    c.loop-alloc.validation.course (step_view c.loop-alloc.last) (inv.2 begun.0 begun.1 begun.2 begun.3)

pub loop-alloc-smaller : goal.loop-alloc-smaller
loop-alloc-smaller g c =
    let inv = c.loop-alloc.invariant in
    let begun = c.requires.at in
    let now : Outside = record { held = g.C.Caches.held c.loop-alloc.caches; lasting = g.C.Caches.lasting c.loop-alloc.caches; asked = g.U.Upstream.asked c.loop-alloc.upstream; faults = g.U.Upstream.faults c.loop-alloc.upstream; heard = g.U.Upstream.heard c.loop-alloc.upstream } in
    carried (λ (w : World) (t : Option Table). IsAt w begun.0 begun.1 t begun.2 now c.loop-alloc.validation.course (step_view c.loop-alloc.last))
    (λ (w : World) (t : Option Table). steps_left w c.turn.new.validation.course < steps_left w c.loop-alloc.validation.course)
    (world_by g.V.Verifier.accepts c.loop-alloc.validation) (world_by g.V.Verifier.accepts c.args.validation.now)
    (g.U.Upstream.table c.loop-alloc.upstream) (g.U.Upstream.table c.args.upstream.now)
    (ap (world_by g.V.Verifier.accepts) inv.0) inv.1 (c.in-Ok.ensures.nearer begun.0 begun.1 begun.2)
    (inv.2 begun.0 begun.1 begun.2 begun.3)

pub loop-alloc-preserved : goal.loop-alloc-preserved
loop-alloc-preserved g c =
    let inv = c.loop-alloc.invariant in
    let now : Outside = record { held = g.C.Caches.held c.loop-alloc.caches; lasting = g.C.Caches.lasting c.loop-alloc.caches; asked = g.U.Upstream.asked c.loop-alloc.upstream; faults = g.U.Upstream.faults c.loop-alloc.upstream; heard = g.U.Upstream.heard c.loop-alloc.upstream } in
    let next : Outside = record { held = g.C.Caches.held c.turn.new.caches; lasting = g.C.Caches.lasting c.turn.new.caches; asked = g.U.Upstream.asked c.turn.new.upstream; faults = g.U.Upstream.faults c.turn.new.upstream; heard = g.U.Upstream.heard c.turn.new.upstream } in (
      c.turn.ensures.same ∙ ap (λ (it : Validating). with_course it c.turn.new.validation.course) inv.0,
      c.turn.ensures.same_table ∙ inv.1,
      λ most message before at.
          carried (λ (w : World) (t : Option Table). IsAt w most message t before now c.loop-alloc.validation.course (step_view c.loop-alloc.last))
          (λ (w : World) (t : Option Table). IsAt w most message t before next c.turn.new.validation.course (step_view c.in-Ok.next))
          (world_by g.V.Verifier.accepts c.loop-alloc.validation) (world_by g.V.Verifier.accepts c.args.validation.now)
          (g.U.Upstream.table c.loop-alloc.upstream) (g.U.Upstream.table c.args.upstream.now)
          (ap (world_by g.V.Verifier.accepts) inv.0) inv.1 (c.in-Ok.ensures.comes most message before) (inv.2 most message before at),
      (let begun = c.requires.at in
          let asked : length (asked_in c.turn.new.validation.course) ≡ length (asked_in c.loop-alloc.validation.course) + asks (step_view c.loop-alloc.last) =
          carried (λ (w : World) (t : Option Table). IsAt w begun.0 begun.1 t begun.2 now c.loop-alloc.validation.course (step_view c.loop-alloc.last))
          (λ (w : World) (t : Option Table). length (asked_in c.turn.new.validation.course) ≡ length (asked_in c.loop-alloc.validation.course) + asks (step_view c.loop-alloc.last))
          (world_by g.V.Verifier.accepts c.loop-alloc.validation) (world_by g.V.Verifier.accepts c.args.validation.now)
          (g.U.Upstream.table c.loop-alloc.upstream) (g.U.Upstream.table c.args.upstream.now)
          (ap (world_by g.V.Verifier.accepts) inv.0) inv.1 (c.in-Ok.ensures.asked begun.0 begun.1 begun.2)
          (inv.2 begun.0 begun.1 begun.2 begun.3) in
          omega (arith, inv.3, asked, c.questions_in.ensures)),
      λ from few.
          let begun = c.requires.at in
          carried (λ (w : World) (t : Option Table). IsAt w begun.0 begun.1 t begun.2 now c.loop-alloc.validation.course (step_view c.loop-alloc.last)
          × AreFew w c.loop-alloc.validation.course from c.loop-alloc.steps)
          (λ (w : World) (t : Option Table). AreFew w c.turn.new.validation.course from c.turn.new.steps)
          (world_by g.V.Verifier.accepts c.loop-alloc.validation) (world_by g.V.Verifier.accepts c.args.validation.now)
          (g.U.Upstream.table c.loop-alloc.upstream) (g.U.Upstream.table c.args.upstream.now)
          (ap (world_by g.V.Verifier.accepts) inv.0) inv.1 (λ both. c.in-Ok.ensures.checks begun.0 begun.1 begun.2 from both.0 both.1)
          (inv.2 begun.0 begun.1 begun.2 begun.3, inv.4 from few),
    )

pub overflow_add-questions : goal.overflow_add-questions
overflow_add-questions g c =
    let inv = c.loop-alloc.invariant in
    let begun = c.requires.at in
    let room = room_left (world_by g.V.Verifier.accepts c.args.validation.now) begun.0 begun.1 (g.U.Upstream.table c.args.upstream.now) begun.2
    (record { held = g.C.Caches.held c.loop-alloc.caches; lasting = g.C.Caches.lasting c.loop-alloc.caches; asked = g.U.Upstream.asked c.loop-alloc.upstream; faults = g.U.Upstream.faults c.loop-alloc.upstream; heard = g.U.Upstream.heard c.loop-alloc.upstream })
    c.loop-alloc.validation.course (step_view c.loop-alloc.last) (inv.2 begun.0 begun.1 begun.2 begun.3) in
    omega (arith, room, begun.4, inv.3, c.questions_in.ensures)

pub returns-in-Err-clause-checks : goal.returns-in-Err-clause-checks
returns-in-Err-clause-checks g c = λ most message before from at few.
    let inv = c.loop-alloc.invariant in
    let now : Outside = record { held = g.C.Caches.held c.loop-alloc.caches; lasting = g.C.Caches.lasting c.loop-alloc.caches; asked = g.U.Upstream.asked c.loop-alloc.upstream; faults = g.U.Upstream.faults c.loop-alloc.upstream; heard = g.U.Upstream.heard c.loop-alloc.upstream } in
    let next : Outside = record { held = g.C.Caches.held c.turn.new.caches; lasting = g.C.Caches.lasting c.turn.new.caches; asked = g.U.Upstream.asked c.turn.new.upstream; faults = g.U.Upstream.faults c.turn.new.upstream; heard = g.U.Upstream.heard c.turn.new.upstream } in
    carried (λ (w : World) (t : Option Table). IsAt w most message t before now c.loop-alloc.validation.course (step_view c.loop-alloc.last)
    × AreFew w c.loop-alloc.validation.course from c.loop-alloc.steps)
    (λ (w : World) (t : Option Table). IsJudgingWithin w most message t before next (judgement_at w c.turn.new.validation.course (Err c.in-Err.error)) from c.turn.new.steps)
    (world_by g.V.Verifier.accepts c.loop-alloc.validation) (world_by g.V.Verifier.accepts c.args.validation.now)
    (g.U.Upstream.table c.loop-alloc.upstream) (g.U.Upstream.table c.args.upstream.now)
    (ap (world_by g.V.Verifier.accepts) inv.0) inv.1 (λ both. c.in-Err.ensures.checks most message before from both.0 both.1)
    (inv.2 most message before at, inv.4 from few)

pub returns-clause-checks : goal.returns-clause-checks
returns-clause-checks g c = λ most message before from at few. c.loop-alloc.invariant.4 from few
