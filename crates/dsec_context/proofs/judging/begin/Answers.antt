use Rattle.std.proofs.Common.{◌≤◌, List, Option, Ok, sym, ap, subst, refl}
use Rattle.dsec_spec.specs.Outside.{Table}
use Rattle.dsec_spec.specs.Records.{Record}
use Rattle.dsec_nodes.specs.World.{World}
use Rattle.dsec_core.specs.Validating.{Validating, most_of, world_by}
use Rattle.dsec_core.specs.Views.{step_view}
use Rattle.dsec_context.specs.Outside.{Outside}
use Rattle.dsec_context.specs.Calls.{most_questions}
use Rattle.dsec_context.specs.Judgements.{judgement_at}
use Rattle.dsec_context.specs.Checked.{IsJudgingWithin}
use Rattle.dsec_context.specs.Turns.{AreFew, CountsTo, IsAt}
use Rattle.dsec_context.proofs.AskedLaws.{first_unasked}
use Rattle.dsec_context.proofs.TurnLaws.{carried, first_turned}
use Rattle.dsec_context.proofs.WithinLaws.{first_within}
use Rattle.dsec_context.proofs.judging.begin.Goals as goal

pub finish-requires-clause-unasked : goal.finish-requires-clause-unasked
finish-requires-clause-unasked g c =
    let begun = c.requires.begun in
    first_unasked (world_by g.V.Verifier.accepts c.args.validation.now) (most_of c.args.validation.now) begun.0 c.args.validation.now.course c.advance.new.self.course
    c.in-Ok.step begun.1 c.in-Ok.ensures.exact

pub finish-requires-clause-at : goal.finish-requires-clause-at
finish-requires-clause-at g c =
    let begun = c.requires.begun in
    let most = most_of c.args.validation.now in
    let before : Outside = record { held = g.C.Caches.held c.args.caches.now; lasting = g.C.Caches.lasting c.args.caches.now; asked = g.U.Upstream.asked c.args.upstream.now; faults = g.U.Upstream.faults c.args.upstream.now; heard = g.U.Upstream.heard c.args.upstream.now } in (
      most,
      begun.0,
      before,
      subst (λ (w : World). IsAt w most begun.0 (g.U.Upstream.table c.args.upstream.now) before before c.advance.new.self.course (step_view c.in-Ok.step))
          (sym (ap (world_by g.V.Verifier.accepts) c.advance.ensures.same))
          (first_turned (world_by g.V.Verifier.accepts c.args.validation.now) most begun.0 (g.U.Upstream.table c.args.upstream.now) before c.args.validation.now.course
          c.advance.new.self.course (Ok c.in-Ok.step) begun.1 c.in-Ok.ensures.exact),
      subst (λ (anchors : List Record). most_questions anchors most begun.0 ≤ 33422850) (sym (ap (λ (v : Validating). v.anchors) c.advance.ensures.same)) begun.2,
    )

pub returns-in-Ok-clause-checks : goal.returns-in-Ok-clause-checks
returns-in-Ok-clause-checks g c = λ message begins.
    let most = most_of c.args.validation.now in
    let from = c.args.steps.now in
    let before : Outside = record { held = g.C.Caches.held c.args.caches.now; lasting = g.C.Caches.lasting c.args.caches.now; asked = g.U.Upstream.asked c.args.upstream.now; faults = g.U.Upstream.faults c.args.upstream.now; heard = g.U.Upstream.heard c.args.upstream.now } in
    let after : Outside = record { held = g.C.Caches.held c.finish.new.caches; lasting = g.C.Caches.lasting c.finish.new.caches; asked = g.U.Upstream.asked c.finish.new.upstream; faults = g.U.Upstream.faults c.finish.new.upstream; heard = g.U.Upstream.heard c.finish.new.upstream } in
    carried (λ (w : World) (t : Option Table). IsAt w most message t before before c.advance.new.self.course (step_view c.in-Ok.step)
    × AreFew w c.advance.new.self.course from c.advance.new.steps)
    (λ (w : World) (t : Option Table). IsJudgingWithin w most message t before after (judgement_at w c.finish.new.validation.course c.finish.result) from c.finish.new.steps)
    (world_by g.V.Verifier.accepts c.advance.new.self) (world_by g.V.Verifier.accepts c.args.validation.now)
    (g.U.Upstream.table c.args.upstream.now) (g.U.Upstream.table c.args.upstream.now)
    (ap (world_by g.V.Verifier.accepts) c.advance.ensures.same) refl (λ both. c.finish.ensures.checks most message before from both.0 both.1) (
      first_turned (world_by g.V.Verifier.accepts c.args.validation.now) most message (g.U.Upstream.table c.args.upstream.now) before c.args.validation.now.course
          c.advance.new.self.course (Ok c.in-Ok.step) begins c.in-Ok.ensures.exact,
      first_within (world_by g.V.Verifier.accepts c.args.validation.now) most message (g.U.Upstream.table c.args.upstream.now) before c.args.validation.now.course
          c.advance.new.self.course from c.advance.new.steps (Ok c.in-Ok.step) begins c.in-Ok.ensures.exact c.advance.ensures.bound,
    )

pub returns-in-Err-clause-checks : goal.returns-in-Err-clause-checks
returns-in-Err-clause-checks g c = λ message begins.
    let w = world_by g.V.Verifier.accepts c.args.validation.now in
    let most = most_of c.args.validation.now in
    let from = c.args.steps.now in
    let before : Outside = record { held = g.C.Caches.held c.args.caches.now; lasting = g.C.Caches.lasting c.args.caches.now; asked = g.U.Upstream.asked c.args.upstream.now; faults = g.U.Upstream.faults c.args.upstream.now; heard = g.U.Upstream.heard c.args.upstream.now } in
    subst (λ r. CountsTo w most message (g.U.Upstream.table c.args.upstream.now) before before c.advance.new.self.course from c.advance.new.steps r) c.in-Err.is
    (first_within w most message (g.U.Upstream.table c.args.upstream.now) before c.args.validation.now.course c.advance.new.self.course from c.advance.new.steps c.advance.result
    begins c.advance.ensures.exact c.advance.ensures.bound)
