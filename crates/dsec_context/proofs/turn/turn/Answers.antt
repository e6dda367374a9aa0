use Rattle.dsec_core.specs.Validating.{world_by}
use Rattle.dsec_core.specs.Views.{step_view}
use Rattle.dsec_walk.specs.Views.{input_view}
use Rattle.dsec_context.proofs.TurnLaws.{turned, turned_nearer}
use Rattle.dsec_context.proofs.AskedLaws.{turned_asked}
use Rattle.dsec_context.proofs.WithinLaws.{turned_within, unanswered_within}
use Rattle.dsec_context.proofs.turn.turn.Goals as goal

pub returns-in-Ok-clause-comes : goal.returns-in-Ok-clause-comes
returns-in-Ok-clause-comes g c = λ most message before at.
    turned (world_by g.V.Verifier.accepts c.args.validation.now) most message (g.U.Upstream.table c.args.upstream.now) before
    (record { held = g.C.Caches.held c.args.caches.now; lasting = g.C.Caches.lasting c.args.caches.now; asked = g.U.Upstream.asked c.args.upstream.now; faults = g.U.Upstream.faults c.args.upstream.now; heard = g.U.Upstream.heard c.args.upstream.now })
    (record { held = g.C.Caches.held c.answer_to.new.caches; lasting = g.C.Caches.lasting c.answer_to.new.caches; asked = g.U.Upstream.asked c.answer_to.new.upstream; faults = g.U.Upstream.faults c.answer_to.new.upstream; heard = g.U.Upstream.heard c.answer_to.new.upstream })
    c.args.validation.now.course c.advance.new.self.course (step_view c.args.step) (input_view c.in-Ok.input) c.advance.result at c.in-Ok.ensures.served c.advance.ensures.exact

pub returns-in-Ok-clause-nearer : goal.returns-in-Ok-clause-nearer
returns-in-Ok-clause-nearer g c = λ most message before at.
    turned_nearer (world_by g.V.Verifier.accepts c.args.validation.now) most message (g.U.Upstream.table c.args.upstream.now) before
    (record { held = g.C.Caches.held c.args.caches.now; lasting = g.C.Caches.lasting c.args.caches.now; asked = g.U.Upstream.asked c.args.upstream.now; faults = g.U.Upstream.faults c.args.upstream.now; heard = g.U.Upstream.heard c.args.upstream.now })
    (record { held = g.C.Caches.held c.answer_to.new.caches; lasting = g.C.Caches.lasting c.answer_to.new.caches; asked = g.U.Upstream.asked c.answer_to.new.upstream; faults = g.U.Upstream.faults c.answer_to.new.upstream; heard = g.U.Upstream.heard c.answer_to.new.upstream })
    c.args.validation.now.course c.advance.new.self.course (step_view c.args.step) (input_view c.in-Ok.input) c.advance.result at c.in-Ok.ensures.served c.advance.ensures.exact

pub returns-in-Ok-clause-asked : goal.returns-in-Ok-clause-asked
returns-in-Ok-clause-asked g c = λ most message before at.
    turned_asked (world_by g.V.Verifier.accepts c.args.validation.now) most message (g.U.Upstream.table c.args.upstream.now) before
    (record { held = g.C.Caches.held c.args.caches.now; lasting = g.C.Caches.lasting c.args.caches.now; asked = g.U.Upstream.asked c.args.upstream.now; faults = g.U.Upstream.faults c.args.upstream.now; heard = g.U.Upstream.heard c.args.upstream.now })
    (record { held = g.C.Caches.held c.answer_to.new.caches; lasting = g.C.Caches.lasting c.answer_to.new.caches; asked = g.U.Upstream.asked c.answer_to.new.upstream; faults = g.U.Upstream.faults c.answer_to.new.upstream; heard = g.U.Upstream.heard c.answer_to.new.upstream })
    c.args.validation.now.course c.advance.new.self.course (step_view c.args.step) (input_view c.in-Ok.input) c.advance.result at c.in-Ok.ensures.served c.advance.ensures.exact

pub returns-in-Ok-clause-checks : goal.returns-in-Ok-clause-checks
returns-in-Ok-clause-checks g c = λ most message before from at few.
    turned_within (world_by g.V.Verifier.accepts c.args.validation.now) most message (g.U.Upstream.table c.args.upstream.now) before
    (record { held = g.C.Caches.held c.args.caches.now; lasting = g.C.Caches.lasting c.args.caches.now; asked = g.U.Upstream.asked c.args.upstream.now; faults = g.U.Upstream.faults c.args.upstream.now; heard = g.U.Upstream.heard c.args.upstream.now })
    (record { held = g.C.Caches.held c.answer_to.new.caches; lasting = g.C.Caches.lasting c.answer_to.new.caches; asked = g.U.Upstream.asked c.answer_to.new.upstream; faults = g.U.Upstream.faults c.answer_to.new.upstream; heard = g.U.Upstream.heard c.answer_to.new.upstream })
    c.args.validation.now.course c.advance.new.self.course (step_view c.args.step) (input_view c.in-Ok.input) from c.args.steps.now c.advance.new.steps c.advance.result
    at c.in-Ok.ensures.served c.advance.ensures.exact few c.advance.ensures.bound

pub returns-in-Err-clause-checks : goal.returns-in-Err-clause-checks
returns-in-Err-clause-checks g c = λ most message before from at few.
    unanswered_within (world_by g.V.Verifier.accepts c.args.validation.now) most message (g.U.Upstream.table c.args.upstream.now) before
    (record { held = g.C.Caches.held c.args.caches.now; lasting = g.C.Caches.lasting c.args.caches.now; asked = g.U.Upstream.asked c.args.upstream.now; faults = g.U.Upstream.faults c.args.upstream.now; heard = g.U.Upstream.heard c.args.upstream.now })
    (record { held = g.C.Caches.held c.answer_to.new.caches; lasting = g.C.Caches.lasting c.answer_to.new.caches; asked = g.U.Upstream.asked c.answer_to.new.upstream; faults = g.U.Upstream.faults c.answer_to.new.upstream; heard = g.U.Upstream.heard c.answer_to.new.upstream })
    c.args.validation.now.course (step_view c.args.step) from c.args.steps.now at c.in-Err.ensures.asked c.in-Err.ensures.lost.0 c.in-Err.ensures.lost.1 c.in-Err.ensures.lost.2
    c.in-Err.ensures.lost.3 c.in-Err.ensures.lost.4 few
