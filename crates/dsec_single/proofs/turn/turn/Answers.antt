use Rattle.dsec_walk.specs.Views.{input_view, step_view, world_in}
use Rattle.dsec_single.proofs.StepLaws.{on_answers, on_lost, on_under_way}
use Rattle.dsec_single.proofs.TurnLaws.{turned, turned_nearer}
use Rattle.dsec_single.proofs.turn.turn.Goals as goal

pub advance-requires-clause-under_way : goal.advance-requires-clause-under_way
advance-requires-clause-under_way g c =
    on_under_way (world_in g.V.Verifier.accepts c.args.setting.now) (g.U.Upstream.table c.args.upstream.now) c.requires.on.0
    (record { held = g.C.Caches.held c.args.caches.now; lasting = g.C.Caches.lasting c.args.caches.now; asked = g.U.Upstream.asked c.args.upstream.now; faults = g.U.Upstream.faults c.args.upstream.now; heard = g.U.Upstream.heard c.args.upstream.now })
    (record { held = g.C.Caches.held c.answer_to.new.caches; lasting = g.C.Caches.lasting c.answer_to.new.caches; asked = g.U.Upstream.asked c.answer_to.new.upstream; faults = g.U.Upstream.faults c.answer_to.new.upstream; heard = g.U.Upstream.heard c.answer_to.new.upstream })
    c.requires.on.1 c.requires.on.2 c.args.walk.now (step_view c.args.step) c.requires.on.3 c.args.steps.now c.requires.on.4

pub advance-requires-clause-answers : goal.advance-requires-clause-answers
advance-requires-clause-answers g c =
    on_answers (world_in g.V.Verifier.accepts c.args.setting.now) (g.U.Upstream.table c.args.upstream.now) c.requires.on.0
    (record { held = g.C.Caches.held c.args.caches.now; lasting = g.C.Caches.lasting c.args.caches.now; asked = g.U.Upstream.asked c.args.upstream.now; faults = g.U.Upstream.faults c.args.upstream.now; heard = g.U.Upstream.heard c.args.upstream.now })
    (record { held = g.C.Caches.held c.answer_to.new.caches; lasting = g.C.Caches.lasting c.answer_to.new.caches; asked = g.U.Upstream.asked c.answer_to.new.upstream; faults = g.U.Upstream.faults c.answer_to.new.upstream; heard = g.U.Upstream.heard c.answer_to.new.upstream })
    c.requires.on.1 c.requires.on.2 c.args.walk.now (step_view c.args.step) c.requires.on.3 c.args.steps.now c.requires.on.4 (input_view c.in-Ok.input)
    c.in-Ok.ensures.served

pub returns-in-Ok-clause-comes : goal.returns-in-Ok-clause-comes
returns-in-Ok-clause-comes g c = λ before top target from on.
    turned (world_in g.V.Verifier.accepts c.args.setting.now) (g.U.Upstream.table c.args.upstream.now) before
    (record { held = g.C.Caches.held c.args.caches.now; lasting = g.C.Caches.lasting c.args.caches.now; asked = g.U.Upstream.asked c.args.upstream.now; faults = g.U.Upstream.faults c.args.upstream.now; heard = g.U.Upstream.heard c.args.upstream.now })
    (record { held = g.C.Caches.held c.answer_to.new.caches; lasting = g.C.Caches.lasting c.answer_to.new.caches; asked = g.U.Upstream.asked c.answer_to.new.upstream; faults = g.U.Upstream.faults c.answer_to.new.upstream; heard = g.U.Upstream.heard c.answer_to.new.upstream })
    top target c.args.walk.now c.advance.new.self (step_view c.args.step) (input_view c.in-Ok.input) from c.args.steps.now on c.in-Ok.ensures.served
    c.advance.new.steps c.advance.result c.advance.ensures.exact c.advance.ensures.bound

pub returns-in-Ok-clause-nearer : goal.returns-in-Ok-clause-nearer
returns-in-Ok-clause-nearer g c =
    turned_nearer (world_in g.V.Verifier.accepts c.args.setting.now) (g.U.Upstream.table c.args.upstream.now) c.requires.on.0
    (record { held = g.C.Caches.held c.args.caches.now; lasting = g.C.Caches.lasting c.args.caches.now; asked = g.U.Upstream.asked c.args.upstream.now; faults = g.U.Upstream.faults c.args.upstream.now; heard = g.U.Upstream.heard c.args.upstream.now })
    (record { held = g.C.Caches.held c.answer_to.new.caches; lasting = g.C.Caches.lasting c.answer_to.new.caches; asked = g.U.Upstream.asked c.answer_to.new.upstream; faults = g.U.Upstream.faults c.answer_to.new.upstream; heard = g.U.Upstream.heard c.answer_to.new.upstream })
    c.requires.on.1 c.requires.on.2 c.args.walk.now c.advance.new.self (step_view c.args.step) (input_view c.in-Ok.input) c.requires.on.3 c.args.steps.now
    c.requires.on.4 c.in-Ok.ensures.served c.advance.result c.advance.ensures.exact

pub returns-in-Err-clause-comes : goal.returns-in-Err-clause-comes
returns-in-Err-clause-comes g c = λ before top target from on.
    on_lost (world_in g.V.Verifier.accepts c.args.setting.now) (g.U.Upstream.table c.args.upstream.now) before
    (record { held = g.C.Caches.held c.args.caches.now; lasting = g.C.Caches.lasting c.args.caches.now; asked = g.U.Upstream.asked c.args.upstream.now; faults = g.U.Upstream.faults c.args.upstream.now; heard = g.U.Upstream.heard c.args.upstream.now })
    (record { held = g.C.Caches.held c.answer_to.new.caches; lasting = g.C.Caches.lasting c.answer_to.new.caches; asked = g.U.Upstream.asked c.answer_to.new.upstream; faults = g.U.Upstream.faults c.answer_to.new.upstream; heard = g.U.Upstream.heard c.answer_to.new.upstream })
    top target c.args.walk.now (step_view c.args.step) from c.args.steps.now on c.in-Err.ensures.asking c.in-Err.ensures.lost.0 c.in-Err.ensures.lost.1 c.in-Err.ensures.lost.2 c.in-Err.ensures.lost.3 c.in-Err.ensures.lost.4
