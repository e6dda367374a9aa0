use Rattle.dsec_uses_steps.specs.Going.{Scene}
use Rattle.dsec_uses_steps.proofs.GoingLaws.{unanswered}
use Rattle.dsec_uses_steps.proofs.step_on.Goals as goal

pub returns-clause-breaks : goal.returns-clause-breaks
returns-clause-breaks g c =
    let before : Scene = record { message = c.args.validation.now; around = record { held = g.C.Caches.held c.args.caches.now; lasting = g.C.Caches.lasting c.args.caches.now; written = g.K.Sink.written c.args.sink.now; faults = g.K.Sink.faults c.args.sink.now; checked = c.args.steps.now } } in
    let after : Scene = record { message = c.advance.new.self; around = record { held = g.C.Caches.held c.at_hand.new.caches; lasting = g.C.Caches.lasting c.at_hand.new.caches; written = g.K.Sink.written c.at_hand.new.sink; faults = g.K.Sink.faults c.at_hand.new.sink; checked = c.advance.new.steps } } in
    unanswered c.at_hand.result c.args.index before after c.args.input c.in_ok-step.step c.in_ok-step.ensures.exact c.at_hand.ensures.front c.advance.ensures.same c.advance.ensures.bound
    c.at_hand.ensures.err c.at_hand.ensures.counts_once
