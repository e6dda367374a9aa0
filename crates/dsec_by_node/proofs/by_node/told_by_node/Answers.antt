use Rattle.std.proofs.Common.{sym, subst, ◌∙◌}
use Rattle.std.specs.Arc.{arc_value}
use Rattle.dsec_nodes.specs.Nodes.{Kept}
use Rattle.dsec_node.specs.Views.{bounds_of, world_of}
use Rattle.dsec_by_node.proofs.GroundLaws.{judged_same, judged_found, judged_rests, judged_answers, judged_seconds, judged_can, judged_shown}
use Rattle.dsec_by_node.proofs.by_node.told_by_node.Goals as goal

pub by_judged-requires-clause-found : goal.by_judged-requires-clause-found
by_judged-requires-clause-found g c =
    judged_found g.V.Verifier.accepts (bounds_of c.args.config.now) c.args.now c.args.group.now (arc_value c.args.node.now) c.deref-2.result.now c.in_ok-judged.judged
    (λ anchors. judged_same (world_of g.V.Verifier.accepts anchors (bounds_of c.args.config.now) c.args.now) c.args.group.now c.in_ok-own.own (arc_value c.args.node.now)
    (arc_value c.in_ok-shared.shared) c.in_ok-judged.judged c.in_ok-own.ensures c.in_ok-shared.ensures (c.in_ok-judged.ensures.judged anchors)) c.deref-2.ensures

pub by_judged-requires-clause-rests : goal.by_judged-requires-clause-rests
by_judged-requires-clause-rests g c =
    judged_rests g.V.Verifier.accepts (bounds_of c.args.config.now) c.args.now c.args.group.now (arc_value c.args.node.now) c.deref-2.result.now c.in_ok-judged.judged
    (λ anchors. judged_same (world_of g.V.Verifier.accepts anchors (bounds_of c.args.config.now) c.args.now) c.args.group.now c.in_ok-own.own (arc_value c.args.node.now)
    (arc_value c.in_ok-shared.shared) c.in_ok-judged.judged c.in_ok-own.ensures c.in_ok-shared.ensures (c.in_ok-judged.ensures.judged anchors)) c.deref-2.ensures
    c.requires.has_records (subst (Kept g.V.Verifier.accepts) (c.deref.ensures ∙ sym c.deref-2.ensures) c.rely_on.ensures) c.requires.tells

pub returns-clause-answer : goal.returns-clause-answer
returns-clause-answer g c =
    judged_answers g.V.Verifier.accepts (bounds_of c.args.config.now) c.args.now c.args.group.now (arc_value c.args.node.now) c.deref-2.result.now c.in_ok-judged.judged
    (λ anchors. judged_same (world_of g.V.Verifier.accepts anchors (bounds_of c.args.config.now) c.args.now) c.args.group.now c.in_ok-own.own (arc_value c.args.node.now)
    (arc_value c.in_ok-shared.shared) c.in_ok-judged.judged c.in_ok-own.ensures c.in_ok-shared.ensures (c.in_ok-judged.ensures.judged anchors)) c.deref-2.ensures
    c.by_judged.result (λ it. it.told.answer) c.by_judged.ensures.answer

pub returns-clause-seconds : goal.returns-clause-seconds
returns-clause-seconds g c =
    judged_seconds g.V.Verifier.accepts (bounds_of c.args.config.now) c.args.now c.args.group.now (arc_value c.args.node.now) c.deref-2.result.now c.in_ok-judged.judged
    (λ anchors. judged_same (world_of g.V.Verifier.accepts anchors (bounds_of c.args.config.now) c.args.now) c.args.group.now c.in_ok-own.own (arc_value c.args.node.now)
    (arc_value c.in_ok-shared.shared) c.in_ok-judged.judged c.in_ok-own.ensures c.in_ok-shared.ensures (c.in_ok-judged.ensures.judged anchors)) c.deref-2.ensures
    c.by_judged.result (λ it. it.seconds) c.by_judged.ensures.seconds

pub returns-clause-sound : goal.returns-clause-sound
returns-clause-sound g c =
    judged_can g.V.Verifier.accepts (bounds_of c.args.config.now) c.args.now c.args.group.now (arc_value c.args.node.now) c.deref-2.result.now c.in_ok-judged.judged
    (λ anchors. judged_same (world_of g.V.Verifier.accepts anchors (bounds_of c.args.config.now) c.args.now) c.args.group.now c.in_ok-own.own (arc_value c.args.node.now)
    (arc_value c.in_ok-shared.shared) c.in_ok-judged.judged c.in_ok-own.ensures c.in_ok-shared.ensures (c.in_ok-judged.ensures.judged anchors)) c.deref-2.ensures
    c.by_judged.result (λ it. it.told) c.by_judged.ensures.sound

pub returns-clause-shown : goal.returns-clause-shown
returns-clause-shown g c =
    judged_shown g.V.Verifier.accepts (bounds_of c.args.config.now) c.args.now c.args.group.now (arc_value c.args.node.now) c.deref-2.result.now c.in_ok-judged.judged
    (λ anchors. judged_same (world_of g.V.Verifier.accepts anchors (bounds_of c.args.config.now) c.args.now) c.args.group.now c.in_ok-own.own (arc_value c.args.node.now)
    (arc_value c.in_ok-shared.shared) c.in_ok-judged.judged c.in_ok-own.ensures c.in_ok-shared.ensures (c.in_ok-judged.ensures.judged anchors)) c.deref-2.ensures
    c.by_judged.result (λ it. it.told) c.by_judged.ensures.shown
