use Rattle.std.proofs.Common.{[], sym, ap, ◌∙◌}
use Rattle.std.proofs.lemmas.Bool.{false≢true}
use Rattle.std.specs.Arc.{arc_value}
use Rattle.dsec_node.specs.Views.{bounds_of, world_of}
use Rattle.dsec_by_node.specs.Answers.{Told}
use Rattle.dsec_by_node.specs.WithNode.{tells_of}
use Rattle.dsec_by_node.proofs.GroundLaws.{answer_told, seconds_told, answer_untold, seconds_untold, not_elsewhere}
use Rattle.dsec_by_node.proofs.by_node.validate_with_node_in_steps.Goals as goal

pub told_by_node-requires-clause-tells : goal.told_by_node-requires-clause-tells
told_by_node-requires-clause-tells g c =
    (ap (tells_of (world_of g.V.Verifier.accepts [] (bounds_of c.args.config.now) c.args.now) c.args.group.now) (sym c.deref.ensures)
    ∙ (sym (c.tells_of.ensures (bounds_of c.args.config.now)) ∙ c.if-tells_of.true))

pub returns-then-tells_of-clause-answer : goal.returns-then-tells_of-clause-answer
returns-then-tells_of-clause-answer g c =
    answer_told g.V.Verifier.accepts (bounds_of c.args.config.now) c.args.now c.args.group.now (arc_value c.args.node.now) c.told_by_node.result
    (ap (tells_of (world_of g.V.Verifier.accepts [] (bounds_of c.args.config.now) c.args.now) c.args.group.now) (sym c.deref.ensures)
    ∙ (sym (c.tells_of.ensures (bounds_of c.args.config.now)) ∙ c.if-tells_of.true))
    (λ it. it.told.answer) c.told_by_node.ensures.answer

pub returns-then-tells_of-clause-seconds : goal.returns-then-tells_of-clause-seconds
returns-then-tells_of-clause-seconds g c =
    seconds_told g.V.Verifier.accepts (bounds_of c.args.config.now) c.args.now c.args.group.now (arc_value c.args.node.now) c.told_by_node.result
    (ap (tells_of (world_of g.V.Verifier.accepts [] (bounds_of c.args.config.now) c.args.now) c.args.group.now) (sym c.deref.ensures)
    ∙ (sym (c.tells_of.ensures (bounds_of c.args.config.now)) ∙ c.if-tells_of.true))
    (λ it. it.seconds) c.told_by_node.ensures.seconds

pub returns-then-tells_of-clause-elsewhere : goal.returns-then-tells_of-clause-elsewhere
returns-then-tells_of-clause-elsewhere g c = λ elsewhere. absurd (not_elsewhere g.V.Verifier.accepts (bounds_of c.args.config.now) c.args.now c.args.group.now (arc_value c.args.node.now)
    (ap (tells_of (world_of g.V.Verifier.accepts [] (bounds_of c.args.config.now) c.args.now) c.args.group.now) (sym c.deref.ensures)
    ∙ (sym (c.tells_of.ensures (bounds_of c.args.config.now)) ∙ c.if-tells_of.true)) elsewhere)

pub returns-then-tells_of-clause-idle : goal.returns-then-tells_of-clause-idle
returns-then-tells_of-clause-idle g c = λ idle. absurd (false≢true (sym idle
    ∙ (ap (tells_of (world_of g.V.Verifier.accepts [] (bounds_of c.args.config.now) c.args.now) c.args.group.now) (sym c.deref.ensures)
    ∙ (sym (c.tells_of.ensures (bounds_of c.args.config.now)) ∙ c.if-tells_of.true))))

pub returns-else-tells_of-clause-answer : goal.returns-else-tells_of-clause-answer
returns-else-tells_of-clause-answer g c = ap (λ (it : Told). it.answer) c.unsecured.ensures ∙ answer_untold g.V.Verifier.accepts (bounds_of c.args.config.now) c.args.now c.args.group.now (arc_value c.args.node.now)
    (ap (tells_of (world_of g.V.Verifier.accepts [] (bounds_of c.args.config.now) c.args.now) c.args.group.now) (sym c.deref.ensures)
    ∙ (sym (c.tells_of.ensures (bounds_of c.args.config.now)) ∙ c.if-tells_of.false))

pub returns-else-tells_of-clause-seconds : goal.returns-else-tells_of-clause-seconds
returns-else-tells_of-clause-seconds g c = seconds_untold g.V.Verifier.accepts (bounds_of c.args.config.now) c.args.now c.args.group.now (arc_value c.args.node.now)
    (ap (tells_of (world_of g.V.Verifier.accepts [] (bounds_of c.args.config.now) c.args.now) c.args.group.now) (sym c.deref.ensures)
    ∙ (sym (c.tells_of.ensures (bounds_of c.args.config.now)) ∙ c.if-tells_of.false))
