use Rattle.std.proofs.Common.{sym, ap, ◌∙◌}
use Rattle.dsec_node.specs.Views.{bounds_of, world_of}
use Rattle.dsec_nodes.specs.Aliases.{reached}
use Rattle.dsec_found.proofs.FoundSteps.{if_ok}
use Rattle.dsec_outcome.proofs.AnswerSteps.{bogus_end, final_end}
use Rattle.dsec_outcome.proofs.answer.at_end.Goals as goal

pub returns-in-Some : goal.returns-in-Some
returns-in-Some g c = λ now message e read told.
    let w = world_of g.V.Verifier.accepts c.args.anchors.now (bounds_of c.args.config.now) now in
    bogus_end w message c.args.question.now c.args.answers.now c.args.authorities.now c.args.end.now c.in-Some.cause c.bogus.result e (sym c.cause.ensures ∙ c.in-Some.is) c.bogus.ensures told

pub returns : goal.returns
returns g c =
    let question = c.args.question.now in
    let end = c.args.end.now in
    if_ok c.after_aliases.result (λ after h now message e read told.
    let w = world_of g.V.Verifier.accepts c.args.anchors.now (bounds_of c.args.config.now) now in
    final_end w message question c.args.answers.now c.args.authorities.now end c.in_ok-reached.reached c.in_ok-outcome.outcome after e (sym c.cause.ensures ∙ c.in_default.is)
    (c.in_ok-reached.ensures ∙ ap (reached question) c.name.ensures)
    (c.in_ok-outcome.ensures now message read) h told) c.after_aliases.ensures
