use Rattle.dsec_node.specs.Views.{bounds_of, world_of}
use Rattle.dsec_outcome.proofs.AnswerSteps.{one_question}
use Rattle.dsec_outcome.proofs.answer.on_questions.Goals as goal

pub returns : goal.returns
returns g c = λ now message read.
    let w = world_of g.V.Verifier.accepts c.args.anchors.now (bounds_of c.args.config.now) now in
    one_question w c.args.most message c.args.questions.now c.index-questions-0.result c.args.answers.now c.args.authorities.now c.in_ok-on_question.field-0 c.if-questions-ne1.false c.index-questions-0.is
    (c.in_ok-on_question.ensures now message read)
