use Rattle.std.proofs.lemmas.Result.{err_from_is_err_and}
use Rattle.dsec_message.proofs.SectionReading.{answers_read, answers_fail}
use Rattle.dsec_message.proofs.sections.read_answers.Goals as goal

pub returns-in_err-answer : goal.returns-in_err-answer
returns-in_err-answer c =
    let p = err_from_is_err_and c.from_residual-in_err-answer.result c.from_residual-in_err-answer.ensures.1 in
    rw (p.1, p.2) (answers_fail c.args.message.now c.header_at.result (c.in_ok-question.question, c.in_ok-question.at) c.in_err-answer.field-0.0 c.header_at.ensures c.in_ok-question.ensures (rw (← c.ancount.ensures) c.in_err-answer.ensures))

pub returns : goal.returns
returns c = answers_read c.args.message.now c.header_at.result (c.in_ok-question.question, c.in_ok-question.at) (c.in_ok-answer.answer, c.in_ok-answer.at) c.header_at.ensures c.in_ok-question.ensures (rw (← c.ancount.ensures) c.in_ok-answer.ensures)
