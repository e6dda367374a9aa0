use Rattle.std.proofs.lemmas.Result.{err_from_is_err_and}
use Rattle.dsec_message.proofs.SectionReading.{answers_refused}
use Rattle.dsec_message.proofs.message.Message.answer.Goals as goal

pub returns-in_err-answer : goal.returns-in_err-answer
returns-in_err-answer c =
    let p = err_from_is_err_and c.from_residual.result c.from_residual.ensures.1 in
    rw (p.1, p.2) (answers_refused c.args.self.now c.in_err-answer.field-0.0 (rw (← c.as_slice.ensures.value) c.in_err-answer.ensures))
