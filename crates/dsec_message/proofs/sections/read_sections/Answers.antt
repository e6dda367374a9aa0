use Rattle.std.proofs.lemmas.Result.{err_from_is_err_and}
use Rattle.dsec_message.proofs.SectionReading.{sections_read, sections_fail}
use Rattle.dsec_message.proofs.sections.read_sections.Goals as goal

pub returns-in_err-authority : goal.returns-in_err-authority
returns-in_err-authority c =
    let p = err_from_is_err_and c.from_residual-in_err-authority.result c.from_residual-in_err-authority.ensures.1 in
    rw (p.1, p.2) (sections_fail c.args.message.now c.header_at.result (c.in_ok-question.question, c.in_ok-question.answer, c.in_ok-question.at) c.in_err-authority.field-0.0 c.header_at.ensures c.in_ok-question.ensures (rw (← c.nscount.ensures) c.in_err-authority.ensures))

pub returns : goal.returns
returns c =
    sections_read c.args.message.now c.header_at.result (c.in_ok-question.question, c.in_ok-question.answer, c.in_ok-question.at) (c.in_ok-authority.authority, c.in_ok-authority.at)
    c.header_at.ensures c.in_ok-question.ensures (rw (← c.nscount.ensures) c.in_ok-authority.ensures)
