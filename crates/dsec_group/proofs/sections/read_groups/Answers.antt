use Rattle.std.proofs.lemmas.Result.{err_from_is_err_and}
use Rattle.dsec_group.proofs.ReadingLaws.{no_questions, no_answers, no_authorities, groups_read}
use Rattle.dsec_group.proofs.sections.read_groups.Goals as goal

pub returns-in_err-question : goal.returns-in_err-question
returns-in_err-question c =
    let p = err_from_is_err_and c.from_residual.result c.from_residual.ensures.1 in
    rw (p.1, p.2) (no_questions c.args.message.now c.in_err-question.field-0.0 c.in_err-question.ensures)

pub returns-in_err-answer : goal.returns-in_err-answer
returns-in_err-answer c =
    let p = err_from_is_err_and c.from_residual-in_err-answer.result c.from_residual-in_err-answer.ensures.1 in
    rw (p.1, p.2) (no_answers c.args.message.now c.of_message-seed.result c.header-header.result (c.in_ok-question.question, c.in_ok-question.at) c.in_err-answer.field-0.0 c.header-header.ensures c.in_ok-question.ensures
    (rw (← c.as_slice-octets.ensures.value, ← c.ancount.ensures) c.in_err-answer.ensures))

pub returns-in_err-authority : goal.returns-in_err-authority
returns-in_err-authority c =
    let p = err_from_is_err_and c.from_residual-in_err-authority.result c.from_residual-in_err-authority.ensures.1 in
    rw (p.1, p.2) (no_authorities c.args.message.now c.of_message-seed.result c.header-header.result (c.in_ok-question.question, c.in_ok-question.at) (c.in_ok-answer.answer, c.in_ok-answer.at) c.in_err-authority.field-0.0
    c.header-header.ensures c.in_ok-question.ensures (rw (← c.as_slice-octets.ensures.value, ← c.ancount.ensures) c.in_ok-answer.ensures) (rw (← c.as_slice-octets.ensures.value, ← c.nscount.ensures) c.in_err-authority.ensures))

pub returns : goal.returns
returns c =
    groups_read c.args.message.now c.of_message-seed.result c.header-header.result (c.in_ok-question.question, c.in_ok-question.at) (c.in_ok-answer.answer, c.in_ok-answer.at) (c.in_ok-authority.authority, c.in_ok-authority.at)
    c.of_message-seed.ensures c.header-header.ensures c.in_ok-question.ensures (rw (← c.as_slice-octets.ensures.value, ← c.ancount.ensures) c.in_ok-answer.ensures) (rw (← c.as_slice-octets.ensures.value, ← c.nscount.ensures) c.in_ok-authority.ensures)
