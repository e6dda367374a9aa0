use Rattle.std.proofs.lemmas.Result.{err_from_is_err_and}
use Rattle.dsec_rewrite.proofs.KeepingLaws.{answers_fail, authorities_fail, additionals_fail, all_kept}
use Rattle.dsec_rewrite.proofs.kept.read_kept.Goals as goal

pub returns-in_err-answers_end : goal.returns-in_err-answers_end
returns-in_err-answers_end c =
    let p = err_from_is_err_and c.from_residual-in_err-answers_end.result c.from_residual-in_err-answers_end.ensures.1 in
    rw (p.1, p.2) (answers_fail c.args.message.now c.header-header.result c.header-header.ensures c.in_err-answers_end.field-0.0 (c.in_ok-question.question, c.in_ok-question.at) c.in_ok-question.ensures
    (rw (← c.as_slice-octets.ensures.value, ← c.ancount.ensures) c.in_err-answers_end.ensures))

pub returns-in_err-authorities_end : goal.returns-in_err-authorities_end
returns-in_err-authorities_end c =
    let p = err_from_is_err_and c.from_residual-in_err-authorities_end.result c.from_residual-in_err-authorities_end.ensures.1 in
    rw (p.1, p.2) (authorities_fail c.args.message.now c.header-header.result c.header-header.ensures c.in_err-authorities_end.field-0.0 (c.in_ok-question.question, c.in_ok-question.at) c.in_ok-answers_end.answers_end c.in_ok-question.ensures
    (rw (← c.as_slice-octets.ensures.value, ← c.ancount.ensures) c.in_ok-answers_end.ensures)
    (rw (← c.as_slice-octets.ensures.value, ← c.nscount.ensures) c.in_err-authorities_end.ensures))

pub returns-in_err-additional : goal.returns-in_err-additional
returns-in_err-additional c =
    let p = err_from_is_err_and c.from_residual-in_err-additional.result c.from_residual-in_err-additional.ensures.1 in
    rw (p.1, p.2) (additionals_fail c.args.message.now c.header-header.result c.header-header.ensures c.in_err-additional.field-0.0 (c.in_ok-question.question, c.in_ok-question.at) c.in_ok-answers_end.answers_end c.in_ok-authorities_end.authorities_end c.in_ok-question.ensures
    (rw (← c.as_slice-octets.ensures.value, ← c.ancount.ensures) c.in_ok-answers_end.ensures)
    (rw (← c.as_slice-octets.ensures.value, ← c.nscount.ensures) c.in_ok-authorities_end.ensures)
    (rw (← c.as_slice-octets.ensures.value, ← c.arcount.ensures) c.in_err-additional.ensures))

pub returns : goal.returns
returns c =
    all_kept c.args.message.now c.header-header.result c.header-header.ensures (c.in_ok-question.question, c.in_ok-question.at) c.in_ok-answers_end.answers_end c.in_ok-authorities_end.authorities_end c.in_ok-additional.additional c.in_ok-question.ensures
    (rw (← c.as_slice-octets.ensures.value, ← c.ancount.ensures) c.in_ok-answers_end.ensures)
    (rw (← c.as_slice-octets.ensures.value, ← c.nscount.ensures) c.in_ok-authorities_end.ensures)
    (rw (← c.as_slice-octets.ensures.value, ← c.arcount.ensures) c.in_ok-additional.ensures)
