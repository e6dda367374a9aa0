use Rattle.std.proofs.lemmas.Result.{err_from_is_err_and}
use Rattle.dsec_message.proofs.SectionReading.{additionals_refused, additionals_fail, additionals_read}
use Rattle.dsec_message.proofs.message.Message.additional.Goals as goal

pub returns-in_err-at : goal.returns-in_err-at
returns-in_err-at c =
    let p = err_from_is_err_and c.from_residual.result c.from_residual.ensures.1 in
    rw (p.1, p.2) (additionals_refused c.args.self.now c.header_at.result c.in_err-at.field-0.0 (rw (← c.as_slice-message.ensures.value) c.header_at.ensures) (rw (← c.as_slice-message.ensures.value) c.in_err-at.ensures))

pub returns-in_err-additional : goal.returns-in_err-additional
returns-in_err-additional c =
    let p = err_from_is_err_and c.from_residual-in_err-additional.result c.from_residual-in_err-additional.ensures.1 in
    rw (p.1, p.2) (additionals_fail c.args.self.now c.header_at.result (c.in_ok-at.field-0-0, c.in_ok-at.at) c.in_err-additional.field-0.0 (rw (← c.as_slice-message.ensures.value) c.header_at.ensures) (rw (← c.as_slice-message.ensures.value) c.in_ok-at.ensures)
    (rw (← c.as_slice-message.ensures.value, ← c.arcount-count.ensures) c.in_err-additional.ensures))

pub returns : goal.returns
returns c =
    additionals_read c.args.self.now c.header_at.result (c.in_ok-at.field-0-0, c.in_ok-at.at) (c.in_ok-additional.additional, c.in_ok-additional.field-0-1) (rw (← c.as_slice-message.ensures.value) c.header_at.ensures) (rw (← c.as_slice-message.ensures.value) c.in_ok-at.ensures)
    (rw (← c.as_slice-message.ensures.value, ← c.arcount-count.ensures) c.in_ok-additional.ensures)
