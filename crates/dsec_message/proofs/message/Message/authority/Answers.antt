use Rattle.std.proofs.lemmas.Result.{err_from_is_err_and}
use Rattle.dsec_message.proofs.SectionReading.{authorities_refused}
use Rattle.dsec_message.proofs.message.Message.authority.Goals as goal

pub returns-in_err-sections : goal.returns-in_err-sections
returns-in_err-sections c =
    let p = err_from_is_err_and c.from_residual.result c.from_residual.ensures.1 in
    rw (p.1, p.2) (authorities_refused c.args.self.now c.in_err-sections.field-0.0 (rw (← c.as_slice.ensures.value) c.in_err-sections.ensures))
