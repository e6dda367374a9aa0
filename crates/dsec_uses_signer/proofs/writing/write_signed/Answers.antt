use Rattle.std.proofs.Common.{rules, inr}
use Rattle.std.proofs.lemmas.Result.{err_from_is_err_and}
use Rattle.dsec_uses_signer.proofs.RefusalLaws.{kept_same, unwritten}
use Rattle.dsec_uses_signer.proofs.writing.write_signed.Goals as goal

pub returns-clause-failed : goal.returns-clause-failed
returns-clause-failed g c = inr (inr (search rules))

pub returns-in_err-zone-clause-why : goal.returns-in_err-zone-clause-why
returns-in_err-zone-clause-why g c =
    let p = err_from_is_err_and c.from_residual.result c.from_residual.ensures.1 in
    rw (p.1, p.2) (unwritten c.args.text.now (g.K.Sink.faults c.args.sink.now) (g.K.Sink.written c.args.sink.now) c.in_err-zone.field-0.0 c.in_err-zone.ensures.why
    (kept_same (g.K.Sink.written c.args.sink.now)))
