use Rattle.std.proofs.lemmas.Result.{err_from_is_err_and}
use Rattle.dsec_uses_signer.specs.Refusals.{unsigned}
use Rattle.dsec_uses_signer.proofs.signing.signed_zone.Goals as goal

pub returns-in_err-sign_whole-clause-why : goal.returns-in_err-sign_whole-clause-why
returns-in_err-sign_whole-clause-why c =
    let p = err_from_is_err_and c.from_residual-in_err-sign_whole.result c.from_residual-in_err-sign_whole.ensures.1 in
    rw (p.1, p.2) (unsigned c.in_ok-zone.zone c.in_ok-zone.ensures.says c.in_err-sign_whole.ensures.why)
