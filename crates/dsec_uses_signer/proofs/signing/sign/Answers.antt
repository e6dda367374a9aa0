use Rattle.std.proofs.Common.{rules}
use Rattle.std.proofs.lemmas.Result.{err_from_is_err_and}
use Rattle.dsec_rrsig.specs.Signers.{signer_of}
use Rattle.dsec_uses_signer.proofs.RefusalLaws.{zone_refused}
use Rattle.dsec_uses_signer.proofs.signing.sign.Goals as goal

pub returns-in_err-sign_zone-clause-why : goal.returns-in_err-sign_zone-clause-why
returns-in_err-sign_zone-clause-why c =
    let p = err_from_is_err_and c.from_residual.result c.from_residual.ensures.1 in
    rw (p.1, p.2) (zone_refused c.args.config.now _ (signer_of (λ device. device.key) c.args.key.now) _ c.args.apex.now c.args.zone.now c.sign_zone.new.self c.in_err-sign_zone.field-0.0
    (search rules) c.in_err-sign_zone.ensures.why)
