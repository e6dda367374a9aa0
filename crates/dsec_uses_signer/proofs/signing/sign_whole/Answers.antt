use Rattle.std.proofs.Common.{rules}
use Rattle.std.proofs.lemmas.Result.{err_from_is_err_and}
use Rattle.dsec_rrsig.specs.Signers.{signer_of}
use Rattle.dsec_uses_signer.specs.Whole.{IsOwnKey}
use Rattle.dsec_uses_signer.proofs.RefusalLaws.{for_its_key_set, for_its_sets}
use Rattle.dsec_uses_signer.proofs.WholeLaws.{signed_whole}
use Rattle.dsec_uses_signer.proofs.signing.sign_whole.Goals as goal

pub returns-clause-signed : goal.returns-clause-signed
returns-clause-signed c =
    let is_own : IsOwnKey c.args.zone.now c.in_ok-record.record (signer_of (λ device. device.key) c.in_ok-record.key) =
    rw (← c.in_ok-record.record-is, ← c.in_ok-record.key-is) (rw c.as_slice.ensures.value at c.in_ok-record.ensures.own) in
    signed_whole c.args.zone.now c.sign.new.zone c.sign_key.new.zone c.in_ok-record.record (signer_of (λ device. device.key) c.in_ok-record.key) (signer_of (λ device. device.key) c.sign.new.key)
    c.new-config.result c.owner.result.now is_own (search rules) (search rules) (search rules) (search rules) (search rules) (search rules) (search rules)

pub returns-in_err-sign-clause-why : goal.returns-in_err-sign-clause-why
returns-in_err-sign-clause-why c =
    let p = err_from_is_err_and c.from_residual-in_err-sign.result c.from_residual-in_err-sign.ensures.1 in
    let is_own : IsOwnKey c.args.zone.now c.in_ok-record.field-0.record (signer_of (λ device. device.key) c.in_ok-record.field-0.key) =
    rw c.as_slice.ensures.value at c.in_ok-record.ensures.own in
    rw (p.1, p.2) (for_its_sets c.args.zone.now c.sign.new.zone c.in_ok-record.field-0.record (signer_of (λ device. device.key) c.in_ok-record.field-0.key) c.new-config.result c.owner.result.now
    c.in_err-sign.field-0.0 is_own (search rules) (search rules) (search rules) (search rules) c.in_err-sign.ensures.why)

pub returns-in_err-sign_key-clause-why : goal.returns-in_err-sign_key-clause-why
returns-in_err-sign_key-clause-why c =
    let p = err_from_is_err_and c.from_residual-in_err-sign_key.result c.from_residual-in_err-sign_key.ensures.1 in
    let is_own : IsOwnKey c.args.zone.now c.in_ok-record.field-0.record (signer_of (λ device. device.key) c.in_ok-record.field-0.key) =
    rw c.as_slice.ensures.value at c.in_ok-record.ensures.own in
    rw (p.1, p.2) (for_its_key_set c.args.zone.now c.in_ok-record.field-0.record (signer_of (λ device. device.key) c.in_ok-record.field-0.key) c.new-config.result
    c.in_err-sign_key.field-0.0 is_own (search rules) (search rules) (search rules) c.in_err-sign_key.ensures.why)
