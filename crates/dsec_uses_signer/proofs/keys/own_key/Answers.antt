use Rattle.std.proofs.Common.{◌≡◌, ◌∙◌, Some, false, true, ap, subst}
use Rattle.std.specs.Option.{IsSome}
use Rattle.std.proofs.lemmas.Result.{err_from_is_err_and}
use Rattle.dsec_spec.specs.Numbers.{DNSKEY}
use Rattle.dsec_spec.specs.Records.{key_of}
use Rattle.dsec_wire.specs.Views.{dnskey_in, key_view}
use Rattle.dsec_uses_signer.proofs.RefusalLaws.{key_in, only_refused, own_is_key}
use Rattle.dsec_uses_signer.proofs.keys.own_key.Goals as goal

pub returns-in_default-clause-why : goal.returns-in_default-clause-why
returns-in_default-clause-why c =
    let key : c.in_ok-own.own.now.rtype ≡ DNSKEY = own_is_key c.args.records.now c.in_ok-own.own.now c.in_ok-own.ensures.only in
    let some = c.dnskey.ensures.found.1 (ap (λ d. d.rtype) c.rdata.ensures.value ∙ key) in
    absurd (let clash : false ≡ true = subst (λ o. IsSome o) c.in_default.is some in cc)

pub returns-in_err-key-clause-why : goal.returns-in_err-key-clause-why
returns-in_err-key-clause-why c =
    let p = err_from_is_err_and c.from_residual-in_err-key.result c.from_residual-in_err-key.ensures.1 in
    let key : c.in_ok-own.own.now.rtype ≡ DNSKEY = own_is_key c.args.records.now c.in_ok-own.own.now c.in_ok-own.ensures.only in
    let is : key_of c.in_ok-own.own.now.rdata ≡ Some (key_view c.in-Some.dnskey) =
    key_in c.in_ok-own.own.now.rdata c.in_ok-own.own.now.rtype (key_view c.in-Some.dnskey) key (c.in-Some.ensures.value ∙ ap dnskey_in c.rdata.ensures.value) in
    rw (p.1, p.2) (only_refused c.args.records.now c.in_ok-own.own.now (key_view c.in-Some.dnskey) c.in_err-key.field-0.0 c.in_ok-own.ensures.only is c.in_err-key.ensures.why)
