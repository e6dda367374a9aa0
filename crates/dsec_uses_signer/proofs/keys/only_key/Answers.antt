use Rattle.std.proofs.Common.{◌≡◌, ◌<◌, get_or, length, rules}
use Rattle.std.proofs.lemmas.Result.{err_from_is_err_and}
use Rattle.dsec_uses_signer.proofs.RefusalLaws.{several_here}
use Rattle.dsec_uses_signer.proofs.keys.only_key.Goals as goal

pub returns-in_err-own-clause-why : goal.returns-in_err-own-clause-why
returns-in_err-own-clause-why c =
    let p = err_from_is_err_and c.from_residual.result c.from_residual.ensures.1 in
    let several = c.in_err-own.ensures.several in
    let inside : c.loop-one.one-index < length c.args.records.now = search rules in
    let here : c.one-item.result ≡ get_or c.args.records.now c.loop-one.one-index c.one-item.result = search rules in
    rw (p.1, p.2, several.0) (several_here c.args.records.now c.loop-one.one-index _ c.one-item.result inside here c.loop-one.invariant several.1)
