use Rattle.std.proofs.lemmas.Result.{err_from_is_err_and}
use Rattle.dsec_rewrite.proofs.WritingLaws.{additionals_full}
use Rattle.dsec_rewrite.proofs.writing.push_additionals.Goals as goal

pub returns-in_err-push-clause-full : goal.returns-in_err-push-clause-full
returns-in_err-push-clause-full c =
    let p = err_from_is_err_and c.from_residual.result c.from_residual.ensures.1 in
    rw (p.1, p.2)
    (λ e. additionals_full c.args.builder.now c.loop-one.builder c.args.additionals.now c.loop-one.one-index c.one-item.result
    c.loop-one.invariant c.loop-one-test.true c.one-item.is (c.in_err-push.ensures.full.0 e))
