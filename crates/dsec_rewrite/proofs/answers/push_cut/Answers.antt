use Rattle.std.proofs.lemmas.Result.{err_from_is_err_and}
use Rattle.dsec_rewrite.specs.Cutting.{cut}
use Rattle.dsec_rewrite.proofs.WritingLaws.{answers_full}
use Rattle.dsec_rewrite.proofs.answers.push_cut.Goals as goal

pub returns-in_err-push-clause-full : goal.returns-in_err-push-clause-full
returns-in_err-push-clause-full c =
    let p = err_from_is_err_and c.from_residual-in_err-push.result c.from_residual-in_err-push.ensures.1 in
    rw (p.1, p.2)
    (λ e. answers_full c.args.builder.now c.loop-one.builder c.args.records.now c.loop-one.one-index c.one-item.result c.in_ok-copy.copy (cut c.args.group.now.adjust_ttl)
    c.loop-one.invariant c.loop-one-test.true c.one-item.is c.in_ok-copy.ensures (c.in_err-push.ensures.full.0 e))
