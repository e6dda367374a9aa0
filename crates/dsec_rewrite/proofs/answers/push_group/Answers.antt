use Rattle.std.proofs.lemmas.Result.{err_from_is_err_and}
use Rattle.dsec_rewrite.specs.Views.{bounded_view}
use Rattle.dsec_rewrite.proofs.WritingLaws.{answers_signatures_full, answers_extra_full}
use Rattle.dsec_rewrite.proofs.answers.push_group.Goals as goal

pub returns-in_err-push_cut-2-clause-full : goal.returns-in_err-push_cut-2-clause-full
returns-in_err-push_cut-2-clause-full c =
    let p = err_from_is_err_and c.from_residual-in_err-push_cut-2.result c.from_residual-in_err-push_cut-2.ensures.1 in
    rw (p.1, p.2)
    (λ e. answers_signatures_full c.args.builder.now c.push_cut.new.builder (bounded_view c.args.one.now) c.rr_set.result.now c.sig_set.result.now
    c.rr_set.ensures.records c.sig_set.ensures.signatures c.in_ok-push_cut.ensures.ok (c.in_err-push_cut-2.ensures.full e))

pub returns-clause-full : goal.returns-clause-full
returns-clause-full c =
    λ e. answers_extra_full c.args.builder.now c.push_cut.new.builder c.push_cut-2.new.builder (bounded_view c.args.one.now) c.rr_set.result.now c.sig_set.result.now c.extra_set.result.now
    c.rr_set.ensures.records c.sig_set.ensures.signatures c.extra_set.ensures c.in_ok-push_cut.ensures.ok c.in_ok-push_cut-2.ensures.ok (c.push_cut-3.ensures.full e)
