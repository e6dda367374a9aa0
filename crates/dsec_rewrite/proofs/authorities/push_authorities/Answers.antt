use Rattle.std.proofs.lemmas.Result.{err_from_is_err_and}
use Rattle.dsec_rewrite.specs.Views.{bounded_view}
use Rattle.dsec_rewrite.proofs.WritingLaws.{authorities_group_full}
use Rattle.dsec_rewrite.proofs.authorities.push_authorities.Goals as goal

pub returns-in_err-push_group-clause-full : goal.returns-in_err-push_group-clause-full
returns-in_err-push_group-clause-full c =
    let p = err_from_is_err_and c.from_residual.result c.from_residual.ensures.1 in
    rw (p.1, p.2)
    (λ e. authorities_group_full c.args.builder.now bounded_view c.args.groups.now c.loop-one.one-index c.one-item.result c.loop-one.builder
    c.loop-one.invariant c.loop-one-test.true c.one-item.is (c.in_err-push_group.ensures.full e))
