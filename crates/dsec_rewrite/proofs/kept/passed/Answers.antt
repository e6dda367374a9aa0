use Rattle.std.proofs.Common.{ap, ◌++◌, ◌∷◌, []}
use Rattle.std.proofs.lemmas.Result.{err_from_is_err_and}
use Rattle.dsec_spec.specs.Messages.{record_at}
use Rattle.dsec_wire.proofs.ManyLoop.{starts, goes_on, ends, is_done}
use Rattle.dsec_rewrite.specs.Keeping.{place_of}
use Rattle.dsec_rewrite.proofs.KeepingLaws.{on_parse}
use Rattle.dsec_rewrite.proofs.kept.passed.Goals as goal

pub loop-init : goal.loop-init
loop-init c = ([], starts (record_at c.args.message.now) c.args.count c.args.start)

pub returns-in_err-_record : goal.returns-in_err-_record
returns-in_err-_record c =
    let p = err_from_is_err_and c.from_residual.result c.from_residual.ensures.1 in
    rw (p.1, p.2)
    (on_parse c.in_err-_record.field-0.0 _ _ (λ e. ap place_of e)
    (ends (record_at c.args.message.now) c.in_err-_record.field-0.0 c.args.count c.loop.counter c.loop.at c.loop.invariant.0 _ c.loop-test.true c.in_err-_record.ensures.exact c.loop.invariant.1))

pub loop-preserved : goal.loop-preserved
loop-preserved c = (
  c.loop.invariant.0 ++ c.in_ok-_record._record ∷ [],
  goes_on (record_at c.args.message.now) c.args.count c.loop.counter c.loop.at c.loop.invariant.0 c.in_ok-_record._record c.in_ok-_record.after _ c.loop-test.true c.in_ok-_record.ensures.exact c.loop.invariant.1,
)

pub returns : goal.returns
returns c = ap place_of (is_done (record_at c.args.message.now) c.args.count c.loop.counter c.loop.at c.loop.invariant.0 _ c.loop-test.false c.loop.invariant.1)
