use Rattle.std.proofs.Common.{ap}
use Rattle.std.proofs.lemmas.Result.{err_from_is_err_and}
use Rattle.dsec_spec.specs.Messages.{record_at}
use Rattle.dsec_wire.proofs.ManyLoop.{starts, goes_on, ends, is_done}
use Rattle.dsec_message.specs.MessageSections.{items_of}
use Rattle.dsec_rewrite.proofs.KeepingLaws.{on_parse}
use Rattle.dsec_rewrite.proofs.kept.records_at.Goals as goal

pub loop-init : goal.loop-init
loop-init c = rw c.new-items.ensures.items (starts (record_at c.args.message.now) c.args.count c.args.start)

pub returns-in_err-record : goal.returns-in_err-record
returns-in_err-record c =
    let p = err_from_is_err_and c.from_residual.result c.from_residual.ensures.1 in
    rw (p.1, p.2)
    (on_parse c.in_err-record.field-0.0 _ _ (λ e. ap items_of e)
    (ends (record_at c.args.message.now) c.in_err-record.field-0.0 c.args.count c.loop.counter c.loop.at c.loop.items.items _ c.loop-test.true c.in_err-record.ensures.exact c.loop.invariant))

pub loop-preserved : goal.loop-preserved
loop-preserved c =
    rw c.in_ok-push.ensures.items (goes_on (record_at c.args.message.now) c.args.count c.loop.counter c.loop.at c.loop.items.items c.in_ok-record.record c.in_ok-record.after _ c.loop-test.true c.in_ok-record.ensures.exact c.loop.invariant)

pub returns : goal.returns
returns c = rw c.new.ensures (ap items_of (is_done (record_at c.args.message.now) c.args.count c.loop.counter c.loop.at c.loop.items.items _ c.loop-test.false c.loop.invariant))
