use Rattle.std.proofs.lemmas.Result.{err_from_is_err_and}
use Rattle.dsec_spec.specs.Messages.{question_at}
use Rattle.dsec_wire.proofs.ManyLoop.{starts, goes_on, ends, is_done}
use Rattle.dsec_wire.proofs.reading.questions_at.Goals as goal

pub loop-init : goal.loop-init
loop-init c = rw c.new-items.ensures.items (starts (question_at c.args.message.now) c.args.count c.args.start)

pub returns-in_err-question : goal.returns-in_err-question
returns-in_err-question c =
    let p = err_from_is_err_and c.from_residual.result c.from_residual.ensures.1 in
    rw (p.1, p.2) (ends (question_at c.args.message.now) c.in_err-question.field-0.0 c.args.count c.loop.counter c.loop.at c.loop.items.items _ c.loop-test.true c.in_err-question.ensures c.loop.invariant)

pub loop-preserved : goal.loop-preserved
loop-preserved c =
    rw c.in_ok-push.ensures.items (goes_on (question_at c.args.message.now) c.args.count c.loop.counter c.loop.at c.loop.items.items c.in_ok-question.question c.in_ok-question.after _ c.loop-test.true c.in_ok-question.ensures c.loop.invariant)

pub returns : goal.returns
returns c = rw c.new.ensures (is_done (question_at c.args.message.now) c.args.count c.loop.counter c.loop.at c.loop.items.items _ c.loop-test.false c.loop.invariant)
