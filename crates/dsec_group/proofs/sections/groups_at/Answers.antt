use Rattle.std.proofs.Common.{◌∙◌, ◌++◌, ◌∷◌, []}
use Rattle.std.proofs.lemmas.Result.{err_from_is_err_and}
use Rattle.dsec_spec.specs.Messages.{record_at}
use Rattle.dsec_wire.proofs.ManyLoop.{starts, goes_on, ends, is_done}
use Rattle.dsec_group.proofs.ReadingLaws.{some_in_groups, none_in_groups}
use Rattle.dsec_group.proofs.sections.groups_at.Goals as goal

pub loop-init : goal.loop-init
loop-init c = ([], c.with_seed-groups.ensures.groups, c.with_seed-groups.ensures.seed, starts (record_at c.args.message.now) c.args.count c.args.start)

pub returns-in_err-record : goal.returns-in_err-record
returns-in_err-record c =
    let p = err_from_is_err_and c.from_residual.result c.from_residual.ensures.1 in
    rw (p.1, p.2)
    (none_in_groups c.args.seed c.in_err-record.field-0.0 _
    (ends (record_at c.args.message.now) c.in_err-record.field-0.0 c.args.count c.loop.counter c.loop.at c.loop.invariant.0 _ c.loop-test.true c.in_err-record.ensures.exact c.loop.invariant.3))

pub loop-preserved : goal.loop-preserved
loop-preserved c =
    let front = c.loop.invariant.0 in (
      front ++ c.in_ok-record.record ∷ [],
      c.in_ok-add.ensures.section front c.loop.invariant.1,
      c.add.ensures.seed ∙ c.loop.invariant.2,
      goes_on (record_at c.args.message.now) c.args.count c.loop.counter c.loop.at front c.in_ok-record.record c.in_ok-record.after _ c.loop-test.true c.in_ok-record.ensures.exact c.loop.invariant.3,
    )

pub returns : goal.returns
returns c =
    some_in_groups c.args.seed _ c.loop.invariant.0 c.loop.at _ (c.settle.ensures.groups ∙ c.loop.invariant.1) (c.settle.ensures.seed ∙ c.loop.invariant.2)
    (is_done (record_at c.args.message.now) c.args.count c.loop.counter c.loop.at c.loop.invariant.0 _ c.loop-test.false c.loop.invariant.3)
