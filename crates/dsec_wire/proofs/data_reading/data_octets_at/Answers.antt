use Rattle.std.proofs.Common.{◌∙◌, ◌≤◌, length, sym, rules}
use Rattle.std.proofs.lemmas.Result.{err_from_is_err_and}
use Rattle.dsec_wire.proofs.FieldLoops.{data_fails, pushed_step, pushed_end, pushed_not_end, data_none, data_too_long, data_read}
use Rattle.dsec_wire.proofs.data_reading.data_octets_at.Goals as goal
use Rattle.dsec_wire.proofs.data_reading.data_octets_at.Goals.{then-at-end-via-then-at-end, then-at-end-via-else-at-end+then-len-gt-MAX_DATA}

pub returns-in_err-at : goal.returns-in_err-at
returns-in_err-at c =
    let p = err_from_is_err_and c.from_residual-in_err-at.result c.from_residual-in_err-at.ensures.1 in
    rw (p.1, p.2) (data_fails c.in_err-at.field-0.0 c.layout-fields.result.now c.args.rtype c.loop-field.field-index _ c.args.message.now c.args.start c.loop-field.at c.args.end c.loop-field.out.items c.loop-field-test.true c.in_err-at.ensures.exact c.loop-field.invariant.0)

pub loop-field-preserved : goal.loop-field-preserved
loop-field-preserved c = (
  pushed_step c.layout-fields.result.now c.loop-field.field-index _ c.args.message.now c.loop-field.at c.args.end c.in_ok-at.at c.loop-field.out.items c.push_part.new.out.items c.loop-field-test.true c.in_ok-at.ensures.exact ∙ c.loop-field.invariant.0,
  c.in_ok-at.ensures.within,
)

pub returns-then-at-end : goal.returns-then-at-end
returns-then-at-end c =
    elim c.then-at-end.branch [
      | then-at-end-via-then-at-end w ↦ data_none c.args.rtype c.args.message.now c.args.start c.args.end (sym c.loop-field.invariant.0 ∙ pushed_not_end c.layout-fields.result.now c.loop-field.field-index c.args.message.now c.loop-field.at c.args.end c.loop-field.out.items c.loop-field-test.false w.if-at-end.true)
      | then-at-end-via-else-at-end+then-len-gt-MAX_DATA w ↦
          data_too_long c.args.rtype c.args.message.now c.args.start c.args.end c.loop-field.out.items (sym c.loop-field.invariant.0 ∙ pushed_end c.layout-fields.result.now c.loop-field.field-index c.args.message.now c.loop-field.at c.args.end c.loop-field.out.items c.loop-field-test.false w.if-at-end.false) (search rules)
    ]

pub returns : goal.returns
returns c =
    let short : length c.loop-field.out.items ≤ 65535 = search rules in
    data_read c.args.rtype c.args.message.now c.args.start c.args.end c.loop-field.out.items (sym c.loop-field.invariant.0 ∙ pushed_end c.layout-fields.result.now c.loop-field.field-index c.args.message.now c.loop-field.at c.args.end c.loop-field.out.items c.loop-field-test.false c.if-at-end.false) short
