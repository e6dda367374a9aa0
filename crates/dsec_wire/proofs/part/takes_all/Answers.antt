use Rattle.std.proofs.Common.{◌∙◌, sym}
use Rattle.dsec_wire.proofs.FieldLoops.{takes_step, takes_none, takes_end}
use Rattle.dsec_wire.proofs.part.takes_all.Goals as goal

pub returns-in_default : goal.returns-in_default
returns-in_default c =
    sym (sym c.loop-field.invariant ∙ takes_none c.args.fields.now c.loop-field.field-index _ c.loop-field.rest.now c.loop-field-test.true (sym c.part_size.ensures.exact ∙ c.in_default.is))

pub loop-field-preserved : goal.loop-field-preserved
loop-field-preserved c =
    rw c.split_at.ensures.back (takes_step c.args.fields.now c.loop-field.field-index _ c.loop-field.rest.now c.in-Some.size c.loop-field-test.true (sym c.part_size.ensures.exact ∙ c.in-Some.is) ∙ c.loop-field.invariant)

pub returns : goal.returns
returns c = c.is_empty.ensures ∙ (sym (takes_end c.args.fields.now c.loop-field.field-index c.loop-field.rest.now c.loop-field-test.false) ∙ c.loop-field.invariant)
