use Rattle.std.proofs.Common.{◌∙◌, sym}
use Rattle.dsec_sorted.specs.BlockViews.{block_view}
use Rattle.dsec_sorted.proofs.Blocks.{goes_on, at_end, at_break}
use Rattle.dsec_sorted.proofs.reading.RtypeBitmap.contains.Goals as goal

pub loop-block-preserved : goal.loop-block-preserved
loop-block-preserved c =
    c.loop-block.invariant
    ∙ goes_on c.loop-block.found c.has-here.result c.loop-block.rest.now c.to_int-number.result (block_view c.in-Some.block) c.in-Some.next.now (sym c.in-Some.ensures.exact) c.has-here.ensures

pub returns-then-is_empty : goal.returns-then-is_empty
returns-then-is_empty c =
    rw (← c.to_int-number.ensures)
    (at_end c.loop-block.found c.is_empty.result c.loop-block.rest.now c.args.self.now.octets.now c.to_int-number.result c.loop-block.invariant (sym c.in_default.ensures.exact) c.is_empty.ensures c.if-is_empty.true)

pub returns-else-is_empty : goal.returns-else-is_empty
returns-else-is_empty c =
    rw (← c.to_int-number.ensures)
    (at_break c.loop-block.found c.is_empty.result c.loop-block.rest.now c.args.self.now.octets.now c.to_int-number.result c.loop-block.invariant (sym c.in_default.ensures.exact) c.is_empty.ensures c.if-is_empty.false)
