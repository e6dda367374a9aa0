use Rattle.std.proofs.Common.{sym, ◌∙◌}
use Rattle.dsec_bind.specs.Lines.{is_end}
use Rattle.dsec_spec.proofs.CutLaws.{cut_found, cut_none, cut_on}
use Rattle.dsec_bind.proofs.line.cut.Goals as goal

pub returns-then-is_end : goal.returns-then-is_end
returns-then-is_end c = rw (c.split_at.ensures.front, c.split_at.ensures.back) (cut_found (is_end c.args.until) c.loop-at.at c.args.octets.now c.loop-at-test.true (sym c.is_end.ensures ∙ c.if-is_end.true) c.loop-at.invariant)

pub loop-at-preserved : goal.loop-at-preserved
loop-at-preserved c = cut_on (is_end c.args.until) c.loop-at.at c.args.octets.now c.loop-at-test.true (sym c.is_end.ensures ∙ c.if-is_end.false) c.loop-at.invariant

pub returns : goal.returns
returns c = cut_none (is_end c.args.until) c.loop-at.at c.args.octets.now c.loop-at-test.false c.loop-at.invariant
