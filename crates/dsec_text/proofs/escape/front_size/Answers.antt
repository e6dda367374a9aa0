use Rattle.std.proofs.Common.{sym, ◌∙◌, arith}
use Rattle.dsec_text.proofs.FrontText.{size_step}
use Rattle.dsec_text.proofs.escape.front_size.Goals as goal

pub loop-taken-preserved : goal.loop-taken-preserved
loop-taken-preserved c = (
  size_step c.args.quoted c.args.text.now c.loop-taken.rest.now c.split_at.result.1.now (c.in-Some.field-0-0, c.in-Some.taken) c.loop-taken.size
      (sym c.in-Some.is ∙ c.octet.ensures.octet) c.split_at.ensures.back c.loop-taken.invariant.0,
  omega (arith, c.loop-taken.invariant.1, c.split_at.ensures.back_len, c.in-Some.ensures.within.1),
)
