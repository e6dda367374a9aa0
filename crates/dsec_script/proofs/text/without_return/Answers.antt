use Rattle.std.proofs.Common.{◌-◌, length, arith}
use Rattle.std.proofs.lemmas.Bool.{eq-eqb, ne_eqb}
use Rattle.dsec_script.proofs.TextLemmas.{no_octet, no_return, return_dropped}
use Rattle.dsec_script.proofs.text.without_return.Goals as goal

pub returns-then-length-eq0 : goal.returns-then-length-eq0
returns-then-length-eq0 c = no_octet c.args.line.now (omega (arith, c.if-length-eq0.true))

pub returns-then-line-length-ne13 : goal.returns-then-line-length-ne13
returns-then-line-length-ne13 c = no_return c.args.line.now (length c.args.line.now - 1) (omega (arith, c.if-length-eq0.false)) (ne_eqb _ _ c.if-line-length-ne13.true)

pub returns : goal.returns
returns c = return_dropped c.args.line.now (length c.args.line.now - 1) (omega (arith, c.if-length-eq0.false)) (eq-eqb _ _ c.if-line-length-ne13.false)
