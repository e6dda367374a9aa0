use Rattle.std.proofs.Common.{length, arith, sym, ◌<◌, ◌≤◌}
use Rattle.std.proofs.lemmas.Bool.{eqb-true, eqb-false}
use Rattle.dsec_bind.specs.Lines.{is_mark}
use Rattle.dsec_bind.proofs.LineLemmas.{no_part, part_found}
use Rattle.dsec_bind.proofs.line.first_part.Goals as goal

pub returns-then-is_empty : goal.returns-then-is_empty
returns-then-is_empty c =
    let l : length c.cut.result.1.now ≤ 0 = omega (arith, eqb-true _ _ (sym c.if-is_empty.ensures)) in
    no_part (is_mark c.args.mark) c.args.text.now c.cut.result.0.now c.cut.result.1.now c.cut.ensures l

pub returns : goal.returns
returns c =
    let l : 0 < length c.cut.result.1.now = omega (arith, eqb-false _ _ (sym c.if-is_empty.ensures)) in
    part_found (is_mark c.args.mark) c.args.text.now c.cut.result.0.now c.cut.result.1.now _ _ c.cut.ensures l c.cut-2.ensures
