use Rattle.std.proofs.Common.{length, arith, ◌<◌}
use Rattle.std.proofs.lemmas.List.{take_rest}
use Rattle.dsec_script.specs.Text.{is_line_end}
use Rattle.dsec_script.proofs.TextLemmas.{ended_line, last_line, shorter}
use Rattle.dsec_script.proofs.text.first_line.Goals as goal

pub returns-in-empty-clause-line : goal.returns-in-empty-clause-line
returns-in-empty-clause-line c = last_line c.args.text.now c.cut_line.result.0.now c.cut_line.result.1.now c.requires c.cut_line.ensures (omega (arith, c.in-empty.len_below))

pub returns-in-len1-up-clause-line : goal.returns-in-len1-up-clause-line
returns-in-len1-up-clause-line c =
    let l : 0 < length c.cut_line.result.1.now = omega (arith, c.in-len1-up.len_at_least) in
    rw (take_rest c.cut_line.result.1.now 1, c.without_return.ensures) (ended_line c.args.text.now c.cut_line.result.0.now c.cut_line.result.1.now c.requires c.cut_line.ensures l)

pub returns-in-len1-up-clause-shorter : goal.returns-in-len1-up-clause-shorter
returns-in-len1-up-clause-shorter c =
    let l : 0 < length c.cut_line.result.1.now = omega (arith, c.in-len1-up.len_at_least) in
    rw (take_rest c.cut_line.result.1.now 1) (shorter is_line_end c.args.text.now c.cut_line.result.0.now c.cut_line.result.1.now c.cut_line.ensures l)
