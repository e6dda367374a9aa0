use Rattle.std.proofs.Common.{◌≡◌, length}
use Rattle.dsec_bind.specs.Lines.{lines_of, worded_lines}
use Rattle.dsec_bind.proofs.line.worded_line.Given as goal

abbrev pub invariant-loop-line : goal.invariant-loop-line
invariant-loop-line l = worded_lines l.text ≡ worded_lines l.rest

abbrev pub decreases-loop-line : goal.decreases-loop-line
decreases-loop-line l = length (lines_of l.rest)
