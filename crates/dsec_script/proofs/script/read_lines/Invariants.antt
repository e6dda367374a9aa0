use Rattle.std.proofs.Common.{◌≡◌, length, ◌+◌, ◌≤◌}
use Rattle.dsec_script.specs.Script.{parts_view, script_from, script_in}
use Rattle.dsec_script.specs.Text.{lines_of}
use Rattle.dsec_script.proofs.ScriptLemmas.{joined}
use Rattle.dsec_script.proofs.script.read_lines.Given as goal

abbrev pub invariant-loop-rest : goal.invariant-loop-rest
invariant-loop-rest l =
    (joined (parts_view l.parts) (script_from l.number l.place (lines_of l.rest)) ≡ script_in (lines_of l.text))
    × (l.number + length l.rest ≤ 1 + length l.text)

abbrev pub decreases-loop-rest : goal.decreases-loop-rest
decreases-loop-rest l = length l.rest
