use Rattle.std.proofs.Common.{length, ◌-◌, ◌≡◌, take, drop}
use Rattle.dsec_script.specs.Text.{is_no_blank}
use Rattle.dsec_spec.specs.Cuts.{cut_of}
use Rattle.dsec_spec.proofs.CutLaws.{behind}
use Rattle.dsec_script.proofs.text.without_blanks.Given as goal

abbrev pub invariant-loop-at : goal.invariant-loop-at
invariant-loop-at l = behind (take l.at l.line) (cut_of is_no_blank (drop l.at l.line)) ≡ cut_of is_no_blank l.line

abbrev pub decreases-loop-at : goal.decreases-loop-at
decreases-loop-at l = length l.line - l.at
