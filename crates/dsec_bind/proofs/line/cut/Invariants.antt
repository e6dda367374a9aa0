use Rattle.std.proofs.Common.{length, ◌-◌, ◌≡◌, take, drop}
use Rattle.dsec_bind.specs.Lines.{is_end}
use Rattle.dsec_spec.specs.Cuts.{cut_of}
use Rattle.dsec_spec.proofs.CutLaws.{behind}
use Rattle.dsec_bind.proofs.line.cut.Given as goal

abbrev pub invariant-loop-at : goal.invariant-loop-at
invariant-loop-at l = behind (take l.at l.octets) (cut_of (is_end l.until) (drop l.at l.octets)) ≡ cut_of (is_end l.until) l.octets

abbrev pub decreases-loop-at : goal.decreases-loop-at
decreases-loop-at l = length l.octets - l.at
