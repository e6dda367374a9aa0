use Rattle.std.proofs.Common.{length, map, ◌≤◌}
use Rattle.dsec_text.specs.Words.{word_view}
use Rattle.dsec_text.proofs.LineLemmas.{HasPassed}
use Rattle.dsec_text.proofs.ReadLemmas.{HasRead}
use Rattle.dsec_text.proofs.pass.pass_line.Given as goal

abbrev pub invariant-loop-rest : goal.invariant-loop-rest
invariant-loop-rest l = HasPassed l.text l.rest l.octets l.depth × HasRead l.text l.rest (map word_view l.words.items) l.line_ends × (l.line_ends ≤ l.octets)

abbrev pub decreases-loop-rest : goal.decreases-loop-rest
decreases-loop-rest l = length l.rest
