use Rattle.std.proofs.Common.{◌≡◌, ◌++◌, length}
use Rattle.dsec_text.specs.Escapes.{front}
use Rattle.dsec_text.proofs.word.Word.octets.Given as goal

abbrev pub invariant-loop-value : goal.invariant-loop-value
invariant-loop-value l = l.octets.items ++ (front l.self.quoted l.rest).0 ≡ (front l.self.quoted l.self.written.now).0

abbrev pub decreases-loop-value : goal.decreases-loop-value
decreases-loop-value l = length l.rest
