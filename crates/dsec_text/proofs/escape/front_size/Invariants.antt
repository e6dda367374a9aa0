use Rattle.std.proofs.Common.{◌≡◌, ◌+◌, length}
use Rattle.dsec_text.specs.Escapes.{front}
use Rattle.dsec_text.proofs.escape.front_size.Given as goal

abbrev pub invariant-loop-taken : goal.invariant-loop-taken
invariant-loop-taken l =
    (l.size + (front l.quoted l.rest).1 ≡ (front l.quoted l.text).1) × (l.size + length l.rest ≡ length l.text)

abbrev pub decreases-loop-taken : goal.decreases-loop-taken
decreases-loop-taken l = length l.rest
