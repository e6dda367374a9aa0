use Rattle.std.proofs.Common.{◌≡◌, ◌≤◌, ◌*◌, ℕ, false, length}
use Rattle.dsec_spec.specs.TypeBitmaps.{bit_of}
use Rattle.dsec_sorted.proofs.bitmap.used.Given as goal

abbrev pub invariant-loop-n : goal.invariant-loop-n
invariant-loop-n l = record {
  fits : l.n ≤ length l.bits;
  rest : (k : ℕ) → l.n * 8 ≤ k → bit_of l.bits k ≡ false;
}

abbrev pub decreases-loop-n : goal.decreases-loop-n
decreases-loop-n l = l.n
