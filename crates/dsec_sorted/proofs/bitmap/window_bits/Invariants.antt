use Rattle.std.proofs.Common.{◌≡◌, ◌<◌, ◌+◌, ◌*◌, ℕ, nat_eq, take, length}
use Rattle.std.specs.List.{list_any}
use Rattle.dsec_spec.specs.TypeBitmaps.{bit_of}
use Rattle.dsec_sorted.proofs.bitmap.window_bits.Given as goal

abbrev pub invariant-loop-one : goal.invariant-loop-one
invariant-loop-one l = record {
  len : length l.bits ≡ 32;
  bits : (k : ℕ) → k < 256 → bit_of l.bits k ≡ list_any (nat_eq (l.window * 256 + k)) (take l.one-index l.types);
}
