use Rattle.std.proofs.Common.{refl}
use Rattle.dsec_sorted.proofs.SetBit.{zeros}
use Rattle.dsec_sorted.proofs.bitmap.window_bits.Goals as goal

pub loop-one-init : goal.loop-one-init
loop-one-init c = record { len = refl; bits = λ k lt. zeros 32 k }
