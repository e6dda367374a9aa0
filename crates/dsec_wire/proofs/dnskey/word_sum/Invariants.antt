use Rattle.std.proofs.Common.{◌≡◌, ◌+◌, length}
use Rattle.dsec_spec.specs.KeyTag.{word_sum}
use Rattle.dsec_wire.proofs.dnskey.word_sum.Given as goal

abbrev pub invariant-loop-rest : goal.invariant-loop-rest
invariant-loop-rest l = l.sum + word_sum l.rest ≡ word_sum l.octets

abbrev pub decreases-loop-rest : goal.decreases-loop-rest
decreases-loop-rest l = length l.rest
