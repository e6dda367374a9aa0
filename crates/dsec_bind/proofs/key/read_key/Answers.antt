use Rattle.std.proofs.Common.{arith}
use Rattle.dsec_bind.proofs.KeyLemmas.{readable_key}
use Rattle.dsec_bind.proofs.key.read_key.Goals as goal

pub new-requires : goal.new-requires
new-requires c = readable_key _ c.in_ok-octets.octets c.in_ok-octets.ensures (let h = c.if-len-gt65535.false in let k = c.len.ensures in omega (arith, h, k))
