use Rattle.std.proofs.Common.{refl}
use Rattle.dsec_group.specs.Hashing.{mixed}
use Rattle.dsec_group.proofs.seed.mixed.Goals as goal

pub returns : goal.returns
unfolding mixed
returns c = rw (c.from.ensures, c.from-2.ensures) refl
