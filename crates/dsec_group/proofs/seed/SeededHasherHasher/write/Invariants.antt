use Rattle.std.proofs.Common.{◌≡◌, take, fold}
use Rattle.dsec_group.specs.Hashing.{step}
use Rattle.dsec_group.proofs.seed.SeededHasherHasher.write.Given as goal

abbrev pub invariant-loop-octet : goal.invariant-loop-octet
invariant-loop-octet l = l.state ≡ fold (step l.fn.self.factor) l.fn.self.state (take l.octet-index l.octets)
