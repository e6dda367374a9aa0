use Rattle.std.proofs.Common.{sym, subst}
use Rattle.dsec_validated.specs.Nsec3Caches.{AreTrueHashes, same_input}
use Rattle.dsec_validated.proofs.HashLaws.{still_true}
use Rattle.dsec_validated.proofs.nsec3_cache.Nsec3Cache.look_up.Goals as goal

pub invariant_of-self : goal.invariant_of-self
invariant_of-self c =
    subst (λ x. AreTrueHashes x.entries) (sym c.get.follows.holds-at-none) (still_true c.self.inside.hashes.entries (same_input c.args.input.now) c.self.invariant)
