use Rattle.std.proofs.Common.{sym, subst}
use Rattle.dsec_validated.specs.Nsec3Caches.{AreTrueHashes}
use Rattle.dsec_validated.proofs.HashLaws.{more_true}
use Rattle.dsec_validated.proofs.nsec3_cache.Nsec3Cache.store.Goals as goal

pub invariant_of-self-2 : goal.invariant_of-self-2
invariant_of-self-2 c =
    subst (λ x. AreTrueHashes x.entries) (sym c.in_ok-put.ensures.entries) (more_true c.self.inside.hashes c.args.input c.args.hash c.self.invariant c.requires)
