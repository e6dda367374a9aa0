use Rattle.std.proofs.Common.{subst}
use Rattle.std.specs.Prelude.{IfSome}
use Rattle.dsec_validated.specs.Nsec3Caches.{AreTrueHashes, IsTrueHash}
use Rattle.dsec_validated.specs.declared.nsec3_cache.HashInput.{HashInput}
use Rattle.dsec_validated.proofs.HashLaws.{found_true}
use Rattle.dsec_validated.proofs.nsec3_cache.Nsec3CacheMemo.get_hash.Goals as goal

pub returns-clause-sound : goal.returns-clause-sound
returns-clause-sound g c =
    subst (λ (k : HashInput). IfSome c.look_up.result (λ hash. IsTrueHash (k, hash))) c.in_ok-input.ensures
    (found_true c.args.self.now.entries c.in_ok-input.input c.look_up.result (subst (λ x. AreTrueHashes x.entries) c.self.view_is c.self.invariant) c.look_up.ensures.found)
