use Rattle.std.proofs.Common.{sym, subst}
use Rattle.dsec_validated.specs.SigCaches.{AreTrue, same_check}
use Rattle.dsec_validated.proofs.CacheLaws.{still_true}
use Rattle.dsec_validated.proofs.sig_cache.SigCache.look_up.Goals as goal

pub invariant_of-self : goal.invariant_of-self
invariant_of-self g c =
    subst (λ x. AreTrue g.V.Verifier.accepts x.entries) (sym c.get.follows.holds-at-none)
    (still_true g.V.Verifier.accepts c.self.inside.checks.entries (same_check c.args.check.now) c.self.invariant)
