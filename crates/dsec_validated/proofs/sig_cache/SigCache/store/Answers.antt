use Rattle.std.proofs.Common.{sym, subst}
use Rattle.dsec_validated.specs.SigCaches.{AreTrue}
use Rattle.dsec_validated.proofs.CacheLaws.{more_true}
use Rattle.dsec_validated.proofs.sig_cache.SigCache.store.Goals as goal

pub invariant_of-self-2 : goal.invariant_of-self-2
invariant_of-self-2 g c =
    subst (λ x. AreTrue g.V.Verifier.accepts x.entries) (sym c.in_ok-put.ensures.entries) (more_true g.V.Verifier.accepts c.self.inside.checks c.args.check c.args.yes c.self.invariant c.requires)
