use Rattle.std.proofs.Common.{subst}
use Rattle.std.specs.Prelude.{IfSome}
use Rattle.dsec_validated.specs.SigCaches.{AreTrue, IsTrueCheck}
use Rattle.dsec_validated.specs.declared.sig_cache.Check.{Check}
use Rattle.dsec_validated.proofs.CacheLaws.{found_true}
use Rattle.dsec_validated.proofs.sig_cache.SigCacheMemo.get_check.Goals as goal

pub returns-clause-sound : goal.returns-clause-sound
returns-clause-sound g c =
    subst (λ (k : Check). IfSome c.look_up.result (λ answer. IsTrueCheck g.V.Verifier.accepts (k, answer))) c.in_ok-check.ensures
    (found_true g.V.Verifier.accepts c.args.self.now.entries c.in_ok-check.check c.look_up.result (subst (λ x. AreTrue g.V.Verifier.accepts x.entries) c.self.view_is c.self.invariant) c.look_up.ensures.found)
