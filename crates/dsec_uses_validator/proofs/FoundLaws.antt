-- Nothing is found of a reply whose verdict isn't Secure.
use Rattle.std.proofs.Common.{◌≡◌, None, refl, subst}
use Rattle.dsec_nodes.specs.Outcomes.{State}
use Rattle.dsec_group.specs.declared.state.ValidationState.{ValidationState}
use Rattle.dsec_group.specs.declared.state.ValidationState.TheVariants as states
use Rattle.dsec_found.specs.Outcomes.{state_view}
use Rattle.dsec_context.specs.Verdicts.{Verdict}
use Rattle.dsec_uses_validator.specs.Found.{in_state, only_secure}

pub none_else : (s : ValidationState) (v : Verdict) → (s ≡ states.Secure → ⊥) → state_view s ≡ v.outcome.state → None ≡ only_secure v
none_else states.Secure v other e = absurd (other refl)
none_else states.Insecure v other e = subst (λ (x : State). None ≡ in_state v x) e refl
none_else states.Bogus v other e = subst (λ (x : State). None ≡ in_state v x) e refl
none_else states.Indeterminate v other e = subst (λ (x : State). None ≡ in_state v x) e refl
