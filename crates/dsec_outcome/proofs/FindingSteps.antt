-- The outcome by what was found of the group that decides.
use Rattle.std.proofs.Common.{◌≡◌, Option, None, refl, ap, ◌∙◌}
use Rattle.dsec_spec.specs.Records.{Record}
use Rattle.dsec_group.specs.declared.state.ValidationState.{ValidationState}
use Rattle.dsec_nodes.specs.Causes.{Cause}
use Rattle.dsec_nodes.specs.Judging.{Finding, is_shown, has_no_set, is_insecure, is_bogus, is_indeterminate}
use Rattle.dsec_nodes.specs.Outcomes.{Why, Outcome, by_finding}
use Rattle.dsec_found.specs.Outcomes.{state_view}
use Rattle.dsec_found.specs.Told.{cause_of, signature_of, state_of}
use Rattle.dsec_outcome.specs.Outcomes.{unshown_why}

-- what is told of a group as an outcome
abbrev pub told : ValidationState → Option Cause → Why → Outcome
told s cause why = record { state = state_view s; cause = cause; why = why }

by_told : (where_shown : Record → Outcome) (f : Finding) → signature_of f ≡ None → told (state_of f) (cause_of f) (unshown_why f) ≡ by_finding where_shown f
by_told where_shown (is_shown links last signature) none = absurd cc
by_told where_shown has_no_set none = refl
by_told where_shown (is_insecure cause signed) none = refl
by_told where_shown (is_bogus cause links) none = refl
by_told where_shown is_indeterminate none = refl

-- where links don't show the group, what is told of it is the outcome
pub unshown_is : (where_shown : Record → Outcome) (f : Finding) (s : ValidationState) (cause : Option Cause) (why : Why)
    → s ≡ state_of f → cause ≡ cause_of f → why ≡ unshown_why f → signature_of f ≡ None → told s cause why ≡ by_finding where_shown f
unshown_is where_shown f s cause why es ec ew none =
    ap (λ (x : ValidationState). told x cause why) es
    ∙ (ap (λ (x : Option Cause). told (state_of f) x why) ec
    ∙ (ap (λ (x : Why). told (state_of f) (cause_of f) x) ew ∙ by_told where_shown f none))
