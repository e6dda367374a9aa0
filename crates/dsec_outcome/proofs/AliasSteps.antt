-- The judged groups of a path of aliases, step by step.
use Rattle.std.proofs.Common.{◌≡◌, ◌<◌, ◌≤◌, false, arith, ℕ, ◌+◌, List, [], ◌∷◌, ◌++◌, length, get_or, take, map, Option, Some, refl, sym, ap, ◌∙◌, append-nil}
use Rattle.std.specs.Prelude.{filter_map, slice_get, nat_lt}
use Rattle.std.specs.List.{cons_option}
use Rattle.std.proofs.lemmas.Bool.Decides.{nat_tests}
use Rattle.std.proofs.lemmas.Option.{slice_get_past}
use Rattle.std.proofs.lemmas.List.{take_more}
use Rattle.std.proofs.lemmas.List.Elements.{filter_map-append}
use Rattle.dsec_alias.specs.Following.{AliasStep}
use Rattle.dsec_nodes.specs.Judging.{Judged}
use Rattle.dsec_nodes.specs.Outcomes.{Used}
use Rattle.dsec_nodes.specs.Aliases.{Beside, aliases_on, denials_on}
use Rattle.dsec_follow.specs.Ends.{StepTold, step_told}
use Rattle.dsec_outcome.specs.Aliases.{alias_at, beside_at, aliases_at, denials_at}

-- where the alias of a step is there
pub one_alias : (answers : List Judged) (step : StepTold) (j : Judged) → slice_get answers step.group ≡ Some j → aliases_at answers (step ∷ []) ≡ j ∷ []
one_alias answers step j there = ap (λ (o : Option Judged). cons_option o []) there

-- none is past the end
pub alias_past : (aliases answers : List Judged) (step : StepTold) (index : ℕ) → index ≡ step.group → false ≡ nat_lt index (length answers)
    → aliases ≡ aliases ++ aliases_at answers (step ∷ [])
alias_past aliases answers step index at h =
    let past : length answers ≤ step.group = grind (arith, nat_tests, at, h) in
    sym (ap (λ (o : Option Judged). aliases ++ cons_option o []) (slice_get_past answers step.group past) ∙ append-nil aliases)

-- one step more
pub aliases_more : (answers : List Judged) (steps : List StepTold) (i : ℕ) (step : StepTold) (old new : List Judged) → i < length steps → step ≡ get_or steps i step
    → old ≡ aliases_at answers (take i steps) → new ≡ old ++ aliases_at answers (step ∷ []) → new ≡ aliases_at answers (take (i + 1) steps)
aliases_more answers steps i step old new below at so_far more =
    let f = alias_at answers in
    more ∙ (ap (λ (js : List Judged). js ++ aliases_at answers (step ∷ [])) so_far
    ∙ (ap (λ (s : StepTold). filter_map f (take i steps) ++ filter_map f (s ∷ [])) at
    ∙ (sym (filter_map-append f (take i steps) (get_or steps i step ∷ [])) ∙ sym (ap (filter_map f) (take_more steps i step below)))))

-- over the steps as they are told, the groups are those of the path
pub aliases_told : (answers : List Judged) (path : List (AliasStep Beside)) → aliases_at answers (map step_told path) ≡ aliases_on answers path
aliases_told answers [] = refl
aliases_told answers (step ∷ path) = ap (cons_option (slice_get answers step.group)) (aliases_told answers path)

pub denials_told : (authorities : List Judged) (path : List (AliasStep Beside)) → denials_at authorities (map step_told path) ≡ denials_on authorities path
denials_told authorities [] = refl
denials_told authorities (step ∷ path) = ap (λ (us : List Used). beside_at authorities (step_told step) ++ us) (denials_told authorities path)
