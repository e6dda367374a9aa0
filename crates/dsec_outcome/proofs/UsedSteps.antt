-- The groups at indexes.
use Rattle.std.proofs.Common.{◌≡◌, ◌<◌, ◌≤◌, false, arith, ℕ, ◌+◌, List, [], ◌∷◌, ◌++◌, length, get_or, take, Option, Some, None, sym, ap, ◌∙◌, append-nil}
use Rattle.std.specs.Prelude.{filter_map, slice_get, nat_lt}
use Rattle.std.proofs.lemmas.Bool.Decides.{nat_tests}
use Rattle.std.proofs.lemmas.Option.{slice_get_past}
use Rattle.std.proofs.lemmas.List.{take_more}
use Rattle.std.proofs.lemmas.List.Elements.{filter_map-append}
use Rattle.dsec_spec.specs.Reading.{◌>>=◌}
use Rattle.dsec_nodes.specs.Judging.{Judged}
use Rattle.dsec_nodes.specs.Outcomes.{Used}
use Rattle.dsec_nodes.specs.ByDenial.{used_at}

abbrev found : List Judged → ℕ → Option Judged → List Used
found authorities index o = filter_map (λ (i : ℕ). o >>= λ (j : Judged). Some (record { index = i; judged = j })) (index ∷ [])

-- where a group is there
pub one_used : (authorities : List Judged) (index : ℕ) (j : Judged) → slice_get authorities index ≡ Some j
    → ◌≡◌ {A = List Used} (filter_map (used_at authorities) (index ∷ [])) (record { index = index; judged = j } ∷ [])
one_used authorities index j there = ap (found authorities index) there

-- where none is, nothing more is used
none_more : (used : List Used) (authorities : List Judged) (index : ℕ) → slice_get authorities index ≡ None → used ≡ used ++ filter_map (used_at authorities) (index ∷ [])
none_more used authorities index past = sym (ap (λ (us : List Used). used ++ us) (ap (found authorities index) past) ∙ append-nil used)

-- none is past the end
pub none_past : (used : List Used) (authorities : List Judged) (index : ℕ) → false ≡ nat_lt index (length authorities) → used ≡ used ++ filter_map (used_at authorities) (index ∷ [])
none_past used authorities index h =
    let past : length authorities ≤ index = grind (arith, nat_tests, h) in
    none_more used authorities index (slice_get_past authorities index past)

-- one index more
pub used_more : (authorities : List Judged) (indexes : List ℕ) (i : ℕ) (old new : List Used) → i < length indexes → old ≡ filter_map (used_at authorities) (take i indexes)
    → new ≡ old ++ filter_map (used_at authorities) (get_or indexes i 0 ∷ []) → new ≡ filter_map (used_at authorities) (take (i + 1) indexes)
used_more authorities indexes i old new below so_far more =
    let f = used_at authorities in
    more ∙ (ap (λ (us : List Used). us ++ filter_map f (get_or indexes i 0 ∷ [])) so_far
    ∙ (sym (filter_map-append f (take i indexes) (get_or indexes i 0 ∷ [])) ∙ sym (ap (filter_map f) (take_more indexes i 0 below))))
