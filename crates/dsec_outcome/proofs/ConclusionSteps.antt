-- What a message comes to by what was found of a denial.
use Rattle.std.proofs.Common.{◌≡◌, ℕ, List, [], ◌∷◌, ap, ◌∙◌}
use Rattle.std.specs.Prelude.{filter_map}
use Rattle.dsec_nsec3.specs.Conclusions.{Conclusion, proved, hash_proved, left_open, unproved}
use Rattle.dsec_nsec3_calls.specs.declared.conclusion.Conclusion.TheVariants.{Proved}
use Rattle.dsec_nsec3_calls.specs.Answers.{conclusion_of}
use Rattle.dsec_nodes.specs.Judging.{Judged}
use Rattle.dsec_nodes.specs.Outcomes.{Used, Outcome, secure_by}
use Rattle.dsec_nodes.specs.ByDenial.{used_at, on_conclusion}

-- a denial that is proved, by the groups that it uses
pub proved_by : (authorities : List Judged) (j : Judged) (d : Conclusion) (indexes : List ℕ) (used : List Used) (o : Outcome) → conclusion_of d ≡ Proved indexes
    → used ≡ filter_map (used_at authorities) indexes → o ≡ secure_by (j ∷ []) used → o ≡ on_conclusion authorities j d
proved_by authorities j (proved denial) indexes used o e used_is is =
    is ∙ ap (secure_by (j ∷ [])) (used_is ∙ ap (filter_map (used_at authorities)) cc)
proved_by authorities j (hash_proved denial) indexes used o e used_is is =
    is ∙ ap (secure_by (j ∷ [])) (used_is ∙ ap (filter_map (used_at authorities)) cc)
proved_by authorities j (left_open cause by) indexes used o e used_is is = absurd cc
proved_by authorities j (unproved cause) indexes used o e used_is is = absurd cc
