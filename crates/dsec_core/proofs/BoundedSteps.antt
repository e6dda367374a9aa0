-- What judged groups are cut to, as the code finds it.
use Rattle.std.proofs.Common.{◌≡◌, ℕ, Bool, List, [], ◌∷◌, map, Option, Some, None, refl, ap}
use Rattle.std.specs.Prelude.{◌||◌}
use Rattle.std.specs.List.{list_any}
use Rattle.dsec_spec.specs.Groups.{Group}
use Rattle.dsec_spec.specs.Lasting.{adjusted_ttl, ttl_for_sig}
use Rattle.dsec_spec.specs.Records.{Record}
use Rattle.dsec_nodes.specs.Judging.{Finding, is_shown, has_no_set, is_insecure, is_bogus, is_indeterminate, Judged}
use Rattle.dsec_found.specs.Told.{signature_of}
use Rattle.dsec_cut.specs.Cuts.{bound_by, bounded_at}
use Rattle.dsec_rewrite.specs.Cutting.{is_changed}

-- by the signature that shows a group, if one does
abbrev pub by_signature : ℕ → Group → Option Record → Option ℕ
by_signature t group (Some signature) = adjusted_ttl group (ttl_for_sig signature t)
by_signature t group None = None

pub bound_so : (t : ℕ) (group : Group) (f : Finding) → bound_by t group f ≡ by_signature t group (signature_of f)
bound_so t group (is_shown links last signature) = refl
bound_so t group has_no_set = refl
bound_so t group (is_insecure cause signed) = refl
bound_so t group (is_bogus cause links) = refl
bound_so t group is_indeterminate = refl

-- any of judged groups is changed where any is with its bound
pub any_so : (t : ℕ) (js : List Judged) → list_any (λ j. is_changed (bounded_at t j)) js ≡ list_any is_changed (map (bounded_at t) js)
any_so t [] = refl
any_so t (j ∷ js) = ap (λ (b : Bool). is_changed (bounded_at t j) || b) (any_so t js)
