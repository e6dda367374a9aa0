-- What admits a key of a key set, and the signatures tried with these keys (RFC 4035 5, 5.2).
use Rattle.std.specs.Prelude.{ℕ, List, flat_map, Some, if◌then◌else◌}
use Rattle.dsec_spec.specs.Accepts.{Accepts}
use Rattle.dsec_spec.specs.Groups.{Group}
use Rattle.dsec_spec.specs.KeySearch.{KeySearch, not_found}
use Rattle.dsec_spec.specs.Records.{Record, Ds}
use Rattle.dsec_group.specs.Trials.{Trial, trial}
use Rattle.dsec_nodes.specs.Admission.{Admitted, admitted_signs, matching_by, search_for}
use Rattle.dsec_nodes.specs.ByDs.{is_supported}

-- the key that a DS record speaks of, where the record is of a known algorithm and digest (RFC 4035 5.2)
abbrev pub supported_search : ℕ → Group → Ds → KeySearch
supported_search most group ds = if is_supported (Some ds) then search_for most group (Some ds) else not_found

-- pairs of a signature with an admitted key, of which so many may be tried
abbrev pub pairs_trial : {A : Type 0} → Accepts → Group → ℕ → ℕ → List (Record × Admitted A) → Trial (Record × Admitted A)
pairs_trial accepts group t room pairs = trial (admitted_signs accepts group t) room pairs

-- the same of all that match the keys which these ways admit: by way, then by signature
abbrev pub ways_trial : {A : Type 0} → Accepts → Group → ℕ → ℕ → (A → KeySearch) → List A → Trial (Record × Admitted A)
ways_trial accepts group t room search ways = pairs_trial accepts group t room (flat_map (matching_by group search) ways)
