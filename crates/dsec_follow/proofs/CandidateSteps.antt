-- What aliases see of a judged group, by what the code tells of it.
use Rattle.std.proofs.Common.{◌≡◌, Option, Some, None, refl}
use Rattle.dsec_spec.specs.Names.{Labels}
use Rattle.dsec_spec.specs.Groups.{Group}
use Rattle.dsec_spec.specs.Records.{Record}
use Rattle.dsec_nodes.specs.Judging.{Finding, is_shown, has_no_set, is_insecure, is_bogus, is_indeterminate}
use Rattle.dsec_nodes.specs.ByDenial.{encloser_of}
use Rattle.dsec_found.specs.Told.{state_of, signature_of}
use Rattle.dsec_found.specs.Outcomes.{state_view}
use Rattle.dsec_nodes.specs.Aliases.{state_in, expansion_in}

-- the closest encloser by the signature that shows a group, where there is one
abbrev pub expansion_told : Group → Option Record → Option Labels
expansion_told group None = None
expansion_told group (Some signature) = encloser_of group signature

pub expansion_by : (group : Group) (f : Finding) → expansion_in group f ≡ expansion_told group (signature_of f)
expansion_by group (is_shown links last signature) = refl
expansion_by group has_no_set = refl
expansion_by group (is_insecure cause signed) = refl
expansion_by group (is_bogus cause links) = refl
expansion_by group is_indeterminate = refl

-- the state that is told is the group's
pub state_told : (f : Finding) → state_view (state_of f) ≡ state_in f
state_told (is_shown links last signature) = refl
state_told has_no_set = refl
state_told (is_insecure cause signed) = refl
state_told (is_bogus cause links) = refl
state_told is_indeterminate = refl
