-- What the calls answer, as the code tells it (RFC 4035 5.4).
use Rattle.std.specs.Prelude.{◌≡◌, ℕ, List, [], slice_get, Bool, true, false, Option, Some, None}
use Rattle.dsec_cause.specs.declared.cause.Cause.{Cause}
use Rattle.dsec_cause.specs.declared.cause.Cause.TheVariants.{NsecFromWildcard}
use Rattle.dsec_spec.specs.Names.{Labels, Place, place}
use Rattle.dsec_spec.specs.SignedBytes.{rightmost}
use Rattle.dsec_group.specs.declared.state.ValidationState.{ValidationState}
use Rattle.dsec_nodes.specs.Judging.{Judged}
use Rattle.dsec_found.specs.Told.{state_of, cause_of}
use Rattle.dsec_absence.specs.Denials.{Denial, no_type, no_name, no_type_by_wildcard, no_closer, used_in}
use Rattle.dsec_absence.specs.Answers as answers
use Rattle.dsec_absence.specs.Answers.{denied, refused, nothing}
use Rattle.dsec_negative.specs.declared.answer.Answer.{Answer}
use Rattle.dsec_negative.specs.declared.answer.Answer.TheVariants.{Denied, Refused, Nothing}
use Rattle.dsec_negative.specs.declared.state.NsecState.{NsecState}
use Rattle.dsec_negative.specs.declared.state.NsecState.TheVariants as types
use Rattle.dsec_negative.specs.declared.state.NsecNXState.{NsecNXState}
use Rattle.dsec_negative.specs.declared.state.NsecNXState.TheVariants as names

-- why a group was refused, where one was
abbrev pub refusal_cause : Bool → Option Cause
refusal_cause true = Some NsecFromWildcard
refusal_cause false = None

-- an answer, its denial by what it uses
abbrev pub answer_of : answers.Answer → Answer
answer_of (denied d) = Denied (used_in d)
answer_of (refused cause) = Refused cause
answer_of (nothing cause) = Nothing cause

-- what is told of a type
abbrev pub nodata_told : answers.Answer → NsecState × Option Cause × List ℕ
nodata_told (denied d) = (types.NoData, None, used_in d)
nodata_told (refused cause) = (types.Nothing, Some cause, [])
nodata_told (nothing cause) = (types.Nothing, cause, [])

-- the closest encloser that a denial shows
abbrev pub encloser_in : {R : Type 0} → Denial R → Option Place
encloser_in (no_type own) = None
encloser_in (no_name c around around_wildcard) = Some c
encloser_in (no_type_by_wildcard c around of_wildcard) = Some c
encloser_in (no_closer c around) = Some c

-- what is told of a name: nothing, that it may exist, or its closest encloser
pub data NameTold : Type 0 where
  exists : NameTold
  missing_below : Option Place → NameTold
  unknown : NameTold

-- a state, by the closest encloser's place
abbrev pub state_told : NsecNXState → NameTold
state_told names.Exists = exists
state_told (names.DoesNotExist encloser) = missing_below (Some (place encloser))
state_told names.Nothing = unknown

-- a name's closest encloser is told in the name's own letters: it is so many of its last labels
abbrev pub IsEndOf : Labels → Labels → Type 0
IsEndOf name encloser = (labels : ℕ) × (encloser ≡ rightmost labels name)

-- the same of the one that a state has
abbrev pub TellsEndOf : Labels → NsecNXState → Type 0
TellsEndOf name (names.DoesNotExist encloser) = IsEndOf name encloser
TellsEndOf name names.Exists = Unit {0}
TellsEndOf name names.Nothing = Unit {0}

-- a state with its cause, and what was used
abbrev pub name_view : NsecNXState × Option Cause × List ℕ → NameTold × Option Cause × List ℕ
name_view answer = (state_told answer.0, answer.1, answer.2)

-- what is told of a name
abbrev pub name_told : answers.Answer → NameTold × Option Cause × List ℕ
name_told (denied d) = (missing_below (encloser_in d), None, used_in d)
name_told (refused cause) = (exists, Some cause, [])
name_told (nothing cause) = (unknown, cause, [])

-- where an answer denies, this is the closest encloser
abbrev pub IsEncloserIn : Place → answers.Answer → Type 0
IsEncloserIn c (denied d) = encloser_in d ≡ Some c
IsEncloserIn c (refused cause) = Unit {0}
IsEncloserIn c (nothing cause) = Unit {0}

-- the index with a state
abbrev pub index_in : ℕ × ValidationState → ℕ
index_in found = found.0

-- the index with a state and a cause
abbrev pub answer_index_in : ℕ × ValidationState × Option Cause → ℕ
answer_index_in found = found.0

-- the group at the index has the state
abbrev pub HasState : List Judged → ℕ → ValidationState → Type 0
HasState groups index state = (j : Judged) × (slice_get groups index ≡ Some j) × (state ≡ state_of j.finding)

-- the group at the index has the state and the cause
abbrev pub HasStateAndCause : List Judged → ℕ → ValidationState → Option Cause → Type 0
HasStateAndCause groups index state cause = (j : Judged) × (slice_get groups index ≡ Some j) × (state ≡ state_of j.finding) × (cause ≡ cause_of j.finding)
