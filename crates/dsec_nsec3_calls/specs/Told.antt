-- What the calls answer, as they tell it (RFC 5155 8).
use Rattle.std.specs.Prelude.{ℕ, List, [], ◌∷◌, Bool, true, false, Option, Some, None}
use Rattle.dsec_cause.specs.declared.cause.Cause.{Cause}
use Rattle.dsec_cause.specs.declared.cause.Cause.TheVariants.{Nsec3OptOut, Nsec3IterationsInsecure, Nsec3IterationsTooHigh, Nsec3BadOwnerHash, Nsec3DnameOrDelegation, TooManyNsec3Hashes, NoNsec3Proof}
use Rattle.dsec_spec.specs.Names.{Labels, Place, place}
use Rattle.dsec_group.specs.declared.state.ValidationState.{ValidationState}
use Rattle.dsec_group.specs.declared.state.ValidationState.TheVariants.{Secure, Insecure, Bogus}
use Rattle.dsec_absence.specs.Denials.{used_in}
use Rattle.dsec_nsec3.specs.Counting.{End, too_many_iterations, many_iterations, bad_owner_hash}
use Rattle.dsec_nsec3.specs.Conclusions.{Conclusion, proved, hash_proved, left_open, unproved}
use Rattle.dsec_nsec3.specs.HashedAnswers.{Hashed, disproved, opened, broken, unshown}
use Rattle.dsec_nsec3.specs.HashedDenials.{HashedDenial, hashed_used_in}
use Rattle.dsec_nsec3.specs.Walks.{Walk, gone, barred, halted, exhausted, unfound}
pub use Rattle.dsec_negative.specs.Told.{index_in, answer_index_in, HasState, HasStateAndCause, IsEndOf}
use Rattle.dsec_nsec3_calls.specs.Tellings.{opening_index}
use Rattle.dsec_nsec3_calls.specs.Walked.{shown_by}
use Rattle.dsec_nsec3_calls.specs.declared.state.Nsec3State.{Nsec3State}
use Rattle.dsec_nsec3_calls.specs.declared.state.Nsec3State.TheVariants as types
use Rattle.dsec_nsec3_calls.specs.declared.state.Nsec3NXState.{Nsec3NXState}
use Rattle.dsec_nsec3_calls.specs.declared.state.Nsec3NXState.TheVariants as names
use Rattle.dsec_nsec3_calls.specs.declared.state.Nsec3NXStateNoCE.{Nsec3NXStateNoCE}
use Rattle.dsec_nsec3_calls.specs.declared.state.Nsec3NXStateNoCE.TheVariants as closers

-- what is told of a type
abbrev pub nodata_told : Hashed (HashedDenial ℕ) → Nsec3State × Option Cause × List ℕ
nodata_told (disproved d) = (types.NoData, None, hashed_used_in d)
nodata_told (opened cause by) = (types.NoDataInsecure, cause, opening_index by ∷ [])
nodata_told (broken cause) = (types.Bogus, Some cause, [])
nodata_told (unshown cause) = (types.Nothing, cause, [])

-- what is told of a name whose closest encloser is known
abbrev pub no_ce_told : Hashed ℕ → Nsec3NXStateNoCE × Option Cause × List ℕ
no_ce_told (disproved i) = (closers.DoesNotExist, None, i ∷ [])
no_ce_told (opened cause by) = (closers.DoesNotExistInsecure, cause, opening_index by ∷ [])
no_ce_told (broken cause) = (closers.Bogus, Some cause, [])
no_ce_told (unshown cause) = (closers.Nothing, cause, [])

-- what is told of a name: it is missing, or may be, below its closest encloser; it may be; the records can't be trusted; or nothing
pub data NameTold : Type 0 where
  missing_below : Place → NameTold
  open_below : Place → NameTold
  insecure : NameTold
  untrusted : NameTold
  unknown : NameTold

-- a state, by the closest encloser's place
abbrev pub state_told : Nsec3NXState → NameTold
state_told (names.DoesNotExist encloser) = missing_below (place encloser)
state_told (names.DoesNotExistInsecure encloser) = open_below (place encloser)
state_told names.Bogus = untrusted
state_told names.Insecure = insecure
state_told names.Nothing = unknown

-- the closest encloser that a state has is told in the name's own letters
abbrev pub TellsEndOf : Labels → Nsec3NXState → Type 0
TellsEndOf name (names.DoesNotExist encloser) = IsEndOf name encloser
TellsEndOf name (names.DoesNotExistInsecure encloser) = IsEndOf name encloser
TellsEndOf name names.Bogus = Unit {0}
TellsEndOf name names.Insecure = Unit {0}
TellsEndOf name names.Nothing = Unit {0}

-- a state with its cause, and what was used
abbrev pub name_view : Nsec3NXState × Option Cause × List ℕ → NameTold × Option Cause × List ℕ
name_view answer = (state_told answer.0, answer.1, answer.2)

-- of a missing name with this closest encloser, by the groups that show it, with Opt-Out or without
abbrev pub gone_told : Place → List ℕ → Bool → NameTold × Option Cause × List ℕ
gone_told c used false = (missing_below c, None, used)
gone_told c used true = (open_below c, Some Nsec3OptOut, used)

-- where the group at an index ends the call
abbrev pub end_told : ℕ → End → NameTold × Option Cause × List ℕ
end_told i too_many_iterations = (untrusted, Some Nsec3IterationsTooHigh, [])
end_told i many_iterations = (insecure, Some Nsec3IterationsInsecure, i ∷ [])
end_told i bad_owner_hash = (untrusted, Some Nsec3BadOwnerHash, [])

-- what is told of a name by the walk down to it
abbrev pub not_exists_told : Walk → NameTold × Option Cause × List ℕ
not_exists_told (gone c at_encloser i opt_out) = gone_told c (shown_by at_encloser i) opt_out
not_exists_told barred = (unknown, Some Nsec3DnameOrDelegation, [])
not_exists_told (halted i why) = end_told i why
not_exists_told exhausted = (unknown, Some TooManyNsec3Hashes, [])
not_exists_told unfound = (unknown, Some NoNsec3Proof, [])

-- the state of a name that is denied, by the walk down to it
abbrev pub denied_told : Walk → NameTold
denied_told (gone c at_encloser i opt_out) = missing_below c
denied_told barred = unknown
denied_told (halted i why) = unknown
denied_told exhausted = unknown
denied_told unfound = unknown

-- that of a name that is left open
abbrev pub open_told : Walk → NameTold
open_told (gone c at_encloser i opt_out) = open_below c
open_told barred = insecure
open_told (halted i why) = insecure
open_told exhausted = insecure
open_told unfound = insecure

-- what is told of a name and of the wildcard that could stand for it, by the walk down to the name
abbrev pub nxdomain_told : Walk → Hashed (HashedDenial ℕ) → NameTold × Option Cause × List ℕ
nxdomain_told walk (disproved d) = (denied_told walk, None, hashed_used_in d)
nxdomain_told walk (opened cause by) = (open_told walk, cause, opening_index by ∷ [])
nxdomain_told walk (broken cause) = (untrusted, Some cause, [])
nxdomain_told walk (unshown cause) = (unknown, cause, [])

-- what is told of a name for which a wildcard stands
abbrev pub wildcard_told : Conclusion → Bool × ValidationState × Option Cause × List ℕ
wildcard_told (proved d) = (true, Secure, None, used_in d)
wildcard_told (hash_proved d) = (true, Secure, None, hashed_used_in d)
wildcard_told (left_open cause by) = (true, Insecure, cause, opening_index by ∷ [])
wildcard_told (unproved cause) = (false, Bogus, Some cause, [])
