-- Which key of a set an anchor or a DS record admits: what the calls answer (RFC 4035 5, 5.2).
use Rattle.std.specs.Prelude.{◌≡◌, ℕ, ◌==◌, ◌&&◌, List, Bool, Option, Some, slice_get, filter, flat_map, length, take, nat_lt, unwrap_or, Result, Ok, Err, if◌then◌else◌}
use Rattle.dsec_spec.specs.Accepts.{Accepts}
use Rattle.dsec_spec.specs.Groups.{Group}
use Rattle.dsec_spec.specs.KeySearch.{KeySearch}
use Rattle.dsec_spec.specs.Records.{Record, Ds}
use Rattle.dsec_spec.specs.Trying.{Tried, good, nothing, all_bad, too_many_bad, tried}
use Rattle.dsec_nodes.specs.Admission.{Admitted, admitted_signs, cause_among, matching_by, search_for}
use Rattle.dsec_nodes.specs.ByDs.{is_supported}
use Rattle.dsec_nodes.specs.Causes.{Cause, BadSignatureForDnskey, NoSignature, TooManyBadSignaturesForDnskey, TooManyDsRecords}
use Rattle.dsec_child.specs.declared.admit.Admission.{Admission}

-- what trying the keys that these ways admit comes to at a moment, where so many pairs may be tried: `tried_by` of a world with these
abbrev pub tried_at : {A : Type 0} → Accepts → Group → ℕ → ℕ → (A → KeySearch) → List A → Tried (Record × Admitted A)
tried_at accepts group t room search ways = tried (admitted_signs accepts group t) room (flat_map (matching_by group search) ways)

-- the key that a DS record speaks of (RFC 4035 5.2)
abbrev pub said_search : ℕ → Group → Ds → KeySearch
said_search most group ds = search_for most group (Some ds)

-- whether a DS record is of a known algorithm and digest (RFC 4035 5.2)
abbrev pub usable_ds : Ds → Bool
usable_ds ds = is_supported (Some ds)

-- the DS records that are tried: of those of a known algorithm and digest the first so many
abbrev pub ways_of : ℕ → List Ds → List Ds
ways_of max all = take max (filter usable_ds all)

-- what trying the keys that they speak of comes to
abbrev pub tried_ds : Accepts → Group → ℕ → ℕ → ℕ → ℕ → List Ds → Tried (Record × Admitted Ds)
tried_ds accepts group t room most max all = tried_at accepts group t room (said_search most group) (ways_of max all)

-- why none of them admits a key: there are more than are tried, or else the first cause
abbrev pub ds_cause : ℕ → ℕ → Group → List Ds → Cause
ds_cause most max group all =
    if nat_lt max (length (filter usable_ds all)) then TooManyDsRecords
    else cause_among BadSignatureForDnskey group (said_search most group) (ways_of max all)

-- the way, the key's record and the signature stand at these indexes
pub record StandsAt {A : Type 0} (all : List A) (group : Group) (at : Admission) (p : Record × Admitted A) : Type 0 where
  pub way_stands : slice_get all at.via ≡ Some p.1.way
  pub key_record : Record
  pub key_stands : slice_get group.records at.key ≡ Some key_record
  pub says : p.1.rdata ≡ key_record.rdata
  pub signature_stands : slice_get group.signatures at.signature ≡ Some p.0

-- What a call answers: the way, key and signature that are good, or that too many aren't, or else this cause (RFC 4035 5.2)
abbrev pub IsAdmission : {A : Type 0} → List A → Group → Cause → Tried (Record × Admitted A) → Result Admission Cause → Type 0
IsAdmission all group cause (good p) r = (at : Admission) × (r ≡ Ok at) × StandsAt all group at p
IsAdmission all group cause nothing r = r ≡ Err cause
IsAdmission all group cause all_bad r = r ≡ Err cause
IsAdmission all group cause too_many_bad r = r ≡ Err TooManyBadSignaturesForDnskey

-- why no key is admitted, where so many more pairs may be tried
abbrev pub cause_left : ℕ → Option Cause → Cause
cause_left more cause = if more == 0 then TooManyBadSignaturesForDnskey else unwrap_or cause NoSignature

-- the same by DS records, where there are more than are tried or not
abbrev pub ds_cause_left : ℕ → Option Cause → Bool → Cause
ds_cause_left more cause others = if nat_lt 0 more && others then TooManyDsRecords else cause_left more cause
