-- What is denied beside a message's other groups, by NSEC records or by NSEC3 records (RFC 2308 2, RFC 4035 5.4, RFC 5155 8).
use Rattle.std.specs.Prelude.{◌≡◌, ◌≢◌, ℕ, List, Option, Some}
use Rattle.dsec_spec.specs.Names.{Place}
use Rattle.dsec_spec.specs.Messages.{Question}
use Rattle.dsec_spec.specs.Groups.{Group}
use Rattle.dsec_absence.specs.Denials.{Denial, no_type, no_name, no_type_by_wildcard, no_closer, used_in}
use Rattle.dsec_nsec3.specs.HashedDenials.{HashedDenial, type_gone, name_gone, wildcard_type_gone, closer_gone, hashed_used_in}
use Rattle.dsec_nodes.specs.World.{World}
use Rattle.dsec_nodes.specs.Outcomes.{Used}
use Rattle.dsec_nodes.specs.SoundDenials.{IsNsecDenied}
use Rattle.dsec_nodes.specs.SoundHashes.{IsHashDenied}

-- what is denied, by records of one kind or the other
pub data Disproof (R : Type 0) : Type 0 where
  by_nsec : Denial R → Disproof R
  by_nsec3 : HashedDenial R → Disproof R

-- what fills its places, in their order
abbrev pub disproof_used : {R : Type 0} → Disproof R → List R
disproof_used (by_nsec d) = used_in d
disproof_used (by_nsec3 d) = hashed_used_in d

-- it is denied by these groups of the authority section, which the zone has signed
abbrev pub IsDeniedBy : World → List Group → Question → Place → Disproof Used → Type 0
IsDeniedBy w authorities question signer (by_nsec d) = IsNsecDenied w authorities question signer d
IsDeniedBy w authorities question signer (by_nsec3 d) = IsHashDenied w authorities question signer d

-- that the type stands at the name, or at the wildcard that stands for it, is denied (RFC 2308 2.2)
abbrev pub IsOfType : {R : Type 0} → Disproof R → Type 0
IsOfType (by_nsec (no_type own)) = Unit {0}
IsOfType (by_nsec (no_type_by_wildcard encloser around of_wildcard)) = Unit {0}
IsOfType (by_nsec (no_name encloser around around_wildcard)) = ⊥
IsOfType (by_nsec (no_closer encloser around)) = ⊥
IsOfType (by_nsec3 (type_gone own)) = Unit {0}
IsOfType (by_nsec3 (wildcard_type_gone encloser at_encloser around of_wildcard)) = Unit {0}
IsOfType (by_nsec3 (name_gone encloser at_encloser around around_wildcard)) = ⊥
IsOfType (by_nsec3 (closer_gone encloser around)) = ⊥

-- that the name exists, or a wildcard that could stand for it, is denied (RFC 2308 2.1)
abbrev pub IsOfName : {R : Type 0} → Disproof R → Type 0
IsOfName (by_nsec (no_name encloser around around_wildcard)) = Unit {0}
IsOfName (by_nsec (no_type own)) = ⊥
IsOfName (by_nsec (no_type_by_wildcard encloser around of_wildcard)) = ⊥
IsOfName (by_nsec (no_closer encloser around)) = ⊥
IsOfName (by_nsec3 (name_gone encloser at_encloser around around_wildcard)) = Unit {0}
IsOfName (by_nsec3 (type_gone own)) = ⊥
IsOfName (by_nsec3 (wildcard_type_gone encloser at_encloser around of_wildcard)) = ⊥
IsOfName (by_nsec3 (closer_gone encloser around)) = ⊥

-- that a closer name than this one exists is denied (RFC 4035 5.3.4, RFC 5155 8.8)
abbrev pub IsOfCloser : {R : Type 0} → Place → Disproof R → Type 0
IsOfCloser c (by_nsec (no_closer encloser around)) = encloser ≡ c
IsOfCloser c (by_nsec (no_type own)) = ⊥
IsOfCloser c (by_nsec (no_name encloser around around_wildcard)) = ⊥
IsOfCloser c (by_nsec (no_type_by_wildcard encloser around of_wildcard)) = ⊥
IsOfCloser c (by_nsec3 (closer_gone encloser around)) = encloser ≡ c
IsOfCloser c (by_nsec3 (type_gone own)) = ⊥
IsOfCloser c (by_nsec3 (name_gone encloser at_encloser around around_wildcard)) = ⊥
IsOfCloser c (by_nsec3 (wildcard_type_gone encloser at_encloser around of_wildcard)) = ⊥

-- without an error the type is denied, and with one the name (RFC 2308 2)
pub record IsByRcode {R : Type 0} (rcode : Option ℕ) (d : Disproof R) : Type 0 where
  pub no_error : rcode ≡ Some 0 → IsOfType d
  pub error : rcode ≢ Some 0 → IsOfName d
