-- Why NSEC records don't show what is to be denied (RFC 4034 4, RFC 4035 5.4, RFC 6840 4.1, 4.3).
use Rattle.std.specs.Prelude.{◌≡◌, ◌≢◌, ℕ, ◌<◌, List, [], ◌∷◌, slice_get, true, false, Option, Some, None}
use Rattle.dsec_cause.specs.declared.cause.Cause.{Cause}
use Rattle.dsec_cause.specs.declared.cause.Cause.TheVariants.{NsecProvesType, NsecFromApexForDs, NsecFromParent, NsecMatches, NsecShowsEmptyNonTerminal, NsecDnameOrDelegation, NsecFromWildcard, WildcardElsewhere, WildcardTooLong}
use Rattle.dsec_spec.specs.Names.{Place, IsAtOrBelow, IsStrictlyBelow, wire_length}
use Rattle.dsec_spec.specs.Numbers.{NS, CNAME, SOA, DS, DNAME, NSEC}
use Rattle.dsec_spec.specs.Records.{Record}
use Rattle.dsec_spec.specs.Zones.{wildcard}
use Rattle.dsec_spec.specs.DenyingRecords.{NsecAt, owner_of, next_of, has, Matches, Covers}
use Rattle.dsec_absence.specs.Evidence.{Evidence, CountsAt}
use Rattle.dsec_absence.specs.Answers.{found, Answer, denied, refused, nothing, Source, missing}

-- why a record doesn't show that the type isn't at the name
pub data RefutesType (r : NsecAt) (n : Place) (q : ℕ) : Cause → Type 0 where
  -- it is the name's own, and has the type
  with_type : Matches r n → has r q ≡ true → RefutesType r n q NsecProvesType
  -- or CNAME (RFC 6840 4.3)
  with_alias : Matches r n → has r CNAME ≡ true → RefutesType r n q NsecProvesType
  -- DS is asked for, but at the root, and it is of the zone below, from its apex
  of_apex : Matches r n → q ≡ DS → n ≢ [] → has r NS ≡ true → has r SOA ≡ true → RefutesType r n q NsecFromApexForDs
  -- another type is, or at the root, and it is of the zone above, from a delegation (RFC 6840 4.1)
  of_parent : Matches r n → (q ≡ DS → n ≡ []) → has r NS ≡ true → has r SOA ≡ false → RefutesType r n q NsecFromParent

-- why a record doesn't show that the name is missing
pub data RefutesMissing (r : NsecAt) (n : Place) : Cause → Type 0 where
  -- it is the name's own
  own : Matches r n → RefutesMissing r n NsecMatches
  -- its next name is under the name, which is in its gap
  empty : Covers r n → IsAtOrBelow (next_of r) n → RefutesMissing r n NsecShowsEmptyNonTerminal
  -- it is above the name, and has DNAME (RFC 6840 4.1)
  under_dname : IsStrictlyBelow n (owner_of r) → has r DNAME ≡ true → RefutesMissing r n NsecDnameOrDelegation
  -- or is of the zone above, from a delegation
  under_cut : IsStrictlyBelow n (owner_of r) → has r NS ≡ true → has r SOA ≡ false → RefutesMissing r n NsecDnameOrDelegation

-- a group would count, but is a wildcard's expansion
pub record IsExpansionAt (class : ℕ) (signer : Place) (groups : List Evidence) (index : ℕ) : Type 0 where
  pub evidence : Evidence
  pub stands : slice_get groups index ≡ Some evidence
  pub of_type : evidence.group.rtype ≡ NSEC
  pub of_class : evidence.group.class ≡ class
  pub only : Record
  pub alone : evidence.group.records ≡ only ∷ []
  pub secure : evidence.is_secure ≡ true
  pub signed_by : evidence.signer ≡ signer
  pub expanded : evidence.is_expanded ≡ true

-- the cause that an answer gives, if it denies nothing
abbrev pub cause_in : Answer → Option Cause
cause_in (denied d) = None
cause_in (refused cause) = Some cause
cause_in (nothing cause) = cause

-- why the groups don't show that the type isn't at the name: a record refutes it, or one was refused as an expansion
pub data TypeCause (s : Source) (n : Place) (q : ℕ) : Cause → Type 0 where
  type_refuted : {index : ℕ} {r : NsecAt} {cause : Cause} → CountsAt s.class s.signer s.groups index r → RefutesType r n q cause → TypeCause s n q cause
  type_refused : {index : ℕ} → IsExpansionAt s.class s.signer s.groups index → TypeCause s n q NsecFromWildcard

-- why they don't show that the name is missing
pub data MissingCause (s : Source) (n : Place) : Cause → Type 0 where
  name_refuted : {index : ℕ} {r : NsecAt} {cause : Cause} → CountsAt s.class s.signer s.groups index r → RefutesMissing r n cause → MissingCause s n cause
  name_refused : {index : ℕ} → IsExpansionAt s.class s.signer s.groups index → MissingCause s n NsecFromWildcard

-- why they don't show that the name is missing for which a wildcard stands that hasn't the type (RFC 4035 3.1.3.4)
pub data WildcardTypeCause (s : Source) (n : Place) (q : ℕ) : Cause → Type 0 where
  not_missing : {cause : Cause} → MissingCause s n cause → WildcardTypeCause s n q cause
  -- the name is missing, and the type may be at the wildcard under its closest encloser
  type_at_wildcard : {index : ℕ} {c : Place} {cause : Cause} → missing s n ≡ found index c → TypeCause s (wildcard c) q cause → WildcardTypeCause s n q cause
  -- or that is no name (RFC 1035 2.3.4)
  no_wildcard : {index : ℕ} {c : Place} → missing s n ≡ found index c → 255 < wire_length (wildcard c) → WildcardTypeCause s n q WildcardTooLong

-- why they don't show that the name is missing, and the wildcard that could stand for it (RFC 4035 3.1.3.2)
pub data NameCause (s : Source) (n : Place) : Cause → Type 0 where
  not_gone : {cause : Cause} → MissingCause s n cause → NameCause s n cause
  wildcard_not_gone : {index : ℕ} {c : Place} {cause : Cause} → missing s n ≡ found index c → MissingCause s (wildcard c) cause → NameCause s n cause
  no_such_wildcard : {index : ℕ} {c : Place} → missing s n ≡ found index c → 255 < wire_length (wildcard c) → NameCause s n WildcardTooLong

-- why they don't show that the name is missing for which the wildcard under this encloser stands (RFC 4035 5.3.4)
pub data CloserCause (s : Source) (n c : Place) : Cause → Type 0 where
  no_closer_gone : {cause : Cause} → MissingCause s n cause → CloserCause s n c cause
  -- it is missing, and has another closest encloser
  elsewhere : {index : ℕ} {d : Place} → missing s n ≡ found index d → d ≢ c → CloserCause s n c WildcardElsewhere
