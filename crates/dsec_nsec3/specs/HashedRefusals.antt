-- Why NSEC3 records don't show what is to be denied, or a reply doesn't (RFC 5155 8, RFC 6840 4.1, 4.3, RFC 9276 3.2).
use Rattle.std.specs.Prelude.{◌≡◌, ◌≢◌, ◌<◌, ℕ, [], Bool, true, false, Option}
use Rattle.dsec_cause.specs.declared.cause.Cause.{Cause}
use Rattle.dsec_cause.specs.declared.cause.Cause.TheVariants.{WildcardTooLong, Nsec3ProvesType, Nsec3FromApexForDs, Nsec3FromParent, Nsec3IterationsTooHigh, Nsec3BadOwnerHash, Nsec3DnameOrDelegation, TooManyNsec3Hashes, Nsec3OptOut, Nsec3IterationsInsecure, NoNsec3Proof, NoDenialProof}
use Rattle.dsec_spec.specs.Names.{Place, IsAtOrBelow, wire_length}
use Rattle.dsec_spec.specs.Numbers.{NS, CNAME, SOA, DS, DNAME}
use Rattle.dsec_spec.specs.Zones.{wildcard}
use Rattle.dsec_spec.specs.DenyingRecords.{Nsec3At, has_hashed, opts_out, MatchesHash, CoversHash}
use Rattle.dsec_absence.specs.Answers.{Source}
use Rattle.dsec_nsec3.specs.Counting.{HashLimits, CountsAt, End, too_many_iterations, many_iterations, bad_owner_hash, EndsAt}
use Rattle.dsec_nsec3.specs.Walks.{exhausted, gone, unfound, nsec3_for_not_exists}
use Rattle.dsec_nsec3.specs.HashedAnswers.{next_closer}

-- the cause that a group gives which ends a call
abbrev pub end_cause : End → Cause
end_cause too_many_iterations = Nsec3IterationsTooHigh
end_cause many_iterations = Nsec3IterationsInsecure
end_cause bad_owner_hash = Nsec3BadOwnerHash

-- why the record that matches a name doesn't show that the type isn't there
pub data HashRefutesType (r : Nsec3At) (n : Place) (q : ℕ) : Cause → Type 0 where
  -- it has the type
  hash_with_type : has_hashed r q ≡ true → HashRefutesType r n q Nsec3ProvesType
  -- or CNAME (RFC 6840 4.3)
  hash_with_alias : has_hashed r CNAME ≡ true → HashRefutesType r n q Nsec3ProvesType
  -- DS is asked for, but at the root, and it is of the zone below, from its apex
  hash_of_apex : q ≡ DS → n ≢ [] → has_hashed r NS ≡ true → has_hashed r SOA ≡ true → HashRefutesType r n q Nsec3FromApexForDs
  -- another type is, or at the root, and it is of the zone above, from a delegation (RFC 6840 4.1)
  hash_of_parent : (q ≡ DS → n ≡ []) → has_hashed r NS ≡ true → has_hashed r SOA ≡ false → HashRefutesType r n q Nsec3FromParent

-- a record says that names below its own are none of this zone's: it has DNAME, or NS without SOA (RFC 6840 4.1)
pub data LeadsAway (r : Nsec3At) : Type 0 where
  by_dname : has_hashed r DNAME ≡ true → LeadsAway r
  by_cut : has_hashed r NS ≡ true → has_hashed r SOA ≡ false → LeadsAway r

-- why NSEC3 records don't show that a name is missing, by groups that count
pub data IsBarredBy (limits : HashLimits) (s : Source) (n : Place) : Type 0 where
  -- a record matches the name, or one above it, and leads away
  by_match : {index : ℕ} {r : Nsec3At} {m : Place} → CountsAt limits s.class s.signer s.groups index r → IsAtOrBelow n m → MatchesHash r m
      → LeadsAway r → IsBarredBy limits s n
  -- a record with DNAME that is the signer's own covers the name, or one above it
  by_signer : {index : ℕ} {r : Nsec3At} {m : Place} → CountsAt limits s.class s.signer s.groups index r → IsAtOrBelow n m → CoversHash r m
      → has_hashed r DNAME ≡ true → MatchesHash r s.signer → IsBarredBy limits s n

-- why NSEC3 records don't show that a type isn't at a name
pub data HashTypeCause (limits : HashLimits) (s : Source) (n : Place) (q : ℕ) : Cause → Type 0 where
  type_refuted_by_hash : {index : ℕ} {r : Nsec3At} {cause : Cause} → CountsAt limits s.class s.signer s.groups index r → MatchesHash r n
      → HashRefutesType r n q cause → HashTypeCause limits s n q cause
  type_ended : {index : ℕ} {why : End} → EndsAt limits s.class s.signer s.groups index why → HashTypeCause limits s n q (end_cause why)

-- why they don't show that a name is covered whose closest encloser is known
pub data HashCoverCause (limits : HashLimits) (s : Source) (n : Place) : Cause → Type 0 where
  cover_barred : IsBarredBy limits s n → HashCoverCause limits s n Nsec3DnameOrDelegation
  cover_ended : {index : ℕ} {why : End} → EndsAt limits s.class s.signer s.groups index why → HashCoverCause limits s n (end_cause why)

-- why they don't show that a name is missing, and what `At` speaks of at the wildcard that stands for it
pub data HashNameCause (limits : HashLimits) (s : Source) (n : Place) (At : Place → Cause → Type 0) : Cause → Type 0 where
  name_barred : IsBarredBy limits s n → HashNameCause limits s n At Nsec3DnameOrDelegation
  name_ended : {index : ℕ} {why : End} → EndsAt limits s.class s.signer s.groups index why → HashNameCause limits s n At (end_cause why)
  -- a record needs a hash, and as many as may be made are made
  name_exhausted : nsec3_for_not_exists limits s n ≡ exhausted → HashNameCause limits s n At TooManyNsec3Hashes
  -- no candidate has a covered name next to it
  name_unfound : nsec3_for_not_exists limits s n ≡ unfound → HashNameCause limits s n At NoNsec3Proof
  -- the name is missing with Opt-Out alone, and nothing is shown of the wildcard
  name_opted_out : {c : Place} {h : Option ℕ} {index : ℕ} {r : Nsec3At} → nsec3_for_not_exists limits s n ≡ gone c h index true
      → CountsAt limits s.class s.signer s.groups index r → opts_out r ≡ true → CoversHash r (next_closer n c)
      → HashNameCause limits s n At Nsec3OptOut
  -- the name is missing, and the wildcard is no name (RFC 1035 2.3.4)
  no_hashed_wildcard : {c : Place} {h : Option ℕ} {index : ℕ} {opt_out : Bool} → nsec3_for_not_exists limits s n ≡ gone c h index opt_out
      → 255 < wire_length (wildcard c) → HashNameCause limits s n At WildcardTooLong
  -- or the cause is that of the wildcard
  of_wildcard : {c : Place} {h : Option ℕ} {index : ℕ} {cause : Cause} → nsec3_for_not_exists limits s n ≡ gone c h index false
      → At (wildcard c) cause → HashNameCause limits s n At cause

-- why a reply proves nothing: a call by NSEC records gave the cause, or one by NSEC3 records; or none was given
pub data UnprovedBy (ByNsec ByNsec3 : Cause → Type 0) : Cause → Type 0 where
  by_nsec_call : {cause : Cause} → ByNsec cause → UnprovedBy ByNsec ByNsec3 cause
  by_nsec3_call : {cause : Cause} → ByNsec3 cause → UnprovedBy ByNsec ByNsec3 cause
  by_none : UnprovedBy ByNsec ByNsec3 NoDenialProof
