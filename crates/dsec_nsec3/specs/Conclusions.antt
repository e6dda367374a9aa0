-- What a reply that denies comes to, by its NSEC records and then by its NSEC3 records (RFC 2308 2.1, 2.2, RFC 4035 5.4, RFC 5155 8).
use Rattle.std.specs.Prelude.{ℕ, Bool, Option, None, unwrap_or, if◌then◌else◌}
use Rattle.std.specs.Option.{option_or}
use Rattle.dsec_cause.specs.declared.cause.Cause.{Cause}
use Rattle.dsec_cause.specs.declared.cause.Cause.TheVariants.{NoDenialProof}
use Rattle.dsec_spec.specs.Names.{Place, is_below}
use Rattle.dsec_absence.specs.Denials.{Denial}
use Rattle.dsec_absence.specs.Answers.{Answer, denied, refused, nothing, Source, nsec_for_nodata, nsec_for_nodata_wildcard, nsec_for_nxdomain, not_exists_for_wildcard}
use Rattle.dsec_absence.specs.Replies.{then_answer}
use Rattle.dsec_nsec3.specs.Counting.{HashLimits}
use Rattle.dsec_nsec3.specs.HashedDenials.{HashedDenial, closer_gone}
use Rattle.dsec_nsec3.specs.Openings.{Opening}
use Rattle.dsec_nsec3.specs.HashedAnswers.{Hashed, disproved, opened, broken, unshown, as_told, next_closer, nsec3_for_nodata, nsec3_for_nodata_wildcard, nsec3_for_nxdomain, nsec3_for_not_exists_no_ce}

-- what a reply that denies comes to
pub data Conclusion : Type 0 where
  -- it is proved, by the NSEC records of the groups at these indexes
  proved : Denial ℕ → Conclusion
  -- it is proved by NSEC3 records
  hash_proved : HashedDenial ℕ → Conclusion
  -- it is left open, and why, where a cause is told; and by which NSEC3 record
  left_open : Option Cause → Opening → Conclusion
  -- it isn't proved, and why
  unproved : Cause → Conclusion

-- one call by NSEC3 after another, where the first shows nothing; the last cause is left
abbrev pub then_told : {A : Type 0} → Hashed A → Hashed A → Hashed A
then_told (disproved d) later = disproved d
then_told (opened cause by) later = opened cause by
then_told (broken cause) later = broken cause
then_told (unshown cause) (disproved d) = disproved d
then_told (unshown cause) (opened why by) = opened why by
then_told (unshown cause) (broken why) = broken why
then_told (unshown cause) (unshown later) = unshown (option_or later cause)

-- by what NSEC3 records tell, where NSEC records showed nothing, with this cause; the last cause is left, or else that nothing proves it
abbrev pub concluded_by_hash : Option Cause → Hashed (HashedDenial ℕ) → Conclusion
concluded_by_hash cause (disproved d) = hash_proved d
concluded_by_hash cause (opened why by) = left_open why by
concluded_by_hash cause (broken why) = unproved why
concluded_by_hash cause (unshown later) = unproved (unwrap_or (option_or later cause) NoDenialProof)

-- by what NSEC records answer, and then by what NSEC3 records tell (RFC 4035 5.4, RFC 5155 8)
abbrev pub concluded : Answer → Hashed (HashedDenial ℕ) → Conclusion
concluded (denied d) later = proved d
concluded (refused cause) later = unproved cause
concluded (nothing cause) later = concluded_by_hash cause later

-- that a type stands at a name: the name hasn't the type, or the wildcard that stands for it hasn't (RFC 2308 2.2, RFC 4035 3.1.3.1, 3.1.3.4,
-- RFC 5155 8.5 to 8.7)
abbrev pub type_denied : HashLimits → Source → Place → ℕ → Conclusion
type_denied limits s n q =
    concluded (then_answer (nsec_for_nodata s n q) (nsec_for_nodata_wildcard s n q))
    (then_told (nsec3_for_nodata limits s n q) (nsec3_for_nodata_wildcard limits s n q))

-- that a name exists (RFC 2308 2.1, RFC 4035 3.1.3.2, RFC 5155 8.4)
abbrev pub name_denied : HashLimits → Source → Place → Conclusion
name_denied limits s n = concluded (nsec_for_nxdomain s n) (nsec3_for_nxdomain limits s n)

-- the same told, without its cause where it is left open
abbrev pub without_cause : {A : Type 0} → Hashed A → Hashed A
without_cause (disproved a) = disproved a
without_cause (opened cause by) = opened None by
without_cause (broken cause) = broken cause
without_cause (unshown cause) = unshown cause

-- that the next closer name exists, for a name for which the wildcard under c stands; nothing is told of one that isn't at or below the zone's
-- apex (RFC 5155 8.8)
abbrev pub closer_by_hash : HashLimits → Source → Place → Place → Hashed (HashedDenial ℕ)
closer_by_hash limits s n c =
    if is_below (next_closer n c) s.signer
    then without_cause (as_told (closer_gone c) (nsec3_for_not_exists_no_ce limits s (next_closer n c))) else unshown None

-- that a name exists for which the wildcard under c stands (RFC 4035 5.3.4, RFC 5155 8.8)
abbrev pub closer_denied : HashLimits → Source → Place → Place → Conclusion
closer_denied limits s n c = concluded (not_exists_for_wildcard s n c) (closer_by_hash limits s n c)

-- what is denied at a name: without an error the type, and else the name (RFC 2308 2)
abbrev pub denied_at : HashLimits → Bool → Source → Place → ℕ → Conclusion
denied_at limits no_error s n q = if no_error then type_denied limits s n q else name_denied limits s n
