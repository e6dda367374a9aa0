-- What the NSEC3 records among a reply's groups deny, or leave open: the calls of the validator (RFC 5155 8.4 to 8.8).
use Rattle.std.specs.Prelude.{ℕ, ◌+◌, ◌==◌, List, [], ◌∷◌, length, take, Bool, true, false, Option, Some, None, if◌then◌else◌}
use Rattle.dsec_cause.specs.declared.cause.Cause.{Cause}
use Rattle.dsec_cause.specs.declared.cause.Cause.TheVariants.{WildcardTooLong, Nsec3IterationsTooHigh, Nsec3BadOwnerHash, Nsec3DnameOrDelegation, TooManyNsec3Hashes, Nsec3OptOut, Nsec3IterationsInsecure, NoNsec3Proof}
use Rattle.dsec_spec.specs.Names.{Place}
use Rattle.dsec_spec.specs.Numbers.{DS}
use Rattle.dsec_spec.specs.DenyingRecords.{Nsec3At, opts_out}
use Rattle.dsec_absence.specs.Tests.{Shown, silent, refutes, denies}
use Rattle.dsec_absence.specs.Answers.{Source, star_closest_encloser}
use Rattle.dsec_nsec3.specs.Counting.{HashLimits, End, too_many_iterations, many_iterations, bad_owner_hash, HashedSighting, ignored, stops, hashed, hashed_sightings}
use Rattle.dsec_nsec3.specs.HashedDenials.{HashedDenial, type_gone, name_gone, wildcard_type_gone}
use Rattle.dsec_nsec3.specs.Tests.{matches_hash, covers_hash, own_hash_shows, is_own_dname}
use Rattle.dsec_nsec3.specs.Walks.{Walk, gone, barred, halted, exhausted, unfound, nsec3_for_not_exists}
use Rattle.dsec_nsec3.specs.Openings.{Opening, by_iterations, by_opt_out}

-- what is told by hashes
pub data Hashed (A : Type 0) : Type 0 where
  -- what was asked about isn't there, and with it this
  disproved : A → Hashed A
  -- it is left open, and why, where a cause is told; and by what
  opened : Option Cause → Opening → Hashed A
  -- the records can't be trusted, and why
  broken : Cause → Hashed A
  -- nothing is shown, and why, where there is a cause
  unshown : Option Cause → Hashed A

-- the group at an index ends the call (RFC 5155 8.1, RFC 9276 3.2)
abbrev pub told_by_end : {A : Type 0} → ℕ → End → Hashed A
told_by_end i too_many_iterations = broken Nsec3IterationsTooHigh
told_by_end i many_iterations = opened (Some Nsec3IterationsInsecure) (by_iterations i)
told_by_end i bad_owner_hash = broken Nsec3BadOwnerHash

-- by what the record that matches the name, of the group at an index, shows of a type there
abbrev pub told_by_shown : ℕ → Shown (Unit {0}) → Hashed ℕ
told_by_shown i silent = unshown None
told_by_shown i (refutes cause) = unshown (Some cause)
told_by_shown i (denies _) = disproved i

-- what the groups from an index on show of a type at a name: the first record that matches the name decides (RFC 5155 8.5, 8.6)
unfoldable pub type_from : Place → ℕ → ℕ → List HashedSighting → Hashed ℕ
type_from n q i [] = unshown None
type_from n q i (ignored ∷ gs) = type_from n q (i + 1) gs
type_from n q i (stops why ∷ gs) = told_by_end i why
type_from n q i (hashed r ∷ gs) = if matches_hash r n then told_by_shown i (own_hash_shows r n q) else type_from n q (i + 1) gs

-- the next closer name of n with the encloser c (RFC 5155 1.3)
abbrev pub next_closer : Place → Place → Place
next_closer n c = take (length c + 1) n

-- what is told of DS at a name by its closest encloser, or else by what is told later: at a missing name none is denied; with Opt-Out the
-- name may be a delegation without DS (RFC 5155 8.6)
abbrev pub ds_by_walk : {A : Type 0} → Place → Walk → Hashed A → Hashed A
ds_by_walk n (gone c at_encloser i false) later = unshown None
ds_by_walk n (gone c at_encloser i true) later = opened (Some Nsec3OptOut) (by_opt_out i (next_closer n c))
ds_by_walk n barred later = later
ds_by_walk n (halted i why) later = told_by_end i why
ds_by_walk n exhausted later = later
ds_by_walk n unfound later = later

-- that a type stands at a name, disproved by the record of the group at an index (RFC 5155 8.5, 8.6)
abbrev pub type_by_hash : HashLimits → Source → Place → ℕ → Hashed ℕ
type_by_hash limits s n q = let at_name = type_from n q 0 (hashed_sightings limits s) in
    if q == DS then ds_by_walk n (nsec3_for_not_exists limits s n) at_name else at_name

-- the same told, with what is made of it
abbrev pub as_told : {A B : Type 0} → (A → B) → Hashed A → Hashed B
as_told f (disproved a) = disproved (f a)
as_told f (opened cause by) = opened cause by
as_told f (broken cause) = broken cause
as_told f (unshown cause) = unshown cause

abbrev pub nsec3_for_nodata : HashLimits → Source → Place → ℕ → Hashed (HashedDenial ℕ)
nsec3_for_nodata limits s n q = as_told type_gone (type_by_hash limits s n q)

-- by a record that covers the name: without Opt-Out it is missing, and with it left open; one with DNAME that is the signer's own says nothing
-- (RFC 5155 6, 8.4, RFC 6840 4.1)
abbrev pub told_by_covering : Place → Place → ℕ → Nsec3At → Hashed ℕ
told_by_covering signer n i r =
    if is_own_dname signer r then unshown (Some Nsec3DnameOrDelegation) else
    if opts_out r then opened None (by_opt_out i n) else disproved i

-- what the groups from an index on show of a name that is to be covered: the first record that covers it decides (RFC 5155 8.4, 8.8)
unfoldable pub cover_from : Place → Place → ℕ → List HashedSighting → Hashed ℕ
cover_from signer n i [] = unshown None
cover_from signer n i (ignored ∷ gs) = cover_from signer n (i + 1) gs
cover_from signer n i (stops why ∷ gs) = told_by_end i why
cover_from signer n i (hashed r ∷ gs) =
    if covers_hash r n then told_by_covering signer n i r else cover_from signer n (i + 1) gs

-- that a name exists whose closest encloser is known, disproved by the record of the group at an index (RFC 5155 8.4, 8.8)
abbrev pub nsec3_for_not_exists_no_ce : HashLimits → Source → Place → Hashed ℕ
nsec3_for_not_exists_no_ce limits s n = cover_from s.signer n 0 (hashed_sightings limits s)

-- what is told of the wildcard where the name is missing with Opt-Out only: whatever isn't shown, the name is left open (RFC 5155 6)
abbrev pub told_under_opt_out : {A : Type 0} → Opening → Hashed ℕ → Hashed A
told_under_opt_out by (disproved j) = opened (Some Nsec3OptOut) by
told_under_opt_out by (opened cause other) = opened (Some Nsec3OptOut) by
told_under_opt_out by (broken cause) = broken Nsec3OptOut
told_under_opt_out by (unshown cause) = unshown (Some Nsec3OptOut)

-- what is told of a name and of the wildcard under its closest encloser, if that is a name (RFC 1035 2.3.4)
abbrev pub told_of_both : {A : Type 0} → (Place → Hashed ℕ) → (ℕ → A) → Opening → Bool → Option Place → Hashed A
told_of_both at_star denial by opt_out None = broken WildcardTooLong
told_of_both at_star denial by false (Some star) = as_told denial (at_star star)
told_of_both at_star denial by true (Some star) = told_under_opt_out by (at_star star)

-- what is told by the closest encloser of a missing name and by the wildcard there, of which `at_star` tells; the denial is that of the
-- encloser, the record at it, the one around the next closer name and the one at the wildcard (RFC 5155 8.4, 8.7)
abbrev pub told_by_walk : {A : Type 0} → Place → (Place → Hashed ℕ) → (Place → Option ℕ → ℕ → ℕ → A) → Walk → Hashed A
told_by_walk n at_star denial (gone c at_encloser i opt_out) =
    told_of_both at_star (denial c at_encloser i) (by_opt_out i (next_closer n c)) opt_out (star_closest_encloser c)
told_by_walk n at_star denial barred = unshown (Some Nsec3DnameOrDelegation)
told_by_walk n at_star denial (halted i why) = told_by_end i why
told_by_walk n at_star denial exhausted = unshown (Some TooManyNsec3Hashes)
told_by_walk n at_star denial unfound = unshown (Some NoNsec3Proof)

-- that the type stands at the wildcard which stands for a missing name is denied (RFC 5155 8.7)
abbrev pub nsec3_for_nodata_wildcard : HashLimits → Source → Place → ℕ → Hashed (HashedDenial ℕ)
nsec3_for_nodata_wildcard limits s n q =
    told_by_walk n (λ star. type_by_hash limits s star q) wildcard_type_gone (nsec3_for_not_exists limits s n)

-- that a name exists, or the wildcard which could stand for it, is denied (RFC 5155 8.4)
abbrev pub nsec3_for_nxdomain : HashLimits → Source → Place → Hashed (HashedDenial ℕ)
nsec3_for_nxdomain limits s n =
    told_by_walk n (λ star. nsec3_for_not_exists_no_ce limits s star) name_gone (nsec3_for_not_exists limits s n)
