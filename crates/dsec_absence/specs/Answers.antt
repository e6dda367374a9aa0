-- What the NSEC records among a reply's groups deny: the calls of the validator (RFC 4035 5.4).
use Rattle.std.specs.Prelude.{ℕ, ◌+◌, List, [], ◌∷◌, map, Option, Some, None, if◌then◌else◌}
use Rattle.dsec_cause.specs.declared.cause.Cause.{Cause}
use Rattle.dsec_cause.specs.declared.cause.Cause.TheVariants.{NsecFromWildcard, WildcardElsewhere, WildcardTooLong}
use Rattle.dsec_spec.specs.Names.{Place, same_place}
use Rattle.dsec_spec.specs.Redirection.{fitting}
use Rattle.dsec_spec.specs.Zones.{wildcard}
use Rattle.dsec_spec.specs.DenyingRecords.{NsecAt}
use Rattle.dsec_absence.specs.Denials.{Denial, no_type, no_name, no_type_by_wildcard, no_closer}
use Rattle.dsec_absence.specs.Evidence.{Evidence, Sighting, passed, expanded, counts, sighting}
use Rattle.dsec_absence.specs.Tests.{Shown, silent, refutes, denies, shows_type, shows_missing}

-- what a search of groups comes to
pub data Search (A : Type 0) : Type 0 where
  -- the record of the group at this index denies, and with it this
  found : ℕ → A → Search A
  -- a record refutes it, and why
  refuted : Cause → Search A
  -- none decides: why one was refused, if one was
  undecided : Option Cause → Search A

-- by what a record at an index shows, or else by the groups after it
abbrev pub by_shown : {A : Type 0} → ℕ → Shown A → Search A → Search A
by_shown i silent later = later
by_shown i (refutes cause) later = refuted cause
by_shown i (denies a) later = found i a

-- after a group that was refused as an expansion: that is why none decides, where none does
abbrev pub after_expanded : {A : Type 0} → Search A → Search A
after_expanded (found i a) = found i a
after_expanded (refuted cause) = refuted cause
after_expanded (undecided cause) = undecided (Some NsecFromWildcard)

-- what the groups from an index on come to: the first that counts and isn't silent decides
unfoldable pub search : {A : Type 0} → (NsecAt → Shown A) → ℕ → List Sighting → Search A
search shows i [] = undecided None
search shows i (passed ∷ gs) = search shows (i + 1) gs
search shows i (expanded ∷ gs) = after_expanded (search shows (i + 1) gs)
search shows i (counts r ∷ gs) = by_shown i (shows r) (search shows (i + 1) gs)

-- what a call answers
pub data Answer : Type 0 where
  -- it is denied, by the records of the groups at these indexes
  denied : Denial ℕ → Answer
  -- a record shows otherwise, and why
  refused : Cause → Answer
  -- nothing is shown, and why, where there is a cause
  nothing : Option Cause → Answer

-- which denials are looked for: those of a class that a zone has signed, among these groups
pub record Source : Type 0 where
  pub class : ℕ
  pub signer : Place
  pub groups : List Evidence

abbrev pub sightings : Source → List Sighting
sightings s = map (sighting s.class s.signer) s.groups

-- what the records show of a type at a name
abbrev pub type_at : Source → Place → ℕ → Search (Unit {0})
type_at s n q = search (λ r. shows_type r n q) 0 (sightings s)

-- what they show of a name that is to be missing, and its closest encloser
abbrev pub missing : Source → Place → Search Place
missing s n = search (λ r. shows_missing r n) 0 (sightings s)

-- the wildcard under a name, where that is a name (RFC 4592 2.1.1, RFC 1035 2.3.4)
abbrev pub star_closest_encloser : Place → Option Place
star_closest_encloser c = fitting (wildcard c)

-- that a type stands at a name is denied (RFC 4035 5.4)
abbrev pub type_answer : Search (Unit {0}) → Answer
type_answer (found i _) = denied (no_type i)
type_answer (refuted cause) = nothing (Some cause)
type_answer (undecided cause) = nothing cause

abbrev pub nsec_for_nodata : Source → Place → ℕ → Answer
nsec_for_nodata s n q = type_answer (type_at s n q)

-- that a name exists, by its closest encloser, is denied (RFC 4035 5.4)
abbrev pub missing_answer : Search Place → Answer
missing_answer (found i c) = denied (no_closer c i)
missing_answer (refuted cause) = refused cause
missing_answer (undecided cause) = nothing cause

abbrev pub nsec_for_not_exists : Source → Place → Answer
nsec_for_not_exists s n = missing_answer (missing s n)

-- that the type stands at the wildcard which stands for a missing name is denied (RFC 4035 3.1.3.4)
abbrev pub type_below : Place → ℕ → Search (Unit {0}) → Answer
type_below c i (found j _) = denied (no_type_by_wildcard c i j)
type_below c i (refuted cause) = nothing (Some cause)
type_below c i (undecided cause) = nothing cause

abbrev pub type_by_star : Source → ℕ → Place → ℕ → Option Place → Answer
type_by_star s q c i None = nothing (Some WildcardTooLong)
type_by_star s q c i (Some star) = type_below c i (type_at s star q)

abbrev pub type_by_encloser : Source → ℕ → Search Place → Answer
type_by_encloser s q (found i c) = type_by_star s q c i (star_closest_encloser c)
type_by_encloser s q (refuted cause) = nothing (Some cause)
type_by_encloser s q (undecided cause) = nothing cause

abbrev pub nsec_for_nodata_wildcard : Source → Place → ℕ → Answer
nsec_for_nodata_wildcard s n q = type_by_encloser s q (missing s n)

-- that a name exists, or the wildcard which could stand for it, is denied (RFC 4035 3.1.3.2)
abbrev pub name_below : Place → ℕ → Search Place → Answer
name_below c i (found j _) = denied (no_name c i j)
name_below c i (refuted cause) = refused cause
name_below c i (undecided cause) = nothing cause

abbrev pub name_by_star : Source → Place → ℕ → Option Place → Answer
name_by_star s c i None = nothing (Some WildcardTooLong)
name_by_star s c i (Some star) = name_below c i (missing s star)

abbrev pub name_by_encloser : Source → Search Place → Answer
name_by_encloser s (found i c) = name_by_star s c i (star_closest_encloser c)
name_by_encloser s (refuted cause) = nothing (Some cause)
name_by_encloser s (undecided cause) = nothing cause

abbrev pub nsec_for_nxdomain : Source → Place → Answer
nsec_for_nxdomain s n = name_by_encloser s (missing s n)

-- that a name exists for which the wildcard under c stands is denied, by the record that shows c as its closest encloser (RFC 4035 5.3.4)
abbrev pub closer_answer : Place → Search Place → Answer
closer_answer c (found i d) = if same_place d c then denied (no_closer c i) else refused WildcardElsewhere
closer_answer c (refuted cause) = refused cause
closer_answer c (undecided cause) = nothing cause

abbrev pub not_exists_for_wildcard : Source → Place → Place → Answer
not_exists_for_wildcard s n c = closer_answer c (missing s n)
