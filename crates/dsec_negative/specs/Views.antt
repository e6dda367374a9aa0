-- Judged groups as evidence, and what is found in them, as the code keeps it (RFC 4035 5.3, 5.4).
use Rattle.std.specs.Prelude.{ℕ, List}
use Rattle.dsec_spec.specs.Names.{Labels, Place, place}
use Rattle.dsec_spec.specs.SignedBytes.{rightmost}
use Rattle.dsec_spec.specs.DenyingRecords.{NsecAt}
use Rattle.dsec_wire.specs.DataViews.{nsec_view}
use Rattle.dsec_wire.specs.declared.nsec.Nsec.{Nsec}
use Rattle.dsec_nodes.specs.Judging.{Judged}
pub use Rattle.dsec_nodes.specs.ByDenial.{evidence_of}
use Rattle.dsec_nodes.specs.ByDenial as denials
use Rattle.dsec_absence.specs.Evidence as evidence
use Rattle.dsec_absence.specs.Tests.{Shown, silent, refutes, denies}
use Rattle.dsec_absence.specs.Answers.{Search, found, refuted, undecided, Source}
use Rattle.dsec_negative.specs.declared.sighting.Sighting.{Sighting}
use Rattle.dsec_negative.specs.declared.sighting.Sighting.TheVariants.{Passed, Expanded, Counts}
use Rattle.dsec_negative.specs.declared.shown.TypeShown.{TypeShown}
use Rattle.dsec_negative.specs.declared.shown.TypeShown.TheVariants as types
use Rattle.dsec_negative.specs.declared.shown.NameShown.{NameShown}
use Rattle.dsec_negative.specs.declared.shown.NameShown.TheVariants as names
use Rattle.dsec_negative.specs.declared.nodata.TypeSearch.{TypeSearch}
use Rattle.dsec_negative.specs.declared.nodata.TypeSearch.TheVariants as type_searches
use Rattle.dsec_negative.specs.declared.missing.NameSearch.{NameSearch}
use Rattle.dsec_negative.specs.declared.missing.NameSearch.TheVariants as name_searches

-- where denials are looked for
abbrev pub source_of : List Judged → ℕ → Labels → Source
source_of groups class signer = denials.source_of groups class (place signer)

-- an NSEC record at its owner
abbrev pub record_at : Labels → Nsec → NsecAt
record_at owner nsec = record { owner = owner; says = nsec_view nsec }

-- what a group with this owner is to a denial
abbrev pub sighting_view : Labels → Sighting → evidence.Sighting
sighting_view owner Passed = evidence.passed
sighting_view owner Expanded = evidence.expanded
sighting_view owner (Counts nsec) = evidence.counts (record_at owner nsec)

-- what a record shows of a type
abbrev pub type_shown : TypeShown → Shown (Unit {0})
type_shown types.Silent = silent
type_shown (types.Refutes cause) = refutes cause
type_shown types.Denies = denies tt

-- what a record shows of a name, whose closest encloser has so many labels
abbrev pub name_shown : Labels → NameShown → Shown Place
name_shown name names.Silent = silent
name_shown name (names.Refutes cause) = refutes cause
name_shown name (names.Denies labels) = denies (place (rightmost labels name))

-- what a search for a type came to
abbrev pub type_search : TypeSearch → Search (Unit {0})
type_search (type_searches.Found index) = found index tt
type_search (type_searches.Refuted cause) = refuted cause
type_search (type_searches.Undecided cause) = undecided cause

-- what a search for a name came to, whose closest encloser has so many labels
abbrev pub name_search : Labels → NameSearch → Search Place
name_search name (name_searches.Found index labels) = found index (place (rightmost labels name))
name_search name (name_searches.Refuted cause) = refuted cause
name_search name (name_searches.Undecided cause) = undecided cause
