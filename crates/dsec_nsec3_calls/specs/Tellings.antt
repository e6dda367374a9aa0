-- What is told by hashes of a name or a type, as the code keeps it (RFC 5155 8).
use Rattle.std.specs.Prelude.{ℕ, Option, Some, None, if◌then◌else◌}
use Rattle.dsec_spec.specs.Names.{Place}
use Rattle.dsec_absence.specs.Tests.{Shown}
use Rattle.dsec_nsec3.specs.Counting.{HashedSighting, ignored, stops, hashed}
use Rattle.dsec_nsec3.specs.HashedAnswers.{Hashed, disproved, opened, broken, unshown, told_by_end, told_by_shown, told_by_covering}
pub use Rattle.dsec_nsec3.specs.Openings.{opening_index}
use Rattle.dsec_nsec3.specs.Tests.{matches_hash, covers_hash, own_hash_shows}
use Rattle.dsec_nsec3_calls.specs.declared.told.Told.{Told}
use Rattle.dsec_nsec3_calls.specs.declared.told.Told.TheVariants.{Disproved, Opened, Broken, Unshown}

-- what is told, an opening by its group
abbrev pub told_of : Hashed ℕ → Told
told_of (disproved i) = Disproved i
told_of (opened cause by) = Opened cause (opening_index by)
told_of (broken cause) = Broken cause
told_of (unshown cause) = Unshown cause

-- by what the record of the group at an index shows
abbrev pub told_shown : ℕ → Shown (Unit {0}) → Told
told_shown i shown = told_of (told_by_shown i shown)

-- what one group tells, or else what those after it do
abbrev pub told_or : Option Told → Told → Told
told_or None later = later
told_or (Some told) later = told

-- what the group at an index tells of a type at a name, or else what those after it do (RFC 5155 8.5, 8.6)
abbrev pub type_at : Place → ℕ → ℕ → HashedSighting → Hashed ℕ → Hashed ℕ
type_at n q i ignored later = later
type_at n q i (stops why) later = told_by_end i why
type_at n q i (hashed r) later = if matches_hash r n then told_by_shown i (own_hash_shows r n q) else later

-- what it tells of a name that is to be covered, or else what those after it do (RFC 5155 8.4, 8.8)
abbrev pub cover_at : Place → Place → ℕ → HashedSighting → Hashed ℕ → Hashed ℕ
cover_at signer n i ignored later = later
cover_at signer n i (stops why) later = told_by_end i why
cover_at signer n i (hashed r) later = if covers_hash r n then told_by_covering signer n i r else later
