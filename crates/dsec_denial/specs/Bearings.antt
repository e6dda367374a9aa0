-- How the code finds that an NSEC3 record bears on a name, and what is then decided; it serves the code alone.
use Rattle.std.specs.Prelude.{ℕ, List, Bool, Option, Result, Ok, Err}
use Rattle.dsec_cause.specs.declared.cause.Cause.{Cause}
use Rattle.dsec_spec.specs.Groups.{Group}
use Rattle.dsec_spec.specs.Names.{Place}
use Rattle.dsec_spec.specs.Records.{Record, Key}
use Rattle.dsec_spec.specs.RecordViews.{Nsec3}
use Rattle.dsec_spec.specs.Trying.{Tried}
use Rattle.dsec_nodes.specs.MissingByHash.{by_own_hash, by_hash_gap, by_iterations}
use Rattle.dsec_nodes.specs.MissingDs.{Looked, passed, if_signed}
use Rattle.dsec_nodes.specs.Nodes.{Node}
use Rattle.dsec_nodes.specs.World.{World}
use Rattle.dsec_denial.specs.declared.bearing.Bearing.{Bearing}
use Rattle.dsec_denial.specs.declared.bearing.Bearing.TheVariants.{Iterates, Matches, Covers}

-- what a group shows that the pair signs, whose record bears on the name so
abbrev pub bearing_by : World → Node → List (List ℕ) → Place → Group → Nsec3 → Bearing → Record × Key → Looked
bearing_by w zone keys name group nsec3 (Iterates too_many) p = by_iterations w zone keys name group too_many p
bearing_by w zone keys name group nsec3 Matches p = by_own_hash w zone keys name group nsec3 p
bearing_by w zone keys name group nsec3 (Covers redirects) p = by_hash_gap w zone keys name group nsec3 redirects p

-- what it shows by what trying the group's signatures came to; where the record doesn't bear on the name they aren't asked
abbrev pub by_bearing : World → Node → List (List ℕ) → Place → Group → Nsec3 → Tried (Record × Key) → Result Bearing (Option Cause) → Looked
by_bearing w zone keys name group nsec3 tried (Ok bearing) = if_signed w name tried (bearing_by w zone keys name group nsec3 bearing)
by_bearing w zone keys name group nsec3 tried (Err cause) = passed cause
