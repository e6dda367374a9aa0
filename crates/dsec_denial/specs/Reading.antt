-- What the code reads of a group before its signatures are tried, and what it then decides; it serves the code alone.
use Rattle.std.specs.Prelude.{ℕ, ◌&&◌, List, [], ◌∷◌, Bool, true, false, Option, Some, None, if◌then◌else◌}
use Rattle.dsec_spec.specs.Groups.{Group}
use Rattle.dsec_spec.specs.Names.{Place, place, is_below}
use Rattle.dsec_spec.specs.Numbers.{DNAME}
use Rattle.dsec_spec.specs.Records.{Record, Key}
use Rattle.dsec_spec.specs.RecordViews.{Nsec, nsec_of}
use Rattle.dsec_spec.specs.Trying.{Tried}
use Rattle.dsec_spec.specs.TypeBitmaps.{has_type}
use Rattle.dsec_wire.specs.DataViews.{nsec_view}
use Rattle.dsec_nodes.specs.Causes.{PrefixNsecFromWildcard, PrefixNsecIsDname, PrefixNsecIsDelegation, NsecNotUsable}
use Rattle.dsec_nodes.specs.MissingDs.{Looked, decided, passed, bogus_at, within_by, insecure_by, if_signed, is_in_range, delegates, by_matching, by_covering}
use Rattle.dsec_nodes.specs.Nodes.{Node}
use Rattle.dsec_node.specs.Views.{ground_view}
use Rattle.dsec_nodes.specs.Signing.{is_expanded}
use Rattle.dsec_nodes.specs.World.{World}
use Rattle.dsec_denial.specs.declared.decision.Decision.{Decision}
use Rattle.dsec_denial.specs.declared.decision.Decision.TheVariants as decision
use Rattle.dsec_denial.specs.declared.finding.DsFinding.{DsFinding}
use Rattle.dsec_denial.specs.declared.finding.DsFinding.TheVariants as found
use Rattle.dsec_denial.specs.declared.finding.SignedAt.{SignedAt}
use Rattle.dsec_denial.specs.declared.reading.Reading.{Reading}
use Rattle.dsec_denial.specs.declared.reading.Reading.TheVariants as reading

-- what the only record of a group says
abbrev pub only : List Record → Option Nsec
only (r ∷ []) = nsec_of r.rdata
only _ = None

-- the record covers the name, and its next name is under it, so that the name is an empty non-terminal (RFC 4592 2.2.2)
abbrev pub shows_empty : Place → Nsec → Place → Bool
shows_empty owner nsec name = is_in_range owner (place nsec.next_name) name && is_below (place nsec.next_name) name

-- what a signed record strictly above the name shows, and whether its next name shows an empty non-terminal
abbrev pub by_above : World → Node → List (List ℕ) → Place → Group → Nsec → Bool → Record × Key → Looked
by_above w zone keys name group nsec is_empty p =
    if is_expanded group p.0 then decided (bogus_at w name PrefixNsecFromWildcard) else
    if has_type nsec.types DNAME then decided (bogus_at w name PrefixNsecIsDname) else
    if delegates nsec then decided (bogus_at w name PrefixNsecIsDelegation) else
    if is_empty then by_covering w zone keys name group p else passed (Some NsecNotUsable)

-- a decision on a group that the pair signs, as nodes have it
abbrev pub decided_by : World → Node → List (List ℕ) → Place → Group → Record × Key → Decision → Looked
decided_by w zone keys name group p decision.Within = decided (within_by w zone keys name group p)
decided_by w zone keys name group p (decision.Insecure basis cause) = decided (insecure_by w zone keys name cause (ground_view basis) group p)
decided_by w zone keys name group p (decision.Bogus cause) = decided (bogus_at w name cause)
decided_by w zone keys name group p (decision.Passed cause) = passed cause

-- a decision with the indexes that it rests on
abbrev pub placed_at : SignedAt → Decision → DsFinding
placed_at at decision.Within = found.Within at
placed_at at (decision.Insecure basis cause) = found.Insecure at basis cause
placed_at at (decision.Bogus cause) = found.Bogus cause
placed_at at (decision.Passed cause) = found.Passed cause

-- whether the record bears on the name
abbrev pub bears : Reading → Bool
bears (reading.Nothing cause) = false
bears (reading.At nsec) = true
bears (reading.Above nsec is_empty) = true
bears reading.Around = true

-- what a reading shows of a group that the pair signs
abbrev pub signed_by : World → Node → List (List ℕ) → Place → Group → Reading → Record × Key → Looked
signed_by w zone keys name group (reading.Nothing cause) p = passed cause
signed_by w zone keys name group (reading.At nsec) p = by_matching w zone keys name group (nsec_view nsec) p
signed_by w zone keys name group (reading.Above nsec is_empty) p = by_above w zone keys name group (nsec_view nsec) is_empty p
signed_by w zone keys name group reading.Around p = by_covering w zone keys name group p

-- what it shows by what trying the group's signatures came to; where it says nothing they aren't asked
abbrev pub by_reading : World → Node → List (List ℕ) → Place → Group → Tried (Record × Key) → Reading → Looked
by_reading w zone keys name group tried (reading.Nothing cause) = passed cause
by_reading w zone keys name group tried (reading.At nsec) = if_signed w name tried (signed_by w zone keys name group (reading.At nsec))
by_reading w zone keys name group tried (reading.Above nsec is_empty) = if_signed w name tried (signed_by w zone keys name group (reading.Above nsec is_empty))
by_reading w zone keys name group tried reading.Around = if_signed w name tried (signed_by w zone keys name group reading.Around)
