-- What groups show of a name, as the code keeps it (RFC 5155 8.3).
use Rattle.std.specs.Prelude.{ℕ, ◌-◌, ◌==◌, Bool, true, false, Option, Some, None, if◌then◌else◌}
use Rattle.dsec_spec.specs.Names.{Place}
use Rattle.dsec_nsec3.specs.Counting.{HashedSighting, ignored, stops, hashed}
use Rattle.dsec_nsec3.specs.Walks as walks
use Rattle.dsec_nsec3.specs.Walks.{matched, covered, unseen, bars, halts, exhausts, look_by}
use Rattle.dsec_nsec3_calls.specs.Sightings.{end_view}
use Rattle.dsec_nsec3_calls.specs.declared.look.Look.{Look}
use Rattle.dsec_nsec3_calls.specs.declared.look.Look.TheVariants.{Matched, Covered, Unseen, Bars, Halts, Exhausts}
use Rattle.dsec_nsec3_calls.specs.declared.look.Glance.{Glance}
use Rattle.dsec_nsec3_calls.specs.declared.look.Glance.TheVariants.{Past, Ends}

-- what groups show, with how many hashes may still be made
abbrev pub look_view : Look → ℕ → walks.Look
look_view (Matched i) left = matched i left
look_view (Covered i opt_out) left = covered i left opt_out
look_view Unseen left = unseen left
look_view Bars left = bars
look_view (Halts i end) left = halts i (end_view end)
look_view Exhausts left = exhausts

-- the zone's name, where the candidate is that
abbrev pub top_of : Bool → Place → Option Place
top_of true signer = Some signer
top_of false signer = None

-- what one group shows, or else what those after it do, for which so many hashes are left
abbrev pub look_at : Option Place → Place → ℕ → ℕ → HashedSighting → (ℕ → walks.Look) → walks.Look
look_at top n i room ignored later = later room
look_at top n i room (stops why) later = halts i why
look_at top n i room (hashed r) later = if room == 0 then exhausts else look_by top n i (room - 1) r (later (room - 1))

-- the same, as the code has it
abbrev pub glance_to : Glance → (ℕ → walks.Look) → walks.Look
glance_to (Past left) later = later left
glance_to (Ends look left) later = look_view look left

-- how many hashes may still be made
abbrev pub glance_left : Glance → ℕ
glance_left (Past left) = left
glance_left (Ends look left) = left
