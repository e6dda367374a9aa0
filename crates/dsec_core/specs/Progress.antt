-- What the code has between the parts of a step.
use Rattle.std.specs.Prelude.{◌≡◌, ◌⊎◌, ◌++◌, ℕ, length, List, [], Option, Some, None, Result, Ok, Err}
use Rattle.std.specs.Option.{option_map}
use Rattle.dsec_spec.specs.Names.{place, IsAtOrBelow}
use Rattle.dsec_spec.specs.Records.{Record}
use Rattle.dsec_spec.specs.Messages.{Question}
use Rattle.dsec_spec.specs.Groups.{Group, groups_of}
use Rattle.dsec_spec.specs.Islands.{island}
use Rattle.dsec_nodes.specs.Causes.{Cause}
use Rattle.dsec_nodes.specs.World.{World}
use Rattle.dsec_nodes.specs.Judging.{Finding, Judged, target_of}
use Rattle.dsec_nodes.specs.Machine.{Step, node_get, node_put, ask, done}
use Rattle.dsec_nodes.specs.Nodes.{Node}
use Rattle.dsec_nodes.specs.Outcomes.{Outcome, by_links, by_nothing, bogus_by, unproved_outcome}
use Rattle.dsec_nodes.specs.Alone.{Refusal}
use Rattle.dsec_course.specs.Course as courses
use Rattle.dsec_course.specs.Course.{Course, CourseStep}
use Rattle.dsec_course.specs.Advancing.{beginning, begun_by, by_found, by_step, by_way, with_judged}
use Rattle.dsec_found.specs.declared.error.Error.{Error}
use Rattle.dsec_found.specs.Errors.{refusal_of}
use Rattle.dsec_found.specs.Outcomes.{bogus_of}
use Rattle.dsec_walk.specs.UnderWay.{IsUnderWay}
use Rattle.dsec_core.specs.declared.step.Next.{Next}
use Rattle.dsec_core.specs.declared.begun.Way.{Way}
use Rattle.dsec_core.specs.declared.begun.Way.TheVariants.{AtOnce, ByWalk}
use Rattle.dsec_core.specs.Views.{next_view}

-- a group is judged at once: it has no record, or no anchor stands at or above where it is looked for (RFC 4033 5)
abbrev pub IsAtOnce : List Record → Group → Type 0
IsAtOnce anchors group = (group.records ≡ []) ⊎ (island anchors (place group.owner) group.rtype ≡ None)

-- how a group is judged: at once, or by a walk from the one name down to the other (RFC 4033 2)
abbrev pub WayIs : {V : Type 0} → Group → courses.Way → Way V → Type 0
WayIs group way (AtOnce judged) = way ≡ courses.at_once judged
WayIs group way (ByWalk own top zone) =
    (own ≡ group) × (way ≡ courses.by_walk (place top)) × (place zone ≡ target_of group (Some (place top))) × IsAtOrBelow (place zone) (place top)

-- the next group is passed, or a walk for it sets out (RFC 4035 4.3)
abbrev pub Passes : {V : Type 0} → World → Group → Course → Course → Option (Next V) → Type 0
Passes w group before after None =
    (after.left ≡ before.left) × ((behind : Course → Course × CourseStep) → by_way group before.left (courses.way_of w group) behind before ≡ behind after)
Passes w group before after (Some next) =
    (behind : Course → Course × CourseStep) → by_way group before.left (courses.way_of w group) behind before ≡ (after, next_view next)

-- the outcome of a message with a bogus group (RFC 4035 5)
abbrev pub ended_by : Finding → Option Outcome
ended_by finding = option_map (λ bogus. bogus_by bogus.0 (by_links bogus.1)) (bogus_of finding)

-- the walk that is waited for can be taken on (RFC 4035 4.5, 5.2)
abbrev pub IsUnderWayAt : World → courses.Waiting → Type 0
IsUnderWayAt w (courses.for_walk group s) = IsUnderWay w s
IsUnderWayAt w courses.to_begin = Unit {0}
IsUnderWayAt w (courses.to_end o) = Unit {0}
IsUnderWayAt w courses.for_nothing = Unit {0}

-- a walk is waited for
abbrev pub IsForWalk : courses.Waiting → Type 0
IsForWalk (courses.for_walk group s) = Unit {0}
IsForWalk courses.to_begin = ⊥
IsForWalk (courses.to_end o) = ⊥
IsForWalk courses.for_nothing = ⊥

-- what follows when a group was judged: a bogus one ends the message, and behind any other judging goes on (RFC 4035 5)
abbrev pub judging : World → Course → Judged → Course × CourseStep
judging w c j = by_found w (with_judged c j) j.finding

-- where the walk that is waited for has come to a node: its group is judged (RFC 4035 5)
abbrev pub arrived_at : World → Course → Node → courses.Waiting → Course × CourseStep
arrived_at w c n (courses.for_walk group s) = by_step w c group s (done n)
arrived_at w c n _ = (c, courses.end_with (Ok unproved_outcome))

-- what is said of a step of the walk that is waited for: the same step; or, where that was its last, what follows when its group is judged
abbrev pub said_of : World → Course → Step → Course × CourseStep
said_of w c (node_get name) = (c, courses.get_node name)
said_of w c (node_put name n) = (c, courses.put_node name n)
said_of w c (ask name rtype) = (c, courses.ask_for name rtype)
said_of w c (done n) = arrived_at w c n c.waits

-- what a message begins with, with the code's word for a refusal (RFC 1035 4.1)
abbrev pub read_as : Result Course Refusal → Result Course Error
read_as (Ok course) = Ok course
read_as (Err refusal) = Err (refusal_of refusal)

-- what a message waits for first: to end with this cause, if there is one, or else to begin (RFC 6672 3.1)
abbrev pub first_wait : Option Cause → courses.Waiting
first_wait (Some cause) = courses.to_end (bogus_by cause by_nothing)
first_wait None = courses.to_begin

-- the answer section's groups are moved, by these anchors, or the message ends at its beginning with this cause (RFC 6672 3.1)
abbrev pub MovesOrEnds : List Record → ℕ → List Group → List Group → Option Cause → Type 0
MovesOrEnds anchors most before after (Some cause) = (message : List ℕ) (s : List Question × List Record × List Record) → groups_of s.1 ≡ before
    → begun_by anchors most message (Some s) ≡ Ok (beginning most message s.0 0 [] (courses.to_end (bogus_by cause by_nothing)))
MovesOrEnds anchors most before after None = (message : List ℕ) (s : List Question × List Record × List Record) → groups_of s.1 ≡ before
    → begun_by anchors most message (Some s) ≡ Ok (beginning most message s.0 (length after) (after ++ groups_of s.2) courses.to_begin)

-- a message with these groups begins with so many of its answer section and these to be judged, and waits for this (RFC 1035 4.1, RFC 6672 3.1)
abbrev pub OpensWith : List Record → ℕ → List Group → List Group → ℕ → List Group → courses.Waiting → Type 0
OpensWith anchors most answers authorities count left waits = (message : List ℕ) (s : List Question × List Record × List Record) → groups_of s.1 ≡ answers → groups_of s.2 ≡ authorities
    → begun_by anchors most message (Some s) ≡ Ok (beginning most message s.0 count left waits)
