-- What a call promises that validates a single group over caches and an upstream (RFC 4033 5, RFC 4035 4.3, 4.5, 5).
use Rattle.std.specs.Prelude.{◌≡◌, ◌≤◌, ◌+◌, ℕ, List, [], ◌++◌, length, Option, Some, None, IfSome, Result, Ok, Err}
use Rattle.dsec_spec.specs.Names.{Place}
use Rattle.dsec_spec.specs.Outside.{Table}
use Rattle.dsec_spec.specs.Groups.{Group}
use Rattle.dsec_group.specs.declared.state.ValidationState.TheVariants.{Insecure, Indeterminate}
use Rattle.dsec_nodes.specs.World.{World, Replies, moment}
use Rattle.dsec_nodes.specs.Causes.{RrsigWithoutRrset, NoTrustAnchor}
use Rattle.dsec_nodes.specs.Nodes.{Node}
use Rattle.dsec_nodes.specs.Walk.{node_of}
use Rattle.dsec_nodes.specs.Machine.{Question as Asked, Step, Input, done}
use Rattle.dsec_nodes.specs.Likeness.{Likeness}
use Rattle.dsec_nodes.specs.InStep.{AskedOf}
use Rattle.dsec_nodes.specs.Judging.{by_node, target_of, judged_of}
use Rattle.dsec_course.specs.Course.{Way, at_once, by_walk, way_of}
use Rattle.dsec_course.specs.Justified.{most_on}
use Rattle.dsec_node.specs.Caches.{Lasting}
use Rattle.dsec_lookup.specs.Outside.{Outside, AreCounted, WasHeld, HoldsMore, HoldsAlike, HoldsTable}
use Rattle.dsec_lookup.specs.Finding.{LeadTo, AreStored}
use Rattle.dsec_by_node.specs.Answers.{Answer, answer_by, Told}
use Rattle.dsec_by_node.specs.WithNode.{IsShownBy}
use Rattle.dsec_single.specs.Trips.{put_in, first_trip, AreGiven, calls_in, after_given}

-- the zone that is to have signed a group, by how it is judged; the root for one of signatures alone (RFC 4035 5.3.1)
abbrev pub zone_on : Group → Way → Place
zone_on group (at_once j) = j.signer
zone_on group (by_walk top) = target_of group (Some top)

abbrev pub zone_for : World → Group → Place
zone_for w group = zone_on group (way_of w group)

-- how many questions are asked for a group at most: one at its island, and two at each name below it down to its zone; none where it is judged
-- at once (RFC 4035 5.2)
abbrev pub most_by : Group → Way → ℕ
most_by group (at_once j) = 0
most_by group (by_walk top) = most_on (top, target_of group (Some top))

abbrev pub most_asked_for : World → Group → ℕ
most_asked_for w group = most_by group (way_of w group)

-- what is told of a group of signatures alone, and of one at or above which no anchor stands (RFC 4033 5, RFC 4035 5.3)
abbrev pub of_signatures_alone : Told
of_signatures_alone = record { answer = record { state = Insecure; closest_encloser = None; cause = Some RrsigWithoutRrset; adjusted = None }; shown = None }

abbrev pub of_no_island : Told
of_no_island = record { answer = record { state = Indeterminate; closest_encloser = None; cause = Some NoTrustAnchor; adjusted = None }; shown = None }

-- what a call tells, if it finds memory
abbrev pub answered : {A E : Type 0} → Result A E → (A → Told) → Option Told
answered (Ok a) told = Some (told a)
answered (Err e) told = None

-- the answer is this one; want of memory may come in its place
abbrev pub Tells : Answer → Option Told → Type 0
Tells expected (Some told) = told.answer ≡ expected
Tells expected None = Unit {0}

-- what is told is that of the node with which a walk ends, and shown by it; want of memory may come at any step (RFC 4033 2, RFC 4035 4.3)
abbrev pub TellsAt : World → Group → Step → Option Told → Type 0
TellsAt w group step (Some told) =
    (n : Node) × (step ≡ done n) × (told.answer ≡ answer_by group (moment w) (by_node w group n).finding) × IsShownBy w group n told
TellsAt w group step None = Unit {0}

-- what shows it by a table: the recursion's node for the group's zone; nothing, where it is judged at once (RFC 4033 2)
abbrev pub ShowsOn : World → Replies → Group → Option Told → Way → Type 0
ShowsOn w replies group (Some told) (at_once j) = told.shown ≡ None
ShowsOn w replies group (Some told) (by_walk top) = IsShownBy w group (node_of w replies top (target_of group (Some top))) told
ShowsOn w replies group None way = Unit {0}

-- The questions, with their replies, and the nodes that were put are those of a walk from the island to the group's zone, and what is told is that of
-- its end, or none by a step that isn't taken any more: it was given inputs, whose nodes were held when the call began or were put on the way; caches that
-- forget none gave at each get what they held then, if they found memory (RFC 4035 4.3, 5)
pub record WasWalked (w : World) (group : Group) (held : Node → Type 0) (first last : Option Lasting) (top : Place) (asked : List Asked) (puts : List Node) (told : Option Told) : Type 0 where
  pub inputs : List Input
  pub given : AreGiven w held (first_trip w top (target_of group (Some top))) inputs
  pub found : LeadTo first (calls_in w (first_trip w top (target_of group (Some top))) inputs) last
  pub are : asked ≡ (after_given w (first_trip w top (target_of group (Some top))) inputs).walk.asked
  pub puts_are : puts ++ put_in (after_given w (first_trip w top (target_of group (Some top))) inputs).step
      ≡ (after_given w (first_trip w top (target_of group (Some top))) inputs).puts
  pub tells : TellsAt w group (after_given w (first_trip w top (target_of group (Some top))) inputs).step told

-- the group was judged in its way: at once, and nothing was asked, put or shown, or by a walk (RFC 4035 4.3)
abbrev pub WasJudged : World → Group → (Node → Type 0) → Option Lasting → Option Lasting → List Asked → List Node → Option Told → Way → Type 0
WasJudged w group held first last asked puts told (at_once j) =
    (asked ≡ []) × (puts ≡ []) × (last ≡ first) × Tells (answer_by group (moment w) j.finding) told × IfSome told (λ it. it.shown ≡ None)
WasJudged w group held first last asked puts told (by_walk top) = WasWalked w group held first last top asked puts told

-- at most one question finds no memory, and then neither does the call
abbrev pub IsWanting : Option Told → ℕ → Type 0
IsWanting (Some told) lost = lost ≡ 0
IsWanting None lost = lost ≤ 1

-- by a table of which is all that was held and heard, whenever what was held was made, the answer is that of the recursion, shown by the recursion's
-- node, and all that is held afterwards is of it (RFC 4033 2, 5, RFC 4035 4.5)
pub record AgreesOn (w : World) (group : Group) (after : Outside) (told : Option Told) (replies : Replies) : Type 0 where
  pub tells : Tells (answer_by group (moment w) (judged_of w replies group).finding) told
  pub shows : ShowsOn w replies group told (way_of w group)
  pub holds : HoldsTable w replies after.held

-- What a call promises: there is a list of its questions with their replies, and one of the nodes that it put. The questions are counted, and few;
-- no other node is held afterwards that wasn't before, and by caches that forget none all that were put are held but those that have found no memory;
-- the group was judged by them, and where all that was held and heard is of one table what is
-- told is that of the table; where it is wholly of it, so is all that is held afterwards. An upstream that tells nothing has many tables: by each of
-- them that has these replies, it is that of the table (RFC 4033 5, RFC 4035 4.3, 4.5, 5)
pub record IsSingleCall (w : World) (group : Group) (table : Option Table) (before after : Outside) (told : Option Told) : Type 0 where
  pub asked : List Asked
  pub lost : ℕ
  pub counted : AreCounted table before after asked lost
  pub few : length asked + lost ≤ most_asked_for w group
  pub puts : List Node
  pub holds_more : HoldsMore before.held after.held puts
  pub stores : AreStored before.lasting after.lasting puts
  pub wanting : IsWanting told lost
  pub judged : WasJudged w group (WasHeld w.accepts before.held) before.lasting after.lasting asked puts told (way_of w group)
  pub agrees : (replies : Replies) → HoldsTable w replies before.held → AskedOf replies asked → AgreesOn w group after told replies
  pub stays : (like : Likeness) (replies : Replies) → HoldsAlike like w replies before.held → AskedOf replies asked → HoldsAlike like w replies after.held
