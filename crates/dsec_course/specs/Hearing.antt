-- A message judged over nodes that were held before and an upstream: what it was given, and what it put (RFC 4035 4.5).
use Rattle.std.specs.Prelude.{◌⊎◌, ℕ, List, [], ◌∷◌, ◌++◌, Contains, Some, None}
use Rattle.std.specs.List.{AllByRecursion}
use Rattle.dsec_spec.specs.Names.{Place, IsName}
use Rattle.dsec_nodes.specs.World.{World, Replies}
use Rattle.dsec_nodes.specs.Nodes.{Node, Kept}
use Rattle.dsec_nodes.specs.Walk.{node_of}
use Rattle.dsec_nodes.specs.Likeness.{Likeness, Alike}
use Rattle.dsec_nodes.specs.Taking.{Taken}
use Rattle.dsec_nodes.specs.Moments.{MayCount}
use Rattle.dsec_nodes.specs.Machine.{Input, begin, node, stored, reply}
use Rattle.dsec_nodes.specs.InStep.{AskedOf}
use Rattle.dsec_course.specs.Course.{Course, CourseStep, get_node, put_node, ask_for, end_with, CourseAnswers, Awaits, groups_in, walks_in, asked_in}
use Rattle.dsec_course.specs.Advancing.{course_advanced}
use Rattle.dsec_course.specs.Agreeing.{CourseGoes}
use Rattle.dsec_course.specs.Justified.{SoundGoing}

-- a message being judged: its course, the pending step, and the nodes that it has put, in order
pub record Run : Type 0 where
  pub course : Course
  pub step : CourseStep
  pub puts : List Node

-- the node that a step puts
abbrev pub put_by : CourseStep → List Node
put_by (put_node name n) = n ∷ []
put_by (get_node name) = []
put_by (ask_for name rtype) = []
put_by (end_with r) = []

-- a course that has begun
abbrev pub first_run : World → Course → Run
first_run w c = record {
  course = (course_advanced w c begin).0;
  step = (course_advanced w c begin).1;
  puts = put_by (course_advanced w c begin).1;
}

-- it goes on by an input
abbrev pub ran_on : World → Run → Input → Run
ran_on w r input = record {
  course = (course_advanced w r.course input).0;
  step = (course_advanced w r.course input).1;
  puts = r.puts ++ put_by (course_advanced w r.course input).1;
}

-- a node that it is given was held before, or is one that it has put
abbrev pub GivenFrom : (Node → Type 0) → List Node → Input → Type 0
GivenFrom held puts (node (Some n)) = held n ⊎ Contains puts n
GivenFrom held puts (node None) = Unit {0}
GivenFrom held puts begin = Unit {0}
GivenFrom held puts stored = Unit {0}
GivenFrom held puts (reply octets) = Unit {0}

-- inputs one after the other, each of which answers the pending step, and each node of which was held before, or put on the way
abbrev pub AreHeard : World → (Node → Type 0) → Run → List Input → Type 0
AreHeard w held r [] = Unit {0}
AreHeard w held r (i ∷ inputs) = CourseAnswers r.course.waits i × GivenFrom held r.puts i × AreHeard w held (ran_on w r i) inputs

-- what has become of a message after these inputs
abbrev pub after_heard : World → Run → List Input → Run
after_heard w r [] = r
after_heard w r (i ∷ inputs) = after_heard w (ran_on w r i) inputs

-- a node is of a table: where it may count, now or later, it is wholly or but for times the one that the recursion makes at its name at the moment
-- of judging, from the island at which its anchor stands, by these replies; one that was made at another moment can only be so but for times
abbrev pub IsOfTable : Likeness → World → Replies → Node → Type 0
IsOfTable like w replies n = (top : Place) → MayCount w top n → Alike like (node_of w replies top n.name) n

-- a node counts under an island at the moment of judging (RFC 4035 4.5)
abbrev pub CountsAt : World → Node → Place → Type 0
CountsAt w n top = Taken w top n.name n

-- The nodes that the walks of a message have taken were held before, or it has put them, and each counts under the walk's island; the nodes that it
-- has put are kept and count, and by each table of which, wholly or but for times, the held nodes and its replies are, so are they (RFC 4035 4.5)
pub record Traces (w : World) (held : Node → Type 0) (r : Run) : Type 0 where
  pub given : AllByRecursion (λ s. AllByRecursion (λ n. (held n ⊎ Contains r.puts n) × CountsAt w n s.top) s.got) (walks_in r.course)
  pub kept : (n : Node) → Contains r.puts n → Kept w.accepts n
  pub counting : (n : Node) → Contains r.puts n → (top : Place) × CountsAt w n top
  pub of_table : (like : Likeness) (replies : Replies) → ((n : Node) → held n → IsOfTable like w replies n) → AskedOf replies (asked_in r.course)
      → (n : Node) → Contains r.puts n → IsOfTable like w replies n

-- a run that is sound, in step with the recursion, and of what it was given; it waits for what answers its step; and the owners of its groups are
-- names (RFC 1035 2.3.4)
pub record HoldsRun (w : World) (most : ℕ) (message : List ℕ) (held : Node → Type 0) (r : Run) : Type 0 where
  pub sound : SoundGoing w most message (r.course, r.step)
  pub goes : CourseGoes w most message (r.course, r.step)
  pub traced : Traces w held r
  pub awaits : Awaits r.step r.course.waits
  pub named : AllByRecursion (λ g. IsName g.owner) (groups_in r.course)
