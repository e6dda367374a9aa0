-- A message judged a step at a time: what it begins with, and what it makes of each input (RFC 4035 4.3, 5).
use Rattle.std.specs.Prelude.{ℕ, List, [], ◌∷◌, ◌++◌, length, take, drop, Option, Some, None, Result, Ok, Err}
use Rattle.dsec_spec.specs.Records.{Record}
use Rattle.dsec_spec.specs.Messages.{Question}
use Rattle.dsec_spec.specs.Groups.{Group, groups_of}
use Rattle.dsec_spec.specs.Redirection.{moved}
use Rattle.dsec_nodes.specs.World.{World}
use Rattle.dsec_nodes.specs.Causes.{TooManyUnsignedCnames}
use Rattle.dsec_nodes.specs.Machine.{Walking, Step, node_get, node_put, ask, done, Input, gets, in_phase, started, name_at, advanced}
use Rattle.dsec_nodes.specs.Judging.{Finding, is_bogus, Judged, by_node, target_of}
use Rattle.dsec_nodes.specs.Outcomes.{Outcome, by_links, by_nothing, bogus_by, unproved_outcome}
use Rattle.dsec_nodes.specs.Alone.{Refusal, unreadable, on_questions, sections_of}
pub use Rattle.dsec_course.specs.Course.{Waiting, to_begin, to_end, for_walk, for_nothing, Course, CourseStep, get_node, put_node, ask_for, end_with, CourseAnswers, Way, at_once, by_walk, way_of}

-- a course with nothing behind it
abbrev pub beginning : ℕ → List ℕ → List Question → ℕ → List Group → Waiting → Course
beginning most message questions answers left waits = record {
  message = message;
  questions = questions;
  most = most;
  answers = answers;
  left = left;
  judged = [];
  walks = [];
  waits = waits;
}

-- the beginning by the groups of both sections, those of CNAME records made for a DNAME record moved to it; too many of them are bogus
-- (RFC 6672 3.1)
abbrev pub begun_with : ℕ → List ℕ → List Question → Option (List Group) → List Group → Course
begun_with most message questions None authorities = beginning most message questions 0 [] (to_end (bogus_by TooManyUnsignedCnames by_nothing))
begun_with most message questions (Some answers) authorities = beginning most message questions (length answers) (answers ++ authorities) to_begin

-- the beginning by the sections, where they can be read
abbrev pub begun_by : List Record → ℕ → List ℕ → Option (List Question × List Record × List Record) → Result Course Refusal
begun_by anchors most message None = Err unreadable
begun_by anchors most message (Some s) = Ok (begun_with most message s.0 (moved anchors most (groups_of s.1)) (groups_of s.2))

-- what judging a message from these anchors begins with, where so many bare CNAME records are followed, and so many aliases; nothing is asked
-- where it can't be read (RFC 1035 4.1)
abbrev pub begun : List Record → ℕ → List ℕ → Result Course Refusal
begun anchors most message = begun_by anchors most message (sections_of message)

-- the same course, waiting for this, with these groups after it
abbrev pub waiting : Course → List Group → Waiting → Course
waiting c left waits = record {
  message = c.message;
  questions = c.questions;
  most = c.most;
  answers = c.answers;
  left = left;
  judged = c.judged;
  walks = c.walks;
  waits = waits;
}

-- the course with one more group that is judged
abbrev pub with_judged : Course → Judged → Course
with_judged c j = record {
  message = c.message;
  questions = c.questions;
  most = c.most;
  answers = c.answers;
  left = c.left;
  judged = c.judged ++ j ∷ [];
  walks = c.walks;
  waits = c.waits;
}

-- the course with one more walk that has ended
abbrev pub with_walk : Course → Walking → Course
with_walk c s = record {
  message = c.message;
  questions = c.questions;
  most = c.most;
  answers = c.answers;
  left = c.left;
  judged = c.judged;
  walks = c.walks ++ s ∷ [];
  waits = c.waits;
}

-- the outcome where all groups are judged, and none is bogus (RFC 4033 5)
abbrev pub at_last : World → Course → Result Outcome Refusal
at_last w c = on_questions w c.most c.message c.questions (take c.answers c.judged) (drop c.answers c.judged)

-- a walk for a group sets out, first to get the node of its island (RFC 4033 2)
abbrev pub setting_out : Course → Group → List Group → Walking → Course × CourseStep
setting_out c group later s = (waiting c later (for_walk group (in_phase s gets)), get_node (name_at s))

-- a group that is judged at once is passed, and judging goes on behind it; for any other a walk sets out (RFC 4035 4.3)
abbrev pub by_way : Group → List Group → Way → (Course → Course × CourseStep) → Course → Course × CourseStep
by_way group later (at_once j) behind c = behind (with_judged c j)
by_way group later (by_walk top) behind c = setting_out c group later (started top (target_of group (Some top)))

-- judging goes on with these groups, in order, to the first that needs a walk, or to the end (RFC 4035 4.3)
unfoldable pub going_on : World → List Group → Course → Course × CourseStep
going_on w [] c = (waiting c [] for_nothing, end_with (at_last w c))
going_on w (g ∷ gs) c = by_way g gs (way_of w g) (going_on w gs) c

-- after a group was judged: a bogus one ends the message, even one that has nothing to do with the question (RFC 4035 5)
abbrev pub by_found : World → Course → Finding → Course × CourseStep
by_found w c (is_bogus cause links) = (waiting c c.left for_nothing, end_with (Ok (bogus_by cause (by_links links))))
by_found w c _ = going_on w c.left c

-- after a step of the walk that is waited for: its step, or judging its group by the node that it has come to (RFC 4035 5)
abbrev pub by_step : World → Course → Group → Walking → Step → Course × CourseStep
by_step w c group s (node_get name) = (waiting c c.left (for_walk group s), get_node name)
by_step w c group s (node_put name n) = (waiting c c.left (for_walk group s), put_node name n)
by_step w c group s (ask name rtype) = (waiting c c.left (for_walk group s), ask_for name rtype)
by_step w c group s (done n) = by_found w (with_judged (with_walk c s) (by_node w group n)) (by_node w group n).finding

-- the step after an input, by what was waited for; what has ended stays as it is
abbrev pub by_waiting : World → Course → Input → Waiting → Course × CourseStep
by_waiting w c input to_begin = going_on w c.left c
by_waiting w c input (to_end o) = (waiting c c.left for_nothing, end_with (Ok o))
by_waiting w c input (for_walk group s) = by_step w c group (advanced w s input).0 (advanced w s input).1
by_waiting w c input for_nothing = (c, end_with (Ok unproved_outcome))

-- the step after what answers the last one (RFC 4035 4.3, 5)
abbrev pub course_advanced : World → Course → Input → Course × CourseStep
course_advanced w c input = by_waiting w c input c.waits
