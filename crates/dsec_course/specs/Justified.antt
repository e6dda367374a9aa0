-- Courses that are sound: each judged group is what was found of it, each node put is kept, and no walk asks too much (RFC 4033 5, RFC 4035 5).
use Rattle.std.specs.Prelude.{◌≡◌, ◌≤◌, ◌-◌, ◌+◌, ◌*◌, ℕ, List, [], ◌∷◌, ◌++◌, length, map, filter_map, false, Option, Some, None, Result, Ok, Err}
use Rattle.std.specs.List.{AllByRecursion, sum_by}
use Rattle.dsec_spec.specs.Names.{Place}
use Rattle.dsec_spec.specs.Records.{Record}
use Rattle.dsec_spec.specs.Messages.{Question, questions_of}
use Rattle.dsec_spec.specs.Groups.{Group, groups_of}
use Rattle.dsec_spec.specs.Redirection.{moved}
use Rattle.dsec_nodes.specs.World.{World}
use Rattle.dsec_nodes.specs.Nodes.{IsBogus}
use Rattle.dsec_nodes.specs.Machine.{Walking}
use Rattle.dsec_nodes.specs.InStep.{IsCounted}
use Rattle.dsec_nodes.specs.SoundSteps.{KeptUnder, SoundStep}
use Rattle.dsec_nodes.specs.Judging.{target_of}
use Rattle.dsec_nodes.specs.Outcomes.{Outcome}
use Rattle.dsec_nodes.specs.Alone.{Refusal, not_one_question, sections_of}
use Rattle.dsec_nodes.specs.SoundOutcomes.{IsJustified}
use Rattle.dsec_course.specs.Course.{Waiting, to_begin, to_end, for_walk, for_nothing, Course, CourseStep, get_node, put_node, ask_for, end_with, Way, at_once, by_walk, way_of}
use Rattle.dsec_course.specs.Agreeing.{IsFor}
pub use Rattle.dsec_nodes.specs.SoundFindings.{Justifies, IsFound, IsSure}

-- from which island to which zone a walk is
abbrev pub route : Walking → Place × Place
route s = (s.top, s.target)

abbrev pub route_by : Group → Way → Option (Place × Place)
route_by group (at_once j) = None
route_by group (by_walk top) = Some (top, target_of group (Some top))

-- from which island to which zone the walk for a group is, if it needs one (RFC 4035 5.3.1)
abbrev pub route_of : World → Group → Option (Place × Place)
route_of w group = route_by group (way_of w group)

-- how many questions are asked at most from an island to a zone: one at the island, and two at each name below it (RFC 4035 5.2)
abbrev pub most_on : Place × Place → ℕ
most_on r = 1 + 2 * (length r.1 - length r.0)

-- how many questions are asked at most for these groups
abbrev pub most_for : World → List Group → ℕ
most_for w groups = sum_by most_on (filter_map (route_of w) groups)

-- the walks that have ended are those for the judged groups, in order, and none of them asked more than it may
pub record IsPaced (w : World) (c : Course) : Type 0 where
  pub routes : map route c.walks ≡ filter_map (route_of w) (map (λ j. j.group) c.judged)
  pub counted : AllByRecursion (λ s. length s.asked ≤ most_on (route s)) c.walks

-- the questions of a message, and the groups of its answer section, CNAME records that follow from a DNAME record moved to it, where none of
-- the anchors stands between, and of its authority section (RFC 1035 4.1, RFC 6672 3.1)
pub record AreRead (anchors : List Record) (most : ℕ) (message : List ℕ) (questions : List Question) (answers authorities : List Group) : Type 0 where
  pub sections : List Question × List Record × List Record
  pub read : sections_of message ≡ Some sections
  pub asks : questions ≡ sections.0
  pub answers_are : moved anchors most (groups_of sections.1) ≡ Some answers
  pub authorities_are : groups_of sections.2 ≡ authorities

-- the judged groups and these after them are the groups of the message, in order, so many of them the answer section's
pub record IsOpen (anchors : List Record) (most : ℕ) (message : List ℕ) (c : Course) (groups : List Group) : Type 0 where
  pub answers : List Group
  pub authorities : List Group
  pub read : AreRead anchors most message c.questions answers authorities
  pub split : c.answers ≡ length answers
  pub in_order : map (λ j. j.group) c.judged ++ groups ≡ answers ++ authorities

-- what has been judged of the message is sound, none of it bogus, with these groups still to be judged
pub record SoundSoFar (w : World) (most : ℕ) (message : List ℕ) (c : Course) (groups : List Group) : Type 0 where
  pub same_message : c.message ≡ message
  pub same_most : c.most ≡ most
  pub found : AllByRecursion (IsFound w) c.judged
  pub sure : AllByRecursion (λ j. IsSure j.finding) c.judged
  pub paced : IsPaced w c
  pub opened : IsOpen w.anchors most message c groups

-- a course that is sound, by what it waits for
abbrev pub SoundCourseAt : World → ℕ → List ℕ → Course → Waiting → Type 0
SoundCourseAt w most message c to_begin = SoundSoFar w most message c c.left
SoundCourseAt w most message c (to_end o) = IsJustified w most message o o.state × (c.judged ≡ []) × (c.walks ≡ [])
SoundCourseAt w most message c (for_walk group s) =
    SoundSoFar w most message c (group ∷ c.left) × IsFor w group s × SoundStep w s × IsCounted s
SoundCourseAt w most message c for_nothing = AllByRecursion (IsFound w) c.judged × IsPaced w c

-- a course that is sound: what it has judged, and what it waits for (RFC 4033 5)
abbrev pub SoundCourse : World → ℕ → List ℕ → Course → Type 0
SoundCourse w most message c = SoundCourseAt w most message c c.waits

-- the end of a message: an outcome that is justified; or a refusal, which comes only where it hasn't one question (RFC 4033 5, RFC 1035 4.1.2)
abbrev pub IsEnd : World → ℕ → List ℕ → Result Outcome Refusal → Type 0
IsEnd w most message (Ok o) = IsJustified w most message o o.state
IsEnd w most message (Err e) =
    (e ≡ not_one_question) × ((question : Question) (rest : ℕ) → questions_of message ≡ Some (question ∷ [], rest) → ⊥)

-- a node that is put is kept, is the name's, counts at the moment of judging, and has an anchor of the island's; the end is one
-- (RFC 4035 4.5, RFC 4033 5)
abbrev pub CourseStepSound : World → ℕ → List ℕ → CourseStep → Waiting → Type 0
CourseStepSound w most message (put_node name n) (for_walk group s) = KeptUnder w s.top name n × (IsBogus n.standing ≡ false)
CourseStepSound w most message (put_node name n) _ = ⊥
CourseStepSound w most message (end_with r) waits = IsEnd w most message r
CourseStepSound w most message (get_node name) waits = Unit {0}
CourseStepSound w most message (ask_for name rtype) waits = Unit {0}

-- a course and its next step are sound (RFC 4033 5)
abbrev pub SoundGoing : World → ℕ → List ℕ → Course × CourseStep → Type 0
SoundGoing w most message p = SoundCourse w most message p.0 × CourseStepSound w most message p.1 p.0.waits
