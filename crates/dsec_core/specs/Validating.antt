-- A message being judged: what judging it goes by, and its course (RFC 4033 2, RFC 4035 4.3).
use Rattle.std.specs.Prelude.{◌≡◌, ◌+◌, ℕ, List, [], Result, Ok, Err}
use Rattle.dsec_spec.specs.Accepts.{Accepts}
use Rattle.dsec_spec.specs.Records.{Record}
use Rattle.dsec_nodes.specs.World.{World}
use Rattle.dsec_nodes.specs.Machine as machine
use Rattle.dsec_nodes.specs.Machine.{Input}
use Rattle.dsec_nodes.specs.Alone.{Refusal, not_one_question}
use Rattle.dsec_node.specs.Configs.{Settings}
use Rattle.dsec_node.specs.Views.{bounds_of, world_of}
use Rattle.dsec_course.specs.Course.{Waiting, to_begin, to_end, for_walk, for_nothing, Course, CourseStep, end_with}
use Rattle.dsec_course.specs.Justified.{SoundCourse}
use Rattle.dsec_walk.specs.Checks.{most_checked_by}
use Rattle.dsec_walk.specs.UnderWay.{IsInZone}
use Rattle.dsec_found.specs.declared.error.Error.{Error}
use Rattle.dsec_found.specs.declared.error.Error.TheVariants.{FormError, NoMemory}
use Rattle.dsec_found.specs.Errors.{refusal_of}
use Rattle.dsec_core.specs.declared.step.Step.{Step}
use Rattle.dsec_core.specs.Views.{step_view}

-- a message being judged: the trust anchors, the settings, the moment in seconds since 1970, and how far judging it has come
pub record Validating : Type 0 where
  pub anchors : List Record
  pub config : Settings
  pub moment : ℕ
  pub course : Course

-- what judging it goes by, with the signatures that are accepted (RFC 4033 2)
abbrev pub world_by : Accepts → Validating → World
world_by accepts it = world_of accepts it.anchors (bounds_of it.config) it.moment

-- how many bare CNAME records of it are followed, and how many aliases (RFC 6672 3.1, RFC 1034 3.6.2)
abbrev pub most_of : Validating → ℕ
most_of it = it.config.max_cname_dname

-- the same message, with this course
abbrev pub with_course : Validating → Course → Validating
with_course it course = record { anchors = it.anchors; config = it.config; moment = it.moment; course = course }

-- what a message begins with, with the code's word for a refusal (RFC 1035 4.1)
abbrev pub begun_as : List Record → Settings → ℕ → Result Course Refusal → Result Validating Error
begun_as anchors config moment (Ok course) = Ok (record { anchors = anchors; config = config; moment = moment; course = course })
begun_as anchors config moment (Err refusal) = Err (refusal_of refusal)

-- a message that isn't judged any further: nothing is waited for, and no group and no walk is kept
abbrev pub given_up : Course → Course
given_up c = record { message = c.message; questions = c.questions; most = c.most; answers = c.answers; left = []; judged = []; walks = []; waits = for_nothing }

-- the course and the step, or the refusal of a message that hasn't one question; where memory is wanting the course before is given up; no other
-- error comes (RFC 1035 4.1.2)
abbrev pub AdvancesTo : {V : Type 0} → Course × CourseStep → Course → Course → Result (Step V) Error → Type 0
AdvancesTo p before course (Ok step) = (course, step_view step) ≡ p
AdvancesTo p before course (Err FormError) = (course, end_with (Err not_one_question)) ≡ p
AdvancesTo p before course (Err NoMemory) = course ≡ given_up before
AdvancesTo p before course (Err _) = ⊥

-- how many groups are judged by the step that a walk comes to: its own, where this is its end (RFC 4035 5.3)
abbrev pub judged_by : machine.Step → ℕ
judged_by (machine.done n) = 1
judged_by (machine.node_get name) = 0
judged_by (machine.node_put name n) = 0
judged_by (machine.ask name rtype) = 0

-- how many sets are checked at most for what answers a step: those for the step of the walk that is waited for, and its group where it comes to
-- its end by it (RFC 4035 5.2, 5.3)
abbrev pub most_checked_at : World → Waiting → Input → ℕ
most_checked_at w (for_walk group s) i = most_checked_by i s.phase s.reached + judged_by (machine.advanced w s i).1
most_checked_at w to_begin i = 0
most_checked_at w (to_end o) i = 0
most_checked_at w for_nothing i = 0

-- the last zone of the walk that is waited for counts (RFC 4035 5.2)
abbrev pub IsInZoneAt : World → Waiting → Type 0
IsInZoneAt w (for_walk group s) = IsInZone w s.reached
IsInZoneAt w to_begin = Unit {0}
IsInZoneAt w (to_end o) = Unit {0}
IsInZoneAt w for_nothing = Unit {0}

-- what has been judged is sound, and judging can go on (RFC 4033 5)
pub record IsSoundBy (accepts : Accepts) (it : Validating) : Type 0 where
  pub is_sound : SoundCourse (world_by accepts it) (most_of it) it.course.message it.course
  pub in_zone : IsInZoneAt (world_by accepts it) it.course.waits
