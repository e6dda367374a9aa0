-- One step of a message that is judged over caches and an upstream, in code.
use Rattle.std.specs.Prelude.{◌≡◌, ◌≤◌, ℕ, ◌+◌, ◌*◌, List, length, Bool, true, false, Option, Result, Ok, Err}
use Rattle.dsec_spec.specs.Outside.{Table}
use Rattle.dsec_nodes.specs.World.{World}
use Rattle.dsec_course.specs.Course.{Course, CourseStep, get_node, put_node, ask_for, end_with, asked_in}
use Rattle.dsec_course.specs.Hearing.{Run}
use Rattle.dsec_found.specs.declared.error.Error.{Error}
use Rattle.dsec_core.specs.declared.step.Step.{Step}
use Rattle.dsec_context.specs.Outside.{Outside}
use Rattle.dsec_context.specs.Serving.{IsServing}
use Rattle.dsec_context.specs.Judgements.{judgement_at}
use Rattle.dsec_walk.specs.Checks.{sets_at_most}
use Rattle.dsec_context.specs.Checked.{IsJudgingWithin}

-- whether a step is the end
abbrev pub ends : CourseStep → Bool
ends (get_node name) = false
ends (put_node name n) = false
ends (ask_for name rtype) = false
ends (end_with r) = true

-- how many questions a step asks
abbrev pub asks : CourseStep → ℕ
asks (get_node name) = 0
asks (put_node name n) = 0
asks (ask_for name rtype) = 1
asks (end_with r) = 0

-- a message has come to this course and this step
abbrev pub IsAt : World → ℕ → List ℕ → Option Table → Outside → Outside → Course → CourseStep → Type 0
IsAt w most message table before now course step =
    (r : Run) × (r.course ≡ course) × (r.step ≡ step) × IsServing w most message table before now r

-- how many sets were checked at most so far (RFC 4035 5.2, 5.3)
abbrev pub sets_so_far : Course → ℕ
sets_so_far c = sets_at_most (asked_in c) (length c.judged)

-- of two counts of checked signatures the later is greater by no more than what is tried of so many sets
abbrev pub AreFew : World → Course → ℕ → ℕ → Type 0
AreFew w course from to = to ≤ from + sets_so_far course * w.bounds.room

-- where it has come to the next step, few signatures were checked so far; where the call ends with an error, few in all
abbrev pub CountsTo : {V : Type 0} → World → ℕ → List ℕ → Option Table → Outside → Outside → Course → ℕ → ℕ → Result (Step V) Error → Type 0
CountsTo w most message table before now course from to (Ok step) = AreFew w course from to
CountsTo w most message table before now course from to (Err e) = IsJudgingWithin w most message table before now (judgement_at w course (Err e)) from to
