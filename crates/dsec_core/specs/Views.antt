-- Steps, and what is waited for, of the code as the definitions have them.
use Rattle.std.specs.Prelude.{Ok, Err}
use Rattle.std.specs.Arc.{arc_value}
use Rattle.dsec_spec.specs.Names.{place}
use Rattle.dsec_nodes.specs.Alone.{not_one_question}
use Rattle.dsec_nodes.specs.Outcomes.{bogus_by, by_nothing}
use Rattle.dsec_course.specs.Course as courses
use Rattle.dsec_core.specs.declared.step.Step.{Step}
use Rattle.dsec_core.specs.declared.step.Step.TheVariants.{NodeGet, NodePut, Ask, Done}
use Rattle.dsec_core.specs.declared.step.Next.{Next}
use Rattle.dsec_core.specs.declared.step.Next.TheVariants.{Says, Refuses}
use Rattle.dsec_core.specs.declared.course.Waits.{Waits}
use Rattle.dsec_core.specs.declared.course.Waits.TheVariants.{ToBegin, ToEnd, ForWalk, ForNothing}

-- a step, case by case
abbrev pub step_view : {V : Type 0} → Step V → courses.CourseStep
step_view (NodeGet name) = courses.get_node (place name)
step_view (NodePut name node) = courses.put_node (place name) (arc_value node)
step_view (Ask name rtype) = courses.ask_for (place name) rtype
step_view (Done outcome) = courses.end_with (Ok outcome)

-- the same, or the refusal at the end of a message that hasn't one question (RFC 1035 4.1.2)
abbrev pub next_view : {V : Type 0} → Next V → courses.CourseStep
next_view (Says step) = step_view step
next_view Refuses = courses.end_with (Err not_one_question)

-- what a message waits for, case by case
abbrev pub waits_view : {V : Type 0} → Waits V → courses.Waiting
waits_view ToBegin = courses.to_begin
waits_view (ToEnd cause) = courses.to_end (bogus_by cause by_nothing)
waits_view (ForWalk group walk) = courses.for_walk group walk
waits_view ForNothing = courses.for_nothing
