-- One step of a message leads on.
use Rattle.std.proofs.Common.{◌≡◌, ◌<◌, ℕ, List, Option, None, IfOk, Result, Ok, Err, sym, ap, subst}
use Rattle.dsec_spec.specs.Accepts.{Accepts}
use Rattle.dsec_spec.specs.Outside.{Table}
use Rattle.dsec_nodes.specs.World.{World}
use Rattle.dsec_nodes.specs.Machine.{Input, begin, node, stored, reply}
use Rattle.dsec_found.specs.declared.error.Error.{Error}
use Rattle.dsec_course.specs.Course.{Waiting, for_nothing, Course, CourseStep, get_node, put_node, ask_for, end_with, CourseAnswers, Awaits}
use Rattle.dsec_course.specs.Advancing.{begun, course_advanced}
use Rattle.dsec_course.specs.Hearing.{Run, first_run, ran_on}
use Rattle.dsec_course.specs.Ending.{steps_left}
use Rattle.dsec_course.specs.Justified.{SoundCourse}
use Rattle.dsec_course.proofs.EndingLaws.{course_nearer}
use Rattle.dsec_core.specs.declared.step.Step.{Step}
use Rattle.dsec_core.specs.Validating.{AdvancesTo}
use Rattle.dsec_core.specs.Views.{step_view}
use Rattle.dsec_context.specs.Outside.{Outside, IsServed}
use Rattle.dsec_context.specs.Serving.{IsServing}
use Rattle.dsec_context.specs.Turns.{asks, IsAt}
use Rattle.dsec_context.proofs.ServingLaws.{serving_begins, serving_goes_on, serving_holds}

-- what serves a step answers what is waited for
pub served_answers : (accepts : Accepts) (table : Option Table) (before after : Outside) (step : CourseStep) (waits : Waiting) (i : Input)
    → IsServed accepts table before after step i → Awaits step waits → CourseAnswers waits i
served_answers accepts table before after (get_node name) waits (node o) s a = a o
served_answers accepts table before after (put_node name n) waits stored s a = a
served_answers accepts table before after (ask_for name rtype) waits (reply octets) s a = (a octets).0
served_answers accepts table before after (get_node name) waits begin s a = absurd s
served_answers accepts table before after (get_node name) waits stored s a = absurd s
served_answers accepts table before after (get_node name) waits (reply octets) s a = absurd s
served_answers accepts table before after (put_node name n) waits begin s a = absurd s
served_answers accepts table before after (put_node name n) waits (node o) s a = absurd s
served_answers accepts table before after (put_node name n) waits (reply octets) s a = absurd s
served_answers accepts table before after (ask_for name rtype) waits begin s a = absurd s
served_answers accepts table before after (ask_for name rtype) waits (node o) s a = absurd s
served_answers accepts table before after (ask_for name rtype) waits stored s a = absurd s
served_answers accepts table before after (end_with r) waits i s a = absurd s

-- what a run comes to by an answer
comes_by : {V : Type 0} (w : World) (most : ℕ) (message : List ℕ) (table : Option Table) (before now : Outside) (r : Run) (old course : Course)
    (result : Result (Step V) Error) → IsServing w most message table before now r → AdvancesTo (r.course, r.step) old course result
    → IfOk result (λ x. IsAt w most message table before now course (step_view x))
comes_by w most message table before now r old course (Ok step) s e = (r, ap (λ (p : Course × CourseStep). p.0) (sym e), ap (λ (p : Course × CourseStep). p.1) (sym e), s)
comes_by w most message table before now r old course (Err e) s a = tt

-- a step that was answered
pub turned : {V : Type 0} (w : World) (most : ℕ) (message : List ℕ) (table : Option Table) (before now next : Outside) (old new : Course)
    (step : CourseStep) (i : Input) (result : Result (Step V) Error) → IsAt w most message table before now old step
    → IsServed w.accepts table now next step i → AdvancesTo (course_advanced w old i) old new result
    → IfOk result (λ x. IsAt w most message table before next new (step_view x))
turned w most message table before now next old new step i result (r, at, its, s) served e =
    comes_by w most message table before next (ran_on w r i) old new result
    (serving_goes_on w most message table before now next r i s (subst (λ (x : CourseStep). IsServed w.accepts table now next x i) (sym its) served))
    (subst (λ (c : Course). AdvancesTo (course_advanced w c i) old new result) (sym at) e)

-- where it has come to, it waits for what answers its step
pub at_awaits : (w : World) (most : ℕ) (message : List ℕ) (table : Option Table) (before now : Outside) (course : Course) (step : CourseStep)
    → IsAt w most message table before now course step → Awaits step course.waits
at_awaits w most message table before now course step (r, at, its, s) =
    subst (λ (x : CourseStep). Awaits x course.waits) its (subst (λ (c : Course). Awaits r.step c.waits) at (serving_holds w most message table before now r s).awaits)

-- what is asked is waited for
pub asked_waits : (step : CourseStep) (waits : Waiting) → asks step ≡ 1 → Awaits step waits → waits ≡ for_nothing → ⊥
asked_waits (get_node name) waits e a over = cc
asked_waits (put_node name n) waits e a over = cc
asked_waits (end_with r) waits e a over = cc
asked_waits (ask_for name rtype) waits e a over = (subst (Awaits (ask_for name rtype)) over a None).0

-- the beginning
pub first_turned : {V : Type 0} (w : World) (most : ℕ) (message : List ℕ) (table : Option Table) (before : Outside) (old new : Course)
    (result : Result (Step V) Error) → begun w.anchors most message ≡ Ok old → AdvancesTo (course_advanced w old begin) old new result
    → IfOk result (λ x. IsAt w most message table before before new (step_view x))
first_turned w most message table before old new result e f =
    comes_by w most message table before before (first_run w old) old new result (serving_begins w most message table before old e) f

-- and each answer brings it nearer to its end
pub turned_nearer : {V : Type 0} (w : World) (most : ℕ) (message : List ℕ) (table : Option Table) (before now next : Outside) (old new : Course)
    (step : CourseStep) (i : Input) (result : Result (Step V) Error) → IsAt w most message table before now old step
    → IsServed w.accepts table now next step i → AdvancesTo (course_advanced w old i) old new result
    → IfOk result (λ x. steps_left w new < steps_left w old)
turned_nearer w most message table before now next old new step i (Err e) at served a = tt
turned_nearer w most message table before now next old new step i (Ok x) (r, at, its, s) served a =
    let h = serving_holds w most message table before now r s in
    let answers = served_answers w.accepts table now next step old.waits i served (at_awaits w most message table before now old step (r, at, its, s)) in
    let same : new ≡ (course_advanced w old i).0 = ap (λ (p : Course × CourseStep). p.0) a in
    subst (λ (c : Course). steps_left w c < steps_left w old) (sym same)
    (course_nearer w most message old i (subst (SoundCourse w most message) at h.sound.0) answers)

-- what follows by one world and table follows by the same
pub carried : (P Q : World → Option Table → Type 0) (v w : World) (s t : Option Table) → v ≡ w → s ≡ t → (P v s → Q v s) → P w t → Q w t
carried P Q v w s t e f h p =
    subst (λ (x : World). Q x t) e (subst (Q v) f (h (subst (P v) (sym f) (subst (λ (x : World). P x t) (sym e) p))))
