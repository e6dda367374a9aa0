-- The questions of a message are counted step by step, and are few.
use Rattle.std.proofs.Common.{◌≡◌, ◌+◌, ◌≤◌, ◌∷◌, ◌++◌, [], ℕ, List, length, Option, None, IfOk, Result, Ok, Err, refl, sym, ap, ◌∙◌, subst, arith}
use Rattle.std.proofs.lemmas.List.{length-append}
use Rattle.dsec_spec.specs.Names.{Place}
use Rattle.dsec_spec.specs.Outside.{Table}
use Rattle.dsec_nodes.specs.World.{World}
use Rattle.dsec_nodes.specs.Nodes.{Node}
use Rattle.dsec_nodes.specs.Machine.{Question as Asked, Input, begin, node, stored, reply}
use Rattle.dsec_found.specs.declared.error.Error.{Error}
use Rattle.dsec_course.specs.Course.{Course, CourseStep, get_node, put_node, ask_for, end_with, CourseAnswers, Awaits, asked_in}
use Rattle.dsec_course.specs.Advancing.{begun, course_advanced}
use Rattle.dsec_course.specs.Hearing.{Run, put_by, first_run, ran_on}
use Rattle.dsec_course.proofs.RunLaws.{run_asked, run_got, run_put, heard_more, after_more}
use Rattle.dsec_core.specs.declared.step.Step.{Step}
use Rattle.dsec_core.specs.Validating.{AdvancesTo}
use Rattle.dsec_core.specs.Views.{step_view}
use Rattle.dsec_context.specs.Outside.{Outside, WasHeld, IsServed}
use Rattle.dsec_context.specs.Calls.{WereHeard, most_questions}
use Rattle.dsec_context.specs.Turns.{asks, IsAt}
use Rattle.dsec_context.proofs.ServingLaws.{serving_holds, begins_unasked, of_no_caches}
use Rattle.dsec_context.proofs.CallLaws.{were_heard, heard_few}

-- each answer counts the question of its step
pub turned_asked : {V : Type 0} (w : World) (most : ℕ) (message : List ℕ) (table : Option Table) (before now next : Outside) (old new : Course)
    (step : CourseStep) (i : Input) (result : Result (Step V) Error) → IsAt w most message table before now old step
    → IsServed w.accepts table now next step i → AdvancesTo (course_advanced w old i) old new result
    → IfOk result (λ x. length (asked_in new) ≡ length (asked_in old) + asks step)
turned_asked w most message table before now next old new step i (Err e) at served a = tt
turned_asked w most message table before now next old new step i (Ok x) (r, at, its, s) served a = by step i its served a
  where
    grown : (j : Input) → (new, step_view x) ≡ course_advanced w old j → length (asked_in new) ≡ length (asked_in (ran_on w r j).course)
    grown j e =
        ap (λ (p : Course × CourseStep). length (asked_in p.0)) e ∙ ap (λ (c : Course). length (asked_in (course_advanced w c j).0)) (sym at)

    old_is : length (asked_in r.course) ≡ length (asked_in old)
    old_is = ap (λ (c : Course). length (asked_in c)) at

    by : (y : CourseStep) (j : Input) → r.step ≡ y → IsServed w.accepts table now next y j → (new, step_view x) ≡ course_advanced w old j
        → length (asked_in new) ≡ length (asked_in old) + asks y
    by (get_node name) (node o) e z f =
        let l = ap length (run_got w most message (WasHeld w.accepts before.held) r name o (serving_holds w most message table before now r s) e) in
        omega (arith, grown (node o) f, l, old_is)
    by (put_node name n) stored e z f =
        let l = ap length (run_put w most message (WasHeld w.accepts before.held) r name n (serving_holds w most message table before now r s) e) in
        omega (arith, grown stored f, l, old_is)
    by (ask_for name rtype) (reply octets) e z f =
        let q : Asked = record { name = name; rtype = rtype; reply = octets } in
        let l = ap length (run_asked w most message (WasHeld w.accepts before.held) r name rtype octets (serving_holds w most message table before now r s) e) in
        let m = length-append (asked_in r.course) (q ∷ []) in
        omega (arith, grown (reply octets) f, l, m, old_is)
    by (get_node name) begin e z f = absurd z
    by (get_node name) stored e z f = absurd z
    by (get_node name) (reply octets) e z f = absurd z
    by (put_node name n) begin e z f = absurd z
    by (put_node name n) (node o) e z f = absurd z
    by (put_node name n) (reply octets) e z f = absurd z
    by (ask_for name rtype) begin e z f = absurd z
    by (ask_for name rtype) (node o) e z f = absurd z
    by (ask_for name rtype) stored e z f = absurd z
    by (end_with y) j e z f = absurd z

-- there is room for one question more, where a step asks one
pub room_left : (w : World) (most : ℕ) (message : List ℕ) (table : Option Table) (before now : Outside) (course : Course) (step : CourseStep)
    → IsAt w most message table before now course step → length (asked_in course) + asks step ≤ most_questions w.anchors most message
room_left w most message table before now course step (r, at, its, s) = by step its
  where
    held : Node → Type 0
    held = WasHeld w.accepts before.held

    same : length (asked_in r.course) ≡ length (asked_in course)
    same = ap (λ (c : Course). length (asked_in c)) at

    few : length (asked_in r.course) ≤ most_questions w.anchors most message
    few = heard_few w most message held before.lasting now.lasting (asked_in r.course) s.stored (λ n x. x.0) (were_heard w most message table before now r s)

    one_more : (name : Place) (rtype : ℕ) → r.step ≡ ask_for name rtype → length (asked_in course) + 1 ≤ most_questions w.anchors most message
    one_more name rtype e =
        let h = serving_holds w most message table before now r s in
        let first : Run = first_run w s.course in
        let i : Input = reply None in
        let a = subst (λ (z : CourseStep). Awaits z r.course.waits) e h.awaits None in
        let heard : WereHeard w most message held None None (asked_in (ran_on w r i).course) r.puts = record {
          course = s.course;
          begins = s.begins;
          inputs = s.inputs ++ i ∷ [];
          heard = heard_more w held s.inputs first i s.heard (subst (λ (x : Run). CourseAnswers x.course.waits i) (sym s.comes_to) a.0) tt;
          found = of_no_caches w (s.inputs ++ i ∷ []) first;
          are = sym (ap (λ (x : Run). asked_in x.course) (after_more w s.inputs first i ∙ ap (λ (x : Run). ran_on w x i) s.comes_to));
          puts_are = subst (λ (x : Run). r.puts ++ put_by x.step ≡ x.puts) (sym (after_more w s.inputs first i ∙ ap (λ (x : Run). ran_on w x i) s.comes_to)) refl;
        } in
        let l = ap length (run_asked w most message held r name rtype None h e) in
        let m = length-append (asked_in r.course) (record { name = name; rtype = rtype; reply = None } ∷ []) in
        omega (arith, heard_few w most message held None None (asked_in (ran_on w r i).course) r.puts (λ n x. x.0) heard, l, m, same)

    by : (y : CourseStep) → r.step ≡ y → length (asked_in course) + asks y ≤ most_questions w.anchors most message
    by (get_node name) e = omega (arith, few, same)
    by (put_node name n) e = omega (arith, few, same)
    by (ask_for name rtype) e = one_more name rtype e
    by (end_with x) e = omega (arith, few, same)

-- at the beginning nothing has been asked
pub first_unasked : {V : Type 0} (w : World) (most : ℕ) (message : List ℕ) (old new : Course) (step : Step V) → begun w.anchors most message ≡ Ok old
    → AdvancesTo (course_advanced w old begin) old new (Ok step) → length (asked_in new) ≡ 0
first_unasked w most message old new step e a =
    ap (λ (p : Course × CourseStep). length (asked_in p.0)) a ∙ ap length (begins_unasked w most message old e)
