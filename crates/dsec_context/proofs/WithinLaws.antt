-- A message judged a step at a time checks few signatures, and few in all where the call ends.
use Rattle.std.proofs.Common.{◌≡◌, ◌≤◌, ℕ, ◌+◌, ◌*◌, List, ◌++◌, length, map, Option, Some, None, Result, Ok, Err, sym, ap, ◌∙◌, subst, arith}
use Rattle.std.specs.List.{sum_by}
use Rattle.std.proofs.lemmas.List.{length-append, length-map}
use Rattle.dsec_spec.specs.Outside.{Entry, Table, risen}
use Rattle.dsec_nodes.specs.World.{World}
use Rattle.dsec_nodes.specs.Machine.{Question as Asked, Input, begin}
use Rattle.dsec_nodes.specs.Judging.{Judged}
use Rattle.dsec_nodes.specs.Outcomes.{Outcome}
use Rattle.dsec_found.specs.declared.error.Error.{Error}
use Rattle.dsec_found.specs.declared.error.Error.TheVariants.{FormError, ParseError, NoMemory, InplaceError, OctetsConversion, PushError, PushNameError, ReadError, ShortMessage}
use Rattle.dsec_course.specs.Course.{Course, CourseStep, CourseAnswers, end_with, group_in, groups_in, asked_in}
use Rattle.dsec_course.specs.Advancing.{begun, course_advanced}
use Rattle.dsec_course.specs.Hearing.{Run, first_run, ran_on}
use Rattle.dsec_course.proofs.AskingLaws.{groups_stay}
use Rattle.dsec_course.proofs.BeginningLaws.{begun_sound, begun_waits}
use Rattle.dsec_core.specs.declared.step.Step.{Step}
use Rattle.dsec_core.specs.Validating.{AdvancesTo, most_checked_at}
use Rattle.dsec_context.specs.Outside.{Outside, HeardMore, WasHeld, IsServed}
use Rattle.dsec_context.specs.Serving.{IsServing}
use Rattle.dsec_context.specs.Verdicts.{Verdict}
use Rattle.dsec_context.specs.Calls.{count_of}
use Rattle.dsec_context.specs.Judgements.{Judgement, judgement_at, IsJudging}
use Rattle.dsec_walk.specs.Checks.{sets_in, sets_at_most}
use Rattle.dsec_walk.proofs.CheckLaws.{spent}
use Rattle.dsec_context.specs.Checked.{IsJudgingWithin, HeardWithin}
use Rattle.dsec_context.specs.Turns.{asks, sets_so_far, AreFew, CountsTo, IsAt}
use Rattle.dsec_context.proofs.CallLaws.{groups_after, ends_ok, ok_asks, ends_refused, refused_asks, ends_without_memory, without_memory_asks, ends_at_a_question, at_a_question_asks}
use Rattle.dsec_context.proofs.ChecksLaws.{course_counts}
use Rattle.dsec_context.proofs.ServingLaws.{serving_begins, serving_goes_on, serving_holds}
use Rattle.dsec_context.proofs.TurnLaws.{served_answers, asked_waits, at_awaits}

-- no more groups are judged than the message has
judged_few : (w : World) (most : ℕ) (message : List ℕ) (table : Option Table) (before now : Outside) (r : Run)
    → IsServing w most message table before now r → length r.course.judged ≤ count_of (begun w.anchors most message)
judged_few w most message table before now r s =
    let same : groups_in r.course ≡ groups_in s.course =
    ap (λ (x : Run). groups_in x.course) (sym s.comes_to)
    ∙ (groups_after w (WasHeld w.accepts before.held) s.inputs (first_run w s.course) s.heard
    ∙ groups_stay w s.course begin (begun_waits w.anchors most message s.course s.begins).begins) in
    let lengths : length (groups_in r.course) ≡ length (groups_in s.course) = ap length same in
    let counts : count_of (begun w.anchors most message) ≡ length (groups_in s.course) = ap count_of s.begins in
    let parts = length-append (map (λ (j : Judged). j.group) r.course.judged) (group_in r.course.waits ++ r.course.left) in
    let own = length-map r.course.judged (λ (j : Judged). j.group) in
    omega (arith, lengths, counts, parts, own)

-- judging within so many checks, where it asked these questions
within : (w : World) (most : ℕ) (message : List ℕ) (table : Option Table) (before after : Outside) (j : Judgement) (asked : List Asked) (groups from to : ℕ)
    → (h : IsJudging w most message table before after j) → h.call.asked ≡ asked → groups ≤ count_of (begun w.anchors most message)
    → to ≤ from + sets_at_most asked groups * w.bounds.room → IsJudgingWithin w most message table before after j from to
within w most message table before after j asked groups from to h e le few =
    let same : sum_by sets_in h.call.asked ≡ sum_by sets_in asked = ap (λ (qs : List Asked). sum_by sets_in qs) e in
    record {
      judging = h;
      few = spent 0 (sets_at_most asked groups) (sets_at_most h.call.asked (count_of (begun w.anchors most message))) w.bounds.room from to to
          (omega (arith, same, le)) few (omega arith);
    }

-- what has checked nothing
pub within_none : (w : World) (most : ℕ) (message : List ℕ) (table : Option Table) (before after : Outside) (j : Judgement) (from : ℕ)
    → IsJudging w most message table before after j → IsJudgingWithin w most message table before after j from from
within_none w most message table before after j from h = record { judging = h; few = omega arith }

-- what a run comes to by an answer
comes_within : {V : Type 0} (w : World) (most : ℕ) (message : List ℕ) (table : Option Table) (before now : Outside) (r : Run) (old course : Course) (from to : ℕ)
    (result : Result (Step V) Error) → IsServing w most message table before now r → AdvancesTo (r.course, r.step) old course result
    → AreFew w r.course from to → CountsTo w most message table before now course from to result
comes_within w most message table before now r old course from to (Ok step) s e few =
    subst (λ (c : Course). AreFew w c from to) (ap (λ (p : Course × CourseStep). p.0) (sym e)) few
comes_within w most message table before now r old course from to (Err FormError) s e few =
    let its = ap (λ (p : Course × CourseStep). p.1) (sym e) in
    subst (λ (c : Course). IsJudgingWithin w most message table before now (judgement_at w c (Err FormError)) from to) (ap (λ (p : Course × CourseStep). p.0) (sym e))
    (within w most message table before now (judgement_at w r.course (Err FormError)) (asked_in r.course) (length r.course.judged) from to
    (ends_refused w most message table before now r s its) (refused_asks w most message table before now r s its)
    (judged_few w most message table before now r s) few)
comes_within w most message table before now r old course from to (Err ParseError) s e few = absurd e
comes_within w most message table before now r old course from to (Err (InplaceError x)) s e few = absurd e
comes_within w most message table before now r old course from to (Err OctetsConversion) s e few = absurd e
comes_within w most message table before now r old course from to (Err PushError) s e few = absurd e
comes_within w most message table before now r old course from to (Err PushNameError) s e few = absurd e
comes_within w most message table before now r old course from to (Err ReadError) s e few = absurd e
comes_within w most message table before now r old course from to (Err ShortMessage) s e few = absurd e
comes_within w most message table before now r old course from to (Err NoMemory) s e few =
    within w most message table before now (judgement_at w course (Err NoMemory)) (asked_in r.course) (length r.course.judged) from to
    (ends_without_memory w most message table before now r course s (ap (λ (c : Course). c.judged) e))
    (without_memory_asks w most message table before now r course s (ap (λ (c : Course). c.judged) e))
    (judged_few w most message table before now r s) few

-- a step that was answered
pub turned_within : {V : Type 0} (w : World) (most : ℕ) (message : List ℕ) (table : Option Table) (before now next : Outside) (old new : Course)
    (step : CourseStep) (i : Input) (from reached to : ℕ) (result : Result (Step V) Error) → IsAt w most message table before now old step
    → IsServed w.accepts table now next step i → AdvancesTo (course_advanced w old i) old new result
    → AreFew w old from reached → to ≤ reached + most_checked_at w old.waits i * w.bounds.room
    → CountsTo w most message table before next new from to result
turned_within w most message table before now next old new step i from reached to result (r, at, its, s) served e few more =
    let h = serving_holds w most message table before now r s in
    let serves = subst (λ (x : CourseStep). IsServed w.accepts table now next x i) (sym its) served in
    let answers : CourseAnswers r.course.waits i = served_answers w.accepts table now next r.step r.course.waits i serves h.awaits in
    let here = subst (λ (c : Course). AreFew w c from reached) (sym at) few in
    let there = subst (λ (c : Course). to ≤ reached + most_checked_at w c.waits i * w.bounds.room) (sym at) more in
    comes_within w most message table before next (ran_on w r i) old new from to result
    (serving_goes_on w most message table before now next r i s serves)
    (subst (λ (c : Course). AdvancesTo (course_advanced w c i) old new result) (sym at) e)
    (spent (most_checked_at w r.course.waits i) (sets_so_far r.course) (sets_so_far (course_advanced w r.course i).0) w.bounds.room from reached to
    (course_counts w most message r.course i h.sound.0 answers) here there)

-- the beginning
pub first_within : {V : Type 0} (w : World) (most : ℕ) (message : List ℕ) (table : Option Table) (before : Outside) (old new : Course) (from to : ℕ)
    (result : Result (Step V) Error) → begun w.anchors most message ≡ Ok old → AdvancesTo (course_advanced w old begin) old new result
    → to ≤ from + most_checked_at w old.waits begin * w.bounds.room → CountsTo w most message table before before new from to result
first_within w most message table before old new from to result e f more =
    comes_within w most message table before before (first_run w old) old new from to result (serving_begins w most message table before old e) f
    (spent (most_checked_at w old.waits begin) (sets_so_far old) (sets_so_far (course_advanced w old begin).0) w.bounds.room from from to
    (course_counts w most message old begin (begun_sound w most message old e) (begun_waits w.anchors most message old e).begins) (omega arith) more)

-- a question that found no memory
pub unanswered_within : (w : World) (most : ℕ) (message : List ℕ) (table : Option Table) (before now next : Outside) (old : Course) (step : CourseStep) (from to : ℕ)
    → IsAt w most message table before now old step → asks step ≡ 1 → next.held ≡ now.held → next.lasting ≡ now.lasting → next.asked ≡ risen now.asked → next.faults ≡ now.faults
    → next.heard ≡ now.heard → AreFew w old from to → IsJudgingWithin w most message table before next (judgement_at w old (Err NoMemory)) from to
unanswered_within w most message table before now next old step from to (r, at, its, s) one same lasts a f heard few =
    let waits = asked_waits step old.waits one (at_awaits w most message table before now old step (r, at, its, s)) in
    within w most message table before next (judgement_at w old (Err NoMemory)) (asked_in r.course) (length r.course.judged) from to
    (ends_at_a_question w most message table before now next r old s same lasts a f heard waits)
    (at_a_question_asks w most message table before now next r old s same lasts a f heard waits)
    (judged_few w most message table before now r s) (subst (λ (c : Course). AreFew w c from to) (sym at) few)

-- a message that has come to its end has a verdict
pub end_within : (w : World) (most : ℕ) (message : List ℕ) (table : Option Table) (before now : Outside) (course : Course) (o : Outcome) (questions from to : ℕ)
    → IsAt w most message table before now course (end_with (Ok o)) → questions ≡ length (asked_in course) → AreFew w course from to
    → IsJudgingWithin w most message table before now (judgement_at w course (Ok (record { outcome = o; questions = questions }))) from to
end_within w most message table before now course o questions from to (r, at, its, s) count few =
    let verdict : ℕ → Verdict = λ n. record { outcome = o; questions = n } in
    subst (λ (c : Course). IsJudgingWithin w most message table before now (judgement_at w c (Ok (verdict questions))) from to) at
    (subst (λ (n : ℕ). IsJudgingWithin w most message table before now (judgement_at w r.course (Ok (verdict n))) from to)
    (ap (λ (c : Course). length (asked_in c)) at ∙ sym count)
    (within w most message table before now (judgement_at w r.course (Ok (verdict (length (asked_in r.course))))) (asked_in r.course) (length r.course.judged) from to
    (ends_ok w most message table before now r o s its) (ok_asks w most message table before now r o s its)
    (judged_few w most message table before now r s) (subst (λ (c : Course). AreFew w c from to) (sym at) few)))

-- where it is told what was heard, the questions of the call are those that were heard in it
pub heard_within : (w : World) (most : ℕ) (message : List ℕ) (table : Option Table) (before after : Outside) (j : Judgement) (from to : ℕ)
    → IsJudgingWithin w most message table before after j from to
    → HeardWithin before.heard after.heard (count_of (begun w.anchors most message)) w.bounds.room from to
heard_within w most message table before after j from to h = by before.heard h.judging.call.counted.heard
  where
    by : (told : Option (List Entry)) → HeardMore told after.heard h.judging.call.asked
        → HeardWithin told after.heard (count_of (begun w.anchors most message)) w.bounds.room from to
    by None x = tt
    by (Some told) (more, is, are) =
        (more, is, subst (λ (qs : List Asked). to ≤ from + sets_at_most qs (count_of (begun w.anchors most message)) * w.bounds.room) (sym are) h.few)
