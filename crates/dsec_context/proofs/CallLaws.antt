-- What a call promises where judging a message ends, by how far it has come.
use Rattle.std.proofs.Common.{◌≡◌, ℕ, ◌≤◌, List, [], ◌∷◌, ◌++◌, length, Option, Some, None, IfSome, Result, Ok, Err, IfOk, refl, sym, ap, ◌∙◌, subst, inl, inr, arith, append-nil}
use Rattle.std.specs.Prelude.{Contains}
use Rattle.dsec_spec.specs.Names.{Place}
use Rattle.dsec_spec.specs.Outside.{Table, risen}
use Rattle.dsec_spec.proofs.Members.{in_front, not_in_none}
use Rattle.dsec_nodes.specs.World.{World, Replies, moment}
use Rattle.dsec_nodes.specs.Nodes.{Node, Kept}
use Rattle.dsec_nodes.specs.Machine.{Question as Asked, Input, begin}
use Rattle.dsec_nodes.specs.Likeness.{Likeness, but_for_times}
use Rattle.dsec_nodes.specs.InStep.{AskedOf}
use Rattle.dsec_nodes.specs.Outcomes.{Outcome}
use Rattle.dsec_nodes.specs.SoundOutcomes.{IsJustified}
use Rattle.dsec_nodes.specs.Alone.{Refusal, unreadable, not_one_question, alone}
use Rattle.dsec_found.specs.declared.error.Error.{Error}
use Rattle.dsec_found.specs.declared.error.Error.TheVariants.{FormError, ParseError, NoMemory}
use Rattle.dsec_found.specs.Errors.{answer_of}
use Rattle.dsec_course.specs.Course.{for_nothing, Course, CourseStep, end_with, groups_in, asked_in}
use Rattle.dsec_course.specs.Advancing.{begun}
use Rattle.dsec_course.specs.Hearing.{Run, put_by, first_run, ran_on, AreHeard, after_heard, CountsAt, HoldsRun}
use Rattle.dsec_course.specs.Justified.{IsEnd, CourseStepSound}
use Rattle.dsec_course.proofs.AskingLaws.{groups_stay}
use Rattle.dsec_course.proofs.BeginningLaws.{begun_waits, begun_refused, refused_alone}
use Rattle.dsec_course.proofs.RunLaws.{run_begins, run_asks, run_ends, heard_holds}
use Rattle.dsec_cut.specs.Cuts.{to_rewrite}
use Rattle.dsec_cut.proofs.CutLaws.{none_without_groups, none_while_waiting}
use Rattle.dsec_node.specs.Caches.{Held, Lasting}
use Rattle.dsec_context.specs.Finding.{AreStored}
use Rattle.dsec_context.specs.Outside.{Outside, replies_of, WasHeld, HoldsMore, HoldsAlike, HoldsTable, AreApart}
use Rattle.dsec_context.specs.Serving.{IsServing}
use Rattle.dsec_context.specs.Calls.{Verdict, WereHeard, AgreesWith, IsCall, count_of, most_questions}
use Rattle.dsec_context.specs.Judgements.{judgement_at, IsToRewrite, IsJudging}
use Rattle.dsec_lookup.proofs.CountLaws.{counted_lost, counted_none}
use Rattle.dsec_lookup.proofs.HoldingLaws.{more_none, held_of_table, holds_after, apart_holds}
use Rattle.dsec_lookup.proofs.FindingLaws.{stored_none}
use Rattle.dsec_context.proofs.ReadLaws.{begun_reads}
use Rattle.dsec_context.proofs.ServingLaws.{serving_holds, serving_listed}

-- where all that was held and heard is of a table, so is all that is held
held_so : (like : Likeness) (w : World) (most : ℕ) (message : List ℕ) (table : Option Table) (before now : Outside) (r : Run) (replies : Replies)
    → IsServing w most message table before now r → HoldsAlike like w replies before.held → AskedOf replies (asked_in r.course)
    → HoldsAlike like w replies now.held
held_so like w most message table before now r replies s h asked =
    holds_after like w replies before.held now.held s.stored s.holds_more h (λ n there.
    (serving_holds w most message table before now r s).traced.of_table like replies (held_of_table like w replies before.held h) asked n
    (serving_listed w most message table before now r s n there))

-- and the end is what the recursion comes to
end_so : (w : World) (most : ℕ) (message : List ℕ) (table : Option Table) (before now : Outside) (r : Run) (replies : Replies) (x : Result Outcome Refusal)
    → IsServing w most message table before now r → r.step ≡ end_with x → HoldsTable w replies before.held → AskedOf replies (asked_in r.course)
    → x ≡ alone w most replies message
end_so w most message table before now r replies x s e h asked =
    run_ends but_for_times w most message (WasHeld w.accepts before.held) r replies x (serving_holds w most message table before now r s)
    (held_of_table but_for_times w replies before.held h) asked e

pub were_heard : (w : World) (most : ℕ) (message : List ℕ) (table : Option Table) (before now : Outside) (r : Run)
    (s : IsServing w most message table before now r) → WereHeard w most message (WasHeld w.accepts before.held) before.lasting now.lasting (asked_in r.course) s.stored
were_heard w most message table before now r s = record {
  course = s.course;
  begins = s.begins;
  inputs = s.inputs;
  heard = s.heard;
  found = s.found;
  are = ap (λ (x : Run). asked_in x.course) (sym s.comes_to);
  puts_are = subst (λ (x : Run). s.stored ++ put_by x.step ≡ x.puts) (sym s.comes_to) (sym s.puts_are);
}

-- the end of a run is sound
sound_end : (w : World) (most : ℕ) (message : List ℕ) (table : Option Table) (before now : Outside) (r : Run) (x : Result Outcome Refusal)
    → IsServing w most message table before now r → r.step ≡ end_with x → IsEnd w most message x
sound_end w most message table before now r x s e =
    subst (λ (y : CourseStep). CourseStepSound w most message y r.course.waits) e (serving_holds w most message table before now r s).sound.1

-- and its end has the groups by which the message is rewritten
hands_on_at : (w : World) (most : ℕ) (message : List ℕ) (table : Option Table) (before now : Outside) (r : Run) (x : Result Outcome Refusal)
    (s : IsServing w most message table before now r) → r.step ≡ end_with x
    → IsToRewrite w most message (WasHeld w.accepts before.held) before.lasting now.lasting (asked_in r.course) s.stored x (to_rewrite (moment w) r.course)
hands_on_at w most message table before now r x s e = record {
  course = s.course;
  begins = s.begins;
  inputs = s.inputs;
  heard = s.heard;
  found = s.found;
  are = ap (λ (y : Run). asked_in y.course) (sym s.comes_to);
  puts_are = sym (append-nil s.stored) ∙ (ap (λ (y : CourseStep). s.stored ++ put_by y) (sym e) ∙ (sym s.puts_are ∙ ap (λ (y : Run). y.puts) (sym s.comes_to)));
  ends = ap (λ (y : Run). y.step) s.comes_to ∙ e;
  groups_are = ap (λ (y : Run). to_rewrite (moment w) y.course) (sym s.comes_to);
}

-- an outcome at the end
pub ends_ok : (w : World) (most : ℕ) (message : List ℕ) (table : Option Table) (before now : Outside) (r : Run) (o : Outcome)
    → IsServing w most message table before now r → r.step ≡ end_with (Ok o)
    → IsJudging w most message table before now (judgement_at w r.course (Ok (record { outcome = o; questions = length (asked_in r.course) })))
ends_ok w most message table before now r o s e =
    let v : Verdict = record { outcome = o; questions = length (asked_in r.course) } in
    let call : IsCall w most message table before now (Ok v) = record {
      asked = asked_in r.course;
      lost = 0;
      counted = s.counted;
      puts = s.stored;
      holds_more = s.holds_more;
      stores = s.lasts;
      few = refl;
      in_turn = inr (were_heard w most message table before now r s);
      so = (refl, sound_end w most message table before now r (Ok o) s e, begun_reads w.anchors most message s.course s.begins);
      agrees = λ replies h asked. record {
        says = sym (end_so w most message table before now r replies (Ok o) s e h asked);
        holds = held_so but_for_times w most message table before now r replies s h asked;
      };
      stays = λ like replies h asked. held_so like w most message table before now r replies s h asked;
    } in
    record { call = call; hands_on = hands_on_at w most message table before now r (Ok o) s e }

pub ok_asks : (w : World) (most : ℕ) (message : List ℕ) (table : Option Table) (before now : Outside) (r : Run) (o : Outcome)
    (s : IsServing w most message table before now r) (e : r.step ≡ end_with (Ok o)) → (ends_ok w most message table before now r o s e).call.asked ≡ asked_in r.course
unfolding ends_ok
ok_asks w most message table before now r o s e = refl

-- a refusal at the end
pub ends_refused : (w : World) (most : ℕ) (message : List ℕ) (table : Option Table) (before now : Outside) (r : Run)
    → IsServing w most message table before now r → r.step ≡ end_with (Err not_one_question)
    → IsJudging w most message table before now (judgement_at w r.course (Err FormError))
ends_refused w most message table before now r s e =
    let call : IsCall w most message table before now (Err FormError) = record {
      asked = asked_in r.course;
      lost = 0;
      counted = s.counted;
      puts = s.stored;
      holds_more = s.holds_more;
      stores = s.lasts;
      few = refl;
      in_turn = inr (were_heard w most message table before now r s);
      so = (begun_reads w.anchors most message s.course s.begins, (sound_end w most message table before now r (Err not_one_question) s e).1);
      agrees = λ replies h asked. record {
        says = ap answer_of (sym (end_so w most message table before now r replies (Err not_one_question) s e h asked));
        holds = held_so but_for_times w most message table before now r replies s h asked;
      };
      stays = λ like replies h asked. held_so like w most message table before now r replies s h asked;
    } in
    record { call = call; hands_on = hands_on_at w most message table before now r (Err not_one_question) s e }

pub refused_asks : (w : World) (most : ℕ) (message : List ℕ) (table : Option Table) (before now : Outside) (r : Run)
    (s : IsServing w most message table before now r) (e : r.step ≡ end_with (Err not_one_question))
    → (ends_refused w most message table before now r s e).call.asked ≡ asked_in r.course
unfolding ends_refused
refused_asks w most message table before now r s e = refl

-- no memory, at any step: nothing that was judged is kept
pub ends_without_memory : (w : World) (most : ℕ) (message : List ℕ) (table : Option Table) (before now : Outside) (r : Run) (course : Course)
    → IsServing w most message table before now r → course.judged ≡ [] → IsJudging w most message table before now (judgement_at w course (Err NoMemory))
ends_without_memory w most message table before now r course s none =
    let call : IsCall w most message table before now (Err NoMemory) = record {
      asked = asked_in r.course;
      lost = 0;
      counted = s.counted;
      puts = s.stored;
      holds_more = s.holds_more;
      stores = s.lasts;
      few = omega arith;
      in_turn = inr (were_heard w most message table before now r s);
      so = tt;
      agrees = λ replies h asked. record { says = tt; holds = held_so but_for_times w most message table before now r replies s h asked };
      stays = λ like replies h asked. held_so like w most message table before now r replies s h asked;
    } in
    record { call = call; hands_on = none_without_groups (moment w) course none }

pub without_memory_asks : (w : World) (most : ℕ) (message : List ℕ) (table : Option Table) (before now : Outside) (r : Run) (course : Course)
    (s : IsServing w most message table before now r) (none : course.judged ≡ [])
    → (ends_without_memory w most message table before now r course s none).call.asked ≡ asked_in r.course
unfolding ends_without_memory
without_memory_asks w most message table before now r course s none = refl

-- a question found no memory, while it was waited for
pub ends_at_a_question : (w : World) (most : ℕ) (message : List ℕ) (table : Option Table) (before now next : Outside) (r : Run) (course : Course)
    → IsServing w most message table before now r → next.held ≡ now.held → next.lasting ≡ now.lasting
    → next.asked ≡ risen now.asked → next.faults ≡ now.faults → next.heard ≡ now.heard → (course.waits ≡ for_nothing → ⊥)
    → IsJudging w most message table before next (judgement_at w course (Err NoMemory))
ends_at_a_question w most message table before now next r course s same lasts a f heard waits =
    let call : IsCall w most message table before next (Err NoMemory) = record {
      asked = asked_in r.course;
      lost = 1;
      counted = counted_lost table before now next (asked_in r.course) s.counted a f heard;
      puts = s.stored;
      holds_more = subst (λ (z : Option Held). HoldsMore before.held z s.stored) (sym same) s.holds_more;
      stores = subst (λ (z : Option Lasting). AreStored before.lasting z s.stored) (sym lasts) s.lasts;
      few = omega arith;
      in_turn = inr (subst (λ (z : Option Lasting). WereHeard w most message (WasHeld w.accepts before.held) before.lasting z (asked_in r.course) s.stored) (sym lasts)
          (were_heard w most message table before now r s));
      so = tt;
      agrees = λ replies h asked. record {
        says = tt;
        holds = subst (HoldsTable w replies) (sym same) (held_so but_for_times w most message table before now r replies s h asked);
      };
      stays = λ like replies h asked. subst (HoldsAlike like w replies) (sym same) (held_so like w most message table before now r replies s h asked);
    } in
    record { call = call; hands_on = none_while_waiting (moment w) course waits }

pub at_a_question_asks : (w : World) (most : ℕ) (message : List ℕ) (table : Option Table) (before now next : Outside) (r : Run) (course : Course)
    (s : IsServing w most message table before now r) (same : next.held ≡ now.held) (lasts : next.lasting ≡ now.lasting)
    (a : next.asked ≡ risen now.asked) (f : next.faults ≡ now.faults) (heard : next.heard ≡ now.heard) (waits : course.waits ≡ for_nothing → ⊥)
    → (ends_at_a_question w most message table before now next r course s same lasts a f heard waits).call.asked ≡ asked_in r.course
unfolding ends_at_a_question
at_a_question_asks w most message table before now next r course s same lasts a f heard waits = refl

-- a message that can't be read
pub ends_unread : (w : World) (most : ℕ) (message : List ℕ) (table : Option Table) (before : Outside) → begun w.anchors most message ≡ Err unreadable
    → IsJudging w most message table before before (record { answer = Err ParseError; groups = None })
ends_unread w most message table before e =
    let call : IsCall w most message table before before (Err ParseError) = record {
      asked = [];
      lost = 0;
      counted = counted_none table before;
      puts = [];
      holds_more = more_none before.held;
      stores = stored_none before.lasting;
      few = refl;
      in_turn = inl (refl, refl, refl);
      so = ((begun_refused w.anchors most message unreadable e).none, refl);
      agrees = λ replies h asked. record { says = ap answer_of (refused_alone w most replies message unreadable e); holds = h };
      stays = λ like replies h asked. h;
    } in
    record { call = call; hands_on = refl }

-- no memory to begin
pub ends_unbegun : (w : World) (most : ℕ) (message : List ℕ) (table : Option Table) (before : Outside)
    → IsJudging w most message table before before (record { answer = Err NoMemory; groups = None })
ends_unbegun w most message table before =
    let call : IsCall w most message table before before (Err NoMemory) = record {
      asked = [];
      lost = 0;
      counted = counted_none table before;
      puts = [];
      holds_more = more_none before.held;
      stores = stored_none before.lasting;
      few = omega arith;
      in_turn = inl (refl, refl, refl);
      so = tt;
      agrees = λ replies h asked. record { says = tt; holds = h };
      stays = λ like replies h asked. h;
    } in
    record { call = call; hands_on = refl }

-- what was heard leaves the groups as they are
pub groups_after : (w : World) (held : Node → Type 0) (inputs : List Input) (r : Run) → AreHeard w held r inputs
    → groups_in (after_heard w r inputs).course ≡ groups_in r.course
groups_after w held [] r h = refl
groups_after w held (i ∷ inputs) r h = groups_after w held inputs (ran_on w r i) h.2 ∙ groups_stay w r.course i h.0

-- the questions that a message has heard are at most 255 for each of its groups
pub heard_few : (w : World) (most : ℕ) (message : List ℕ) (held : Node → Type 0) (first last : Option Lasting) (asked : List Asked) (puts : List Node)
    → ((n : Node) → held n → Kept w.accepts n) → WereHeard w most message held first last asked puts → length asked ≤ most_questions w.anchors most message
heard_few w most message held first last asked puts kept t =
    let r = after_heard w (first_run w t.course) t.inputs in
    let h : HoldsRun w most message held r = heard_holds w most message held t.inputs (first_run w t.course) kept (run_begins w most message held t.course kept t.begins) t.heard in
    let same : groups_in r.course ≡ groups_in t.course =
    groups_after w held t.inputs (first_run w t.course) t.heard ∙ groups_stay w t.course begin (begun_waits w.anchors most message t.course t.begins).begins in
    let lengths : length (groups_in r.course) ≡ length (groups_in t.course) = ap length same in
    let counts : count_of (begun w.anchors most message) ≡ length (groups_in t.course) = ap count_of t.begins in
    let are : length asked ≡ length (asked_in r.course) = ap length t.are in
    omega (arith, run_asks w most message held r h, lengths, counts, are)

-- A verdict's questions are at most 255 for each group of its message
pub call_few : (w : World) (most : ℕ) (message : List ℕ) (table : Option Table) (before after : Outside) (answer : Result Verdict Error)
    → IsCall w most message table before after answer → IfOk answer (λ v. v.questions ≤ most_questions w.anchors most message)
call_few w most message table before after (Err e) c = tt
call_few w most message table before after (Ok v) c = elim c.in_turn [
  | inl none ↦ let l : length c.asked ≡ 0 = ap length none.0 in omega (arith, l, c.so.0)
  | inr heard ↦ omega (arith, c.so.0, heard_few w most message (WasHeld w.accepts before.held) before.lasting after.lasting c.asked c.puts (λ n x. x.0) heard)
]

-- what a message has put counts where it was judged
heard_counting : (w : World) (most : ℕ) (message : List ℕ) (held : Node → Type 0) (first last : Option Lasting) (asked : List Asked) (puts : List Node)
    → ((n : Node) → held n → Kept w.accepts n) → WereHeard w most message held first last asked puts → (n : Node) → Contains puts n → (top : Place) × CountsAt w n top
heard_counting w most message held first last asked puts kept t n there =
    (heard_holds w most message held t.inputs (first_run w t.course) kept (run_begins w most message held t.course kept t.begins) t.heard).traced.counting n
    (subst (λ (ns : List Node). Contains ns n) t.puts_are (in_front n puts (put_by (after_heard w (first_run w t.course) t.inputs).step) there))

-- A call by other limits, or from no anchor in common, leaves all that is held of a table: what it puts may not count here
pub call_apart : (like : Likeness) (w u : World) (replies : Replies) (most : ℕ) (message : List ℕ) (table : Option Table) (before after : Outside)
    (answer : Result Verdict Error) → AreApart w u → IsCall u most message table before after answer → HoldsAlike like w replies before.held
    → HoldsAlike like w replies after.held
call_apart like w u replies most message table before after answer apart c =
    apart_holds like w u replies before.held after.held c.puts apart c.holds_more (λ n there. elim c.in_turn [
      | inl none ↦ absurd (not_in_none n (subst (λ (ns : List Node). Contains ns n) none.1 there))
      | inr heard ↦ heard_counting u most message (WasHeld u.accepts before.held) before.lasting after.lasting c.asked c.puts (λ m x. x.0) heard n there
    ])

-- Where the upstream tells its table, and all that was held is of it, the answer is that of the table
pub call_told : (w : World) (most : ℕ) (message : List ℕ) (table : Option Table) (before after : Outside) (answer : Result Verdict Error)
    → IsCall w most message table before after answer
    → IfSome table (λ t. HoldsTable w (replies_of t) before.held → AgreesWith w most message after answer (replies_of t))
call_told w most message None before after answer c = tt
call_told w most message (Some t) before after answer c = λ h. c.agrees (replies_of t) h c.counted.told

-- An outcome is justified
pub call_sound : (w : World) (most : ℕ) (message : List ℕ) (table : Option Table) (before after : Outside) (answer : Result Verdict Error)
    → IsCall w most message table before after answer → IfOk answer (λ v. IsJustified w most message v.outcome v.outcome.state)
call_sound w most message table before after (Err e) c = tt
call_sound w most message table before after (Ok v) c = c.so.1
