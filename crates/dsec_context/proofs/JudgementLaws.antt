-- The groups by which a message is rewritten are its own, each of them sound, and by a table those of the recursion.
use Rattle.std.proofs.Common.{◌≡◌, ℕ, List, Option, Some, None, IfSome, Result, Ok, Err, sym, ◌∙◌, subst}
use Rattle.std.specs.List.{AllByRecursion}
use Rattle.dsec_spec.specs.Outside.{Table}
use Rattle.dsec_nodes.specs.World.{World, Replies}
use Rattle.dsec_nodes.specs.Nodes.{Node, Kept}
use Rattle.dsec_nodes.specs.Machine.{Question as Asked}
use Rattle.dsec_nodes.specs.Likeness.{but_for_times}
use Rattle.dsec_nodes.specs.InStep.{AskedOf}
use Rattle.dsec_nodes.specs.Outcomes.{Outcome}
use Rattle.dsec_nodes.specs.Alone.{Refusal, not_one_question}
use Rattle.dsec_found.specs.declared.error.Error.{Error}
use Rattle.dsec_found.specs.declared.error.Error.TheVariants.{FormError, ParseError, NoMemory, InplaceError, OctetsConversion, PushError, PushNameError, ReadError, ShortMessage}
use Rattle.dsec_course.specs.Course.{CourseStep, Awaits}
use Rattle.dsec_course.specs.Hearing.{Run, first_run, after_heard, HoldsRun}
use Rattle.dsec_course.proofs.RunLaws.{run_begins, heard_holds}
use Rattle.dsec_cut.specs.Ended.{Both, AreJudged}
use Rattle.dsec_cut.specs.Cuts.{to_rewrite_alone}
use Rattle.dsec_cut.proofs.CutLaws.{rewriting_judged, rewriting_alone}
use Rattle.dsec_node.specs.Caches.{Lasting}
use Rattle.dsec_context.specs.Outside.{Outside, replies_of, WasHeld, HoldsTable}
use Rattle.dsec_context.specs.Calls.{Verdict}
use Rattle.dsec_context.specs.Judgements.{Judgement, IsToRewrite, HandsOn, IsJudging, ComesWith, GroupsAgree}
use Rattle.dsec_lookup.proofs.HoldingLaws.{held_of_table}

-- they are those of the message, and sound, whatever was asked and replied
to_rewrite_sound : (w : World) (most : ℕ) (message : List ℕ) (held : Node → Type 0) (was is : Option Lasting) (asked : List Asked) (puts : List Node) (x : Result Outcome Refusal) (groups : Option Both)
    → ((n : Node) → held n → Kept w.accepts n) → IsToRewrite w most message held was is asked puts x groups → IfSome groups (λ both. AreJudged w most message both)
to_rewrite_sound w most message held was is asked puts x None kept t = tt
to_rewrite_sound w most message held was is asked puts x (Some both) kept t =
    rewriting_judged w most message held t.course t.inputs both kept t.begins t.heard (sym t.groups_are)

none_sound : (w : World) (most : ℕ) (message : List ℕ) (groups : Option Both) → groups ≡ None → IfSome groups (λ both. AreJudged w most message both)
none_sound w most message None e = tt
none_sound w most message (Some both) e = absurd cc

pub groups_sound : (w : World) (most : ℕ) (message : List ℕ) (table : Option Table) (before after : Outside) (j : Judgement)
    → IsJudging w most message table before after j → IfSome j.groups (λ both. AreJudged w most message both)
groups_sound w most message table before after j h = by j.answer h.hands_on
  where
    held : Node → Type 0
    held = WasHeld w.accepts before.held

    by : (r : Result Verdict Error) → HandsOn w most message held before.lasting after.lasting h.call.asked h.call.puts r j.groups → IfSome j.groups (λ both. AreJudged w most message both)
    by (Ok v) t = to_rewrite_sound w most message held before.lasting after.lasting h.call.asked h.call.puts (Ok v.outcome) j.groups (λ n x. x.0) t
    by (Err FormError) t = to_rewrite_sound w most message held before.lasting after.lasting h.call.asked h.call.puts (Err not_one_question) j.groups (λ n x. x.0) t
    by (Err ParseError) e = none_sound w most message j.groups e
    by (Err NoMemory) e = none_sound w most message j.groups e
    by (Err (InplaceError x)) e = none_sound w most message j.groups e
    by (Err OctetsConversion) e = none_sound w most message j.groups e
    by (Err PushError) e = none_sound w most message j.groups e
    by (Err PushNameError) e = none_sound w most message j.groups e
    by (Err ReadError) e = none_sound w most message j.groups e
    by (Err ShortMessage) e = none_sound w most message j.groups e

-- by a table of which is all that was held and heard they are those of the recursion
to_rewrite_told : (w : World) (most : ℕ) (message : List ℕ) (before : Outside) (was is : Option Lasting) (asked : List Asked) (puts : List Node) (x : Result Outcome Refusal) (groups : Option Both)
    (replies : Replies) → IsToRewrite w most message (WasHeld w.accepts before.held) was is asked puts x groups → HoldsTable w replies before.held → AskedOf replies asked
    → groups ≡ to_rewrite_alone w most replies message
to_rewrite_told w most message before was is asked puts x groups replies t h of =
    t.groups_are
    ∙ rewriting_alone w most message held t.course t.inputs kept t.begins t.heard holds
    (subst (λ (y : CourseStep). Awaits y last.course.waits) t.ends holds.awaits) but_for_times replies (held_of_table but_for_times w replies before.held h)
    (subst (AllByRecursion (λ (q : Asked). replies q.name q.rtype ≡ q.reply)) t.are of)
  where
    held : Node → Type 0
    held = WasHeld w.accepts before.held

    kept : (n : Node) → held n → Kept w.accepts n
    kept n y = y.0

    last : Run
    last = after_heard w (first_run w t.course) t.inputs

    holds : HoldsRun w most message held last
    holds = heard_holds w most message held t.inputs (first_run w t.course) kept (run_begins w most message held t.course kept t.begins) t.heard

pub groups_alone : (w : World) (most : ℕ) (message : List ℕ) (table : Option Table) (before after : Outside) (j : Judgement)
    → (h : IsJudging w most message table before after j) → (replies : Replies) → HoldsTable w replies before.held → AskedOf replies h.call.asked
    → GroupsAgree w most replies message j
groups_alone w most message table before after j h replies holds of = by j.answer h.hands_on
  where
    by : (r : Result Verdict Error) → HandsOn w most message (WasHeld w.accepts before.held) before.lasting after.lasting h.call.asked h.call.puts r j.groups
        → ComesWith (to_rewrite_alone w most replies message) r j.groups
    by (Ok v) x = to_rewrite_told w most message before before.lasting after.lasting h.call.asked h.call.puts (Ok v.outcome) j.groups replies x holds of
    by (Err FormError) x = to_rewrite_told w most message before before.lasting after.lasting h.call.asked h.call.puts (Err not_one_question) j.groups replies x holds of
    by (Err ParseError) e = e
    by (Err NoMemory) e = e
    by (Err (InplaceError x)) e = e
    by (Err OctetsConversion) e = e
    by (Err PushError) e = e
    by (Err PushNameError) e = e
    by (Err ReadError) e = e
    by (Err ShortMessage) e = e

-- where the upstream tells its table, and all that was held is of it
pub groups_told : (w : World) (most : ℕ) (message : List ℕ) (table : Option Table) (before after : Outside) (j : Judgement)
    → IsJudging w most message table before after j
    → IfSome table (λ t. HoldsTable w (replies_of t) before.held → GroupsAgree w most (replies_of t) message j)
groups_told w most message None before after j h = tt
groups_told w most message (Some t) before after j h = λ holds. groups_alone w most message (Some t) before after j h (replies_of t) holds h.call.counted.told
