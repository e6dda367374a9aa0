-- What a call promises follows from how its message was judged.
use Rattle.std.proofs.Common.{◌≡◌, ℕ, ◌<◌, ◌≤◌, List, Option, Result, IfOk}
use Rattle.std.specs.Bool.{⊤}
use Rattle.std.specs.Prelude.{IfSome}
use Rattle.dsec_spec.specs.Outside.{Table}
use Rattle.dsec_nodes.specs.World.{World, moment}
use Rattle.dsec_nodes.specs.Outcomes.{secure}
use Rattle.dsec_nodes.specs.SoundOutcomes.{IsJustified}
use Rattle.dsec_plain.specs.PlainAnswers.{IsPlainAnswer}
use Rattle.dsec_found.specs.declared.error.Error.{Error}
use Rattle.dsec_context.specs.Verdicts.{Verdict}
use Rattle.dsec_context.specs.Outside.{Outside, HoldsTable, WasHeld, replies_of}
use Rattle.dsec_context.specs.Calls.{most_questions}
use Rattle.dsec_context.specs.Judgements.{Judgement, IsJudging}
use Rattle.dsec_context.specs.Leaving.{handed_on, IsHanded}
use Rattle.dsec_context.specs.Handling.{OnEnd, IsRewrittenBy}
use Rattle.dsec_context.specs.Promised.{JudgesMessage, HandsOnMessage}
use Rattle.dsec_context.proofs.CallLaws.{call_few, call_sound, call_told}
use Rattle.dsec_context.proofs.JudgementLaws.{groups_sound, groups_told}
use Rattle.dsec_context.proofs.TellingLaws.{call_comes, call_complete, call_not_one, call_readable, call_unreadable}
use Rattle.dsec_context.proofs.ComingLaws as coming
use Rattle.dsec_context.proofs.LeavingLaws as leaving
use Rattle.dsec_context.proofs.TableLaws as tables

module _ (w : World) (most : ℕ) (message : List ℕ) (table : Option Table) (before after : Outside) where
  -- all of it follows from how a message is judged
  pub judges : (j : Judgement) → 0 < w.bounds.room → IsJudging w most message table before after j → JudgesMessage w most message table before after j
  judges j some h = record {
    judging = h;
    sound = call_sound w most message table before after j.answer h.call;
    told = call_told w most message table before after j.answer h.call;
    complete = call_complete w most message table before after j.answer h.call some;
    readable = call_readable w most message table before after j.answer h.call;
    unreadable = call_unreadable w most message table before after j.answer h.call;
    not_one = call_not_one w most message table before after j.answer h.call;
    refusals = call_comes w most message table before after j.answer h.call;
    few = call_few w most message table before after j.answer h.call;
    groups_sound = groups_sound w most message table before after j h;
    groups_told = groups_told w most message table before after j h;
  }

  module _ (j : Judgement) (answer : Result Verdict Error) (left : List ℕ) (h : JudgesMessage w most message table before after j)
      (handed : IsHanded message (handed_on (moment w) message j.answer j.groups) answer left) where
    how : coming.Comes w.anchors most message j.answer answer
    how = coming.comes w most (moment w) message j.answer answer left j.groups h.groups_sound handed

    -- an outcome is justified where the message is handed on
    pub sound_on : IfOk answer (λ v. IsJustified w most message v.outcome v.outcome.state)
    sound_on = coming.of_verdict (λ v. IsJustified w most message v.outcome v.outcome.state) w.anchors most message j.answer answer h.sound how

    -- and so is all else that is promised there
    pub hands_on : OnEnd answer (IfSome j.groups (λ both. IsRewrittenBy (moment w) message both left)) → HandsOnMessage w most message table before after answer left
    hands_on back = record {
      handled = record { judgement = j; judging = h.judging; handed = handed; reads_back = back };
      told = tables.told w most message left h.judging.call.asked table before.held after j answer h.judging.call.so h.told h.groups_told handed;
      complete = coming.told_verdict (λ t. HoldsTable w (replies_of t) before.held) (λ t. IsPlainAnswer w (replies_of t) message)
          (λ v. v.outcome.state ≡ secure) w.anchors most message table j.answer answer h.complete how;
      readable = λ read one. coming.verdict (λ v. ⊤) w.anchors most message j.answer answer (h.readable read one) how;
      unreadable = λ e. coming.unreadable w.anchors most message j.answer answer e (h.unreadable e) how;
      not_one = λ x. coming.refusal w.anchors most message j.answer answer (h.not_one x) how;
      says = coming.says w most message h.judging.call.asked j.answer answer h.judging.call.so how;
      leaves = leaving.leaves w most message left (WasHeld w.accepts before.held) before.lasting after.lasting h.judging.call.asked h.judging.call.puts j.answer answer j.groups
          h.judging.hands_on h.groups_sound handed back;
      few = coming.of_verdict (λ v. v.questions ≤ most_questions w.anchors most message) w.anchors most message j.answer answer h.few how;
    }
