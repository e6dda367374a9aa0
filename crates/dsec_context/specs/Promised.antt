-- What judging a message promises, and what judging it and handing it on does, each in one record (RFC 4033 5, RFC 4035 4.3, 4.5, 5).
use Rattle.std.specs.Prelude.{◌≡◌, ◌≤◌, ℕ, List, length, Option, None, Result, IfOk, IfSome}
use Rattle.std.specs.Bool.{⊤}
use Rattle.dsec_spec.specs.Outside.{Table}
use Rattle.dsec_nodes.specs.World.{World}
use Rattle.dsec_nodes.specs.Outcomes.{secure}
use Rattle.dsec_nodes.specs.Alone.{sections_of}
use Rattle.dsec_nodes.specs.SoundOutcomes.{IsJustified}
use Rattle.dsec_plain.specs.Coming.{HasNotOneQuestion, IsReadable}
use Rattle.dsec_plain.specs.PlainAnswers.{IsPlainAnswer}
use Rattle.dsec_found.specs.declared.error.Error.{Error}
use Rattle.dsec_found.specs.declared.error.Error.TheVariants.{FormError, ParseError}
use Rattle.dsec_cut.specs.Ended.{AreJudged}
use Rattle.dsec_context.specs.Outside.{Outside, replies_of, HoldsTable}
use Rattle.dsec_context.specs.Calls.{Verdict, AgreesWith, CanCome, OkOrNoMemory, RefusedOrBogus, RefusedOrNoMemory, most_questions}
use Rattle.dsec_context.specs.Judgements.{Judgement, IsJudging, GroupsAgree}
use Rattle.dsec_context.specs.Handling.{IsByTable, IsHandling, IsRefusal, IsVerdict, LeavesWith, SaysOf}

-- What judging promises of a message
pub record JudgesMessage (w : World) (most : ℕ) (message : List ℕ) (table : Option Table) (before after : Outside) (j : Judgement) : Type 0 where
  -- by its questions with their replies, and by the nodes that were held and put
  pub judging : IsJudging w most message table before after j
  -- an outcome is justified
  pub sound : IfOk j.answer (λ v. IsJustified w most message v.outcome v.outcome.state)
  -- where the upstream tells its table and all that was held is of it, the answer is that of the recursion
  pub told : IfSome table (λ t. HoldsTable w (replies_of t) before.held → AgreesWith w most message after j.answer (replies_of t))
  -- and an ordinary reply is Secure
  pub complete : IfSome table (λ t. HoldsTable w (replies_of t) before.held → IsPlainAnswer w (replies_of t) message → OkOrNoMemory (λ v. v.outcome.state ≡ secure) j.answer)
  -- a readable message with one question has a verdict, one that can't be read is refused, and one that hasn't one question is refused or bogus
  pub readable : (read : IsReadable message) → length read.questions ≡ 1 → OkOrNoMemory (λ v. ⊤) j.answer
  pub unreadable : sections_of message ≡ None → RefusedOrNoMemory ParseError j.answer
  pub not_one : HasNotOneQuestion message → RefusedOrBogus FormError j.answer
  pub refusals : CanCome j.answer
  -- a verdict takes few questions
  pub few : IfOk j.answer (λ v. v.questions ≤ most_questions w.anchors most message)
  -- the groups that are handed on are the message's, each sound, and by the table those of the recursion
  pub groups_sound : IfSome j.groups (λ both. AreJudged w most message both)
  pub groups_told : IfSome table (λ t. HoldsTable w (replies_of t) before.held → GroupsAgree w most (replies_of t) message j)

-- What judging a message and handing it on promises, of the answer and of the message that is left, besides that an outcome is justified
pub record HandsOnMessage (w : World) (most : ℕ) (message : List ℕ) (table : Option Table) (before after : Outside) (answer : Result Verdict Error) (left : List ℕ) : Type 0 where
  -- by what judging it came to
  pub handled : IsHandling w most message table before after answer left
  -- where the upstream tells its table and all that was held is of it, answer and message are those of the recursion
  pub told : IfSome table (λ t. HoldsTable w (replies_of t) before.held → IsByTable w most message after answer left (replies_of t))
  -- and an ordinary reply is Secure
  pub complete : IfSome table (λ t. HoldsTable w (replies_of t) before.held → IsPlainAnswer w (replies_of t) message
      → IsVerdict (λ v. v.outcome.state ≡ secure) w.anchors most message answer)
  -- a readable message with one question has a verdict, one that can't be read is refused, and one that hasn't one question is refused or bogus
  pub readable : (read : IsReadable message) → length read.questions ≡ 1 → IsVerdict (λ v. ⊤) w.anchors most message answer
  pub unreadable : sections_of message ≡ None → RefusedOrNoMemory ParseError answer
  pub not_one : HasNotOneQuestion message → IsRefusal w.anchors most message answer
  -- what the answer says of the message, and what message is left
  pub says : SaysOf w.anchors most message answer
  pub leaves : LeavesWith w.anchors most answer message left
  -- a verdict takes few questions
  pub few : IfOk answer (λ v. v.questions ≤ most_questions w.anchors most message)
