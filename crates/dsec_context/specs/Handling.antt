-- What a call promises of its answer and of the message that it leaves (RFC 4033 5, RFC 4035 4.3, 5.3.3).
use Rattle.std.specs.Prelude.{◌≡◌, ◌⊎◌, ℕ, List, map, Option, Result, Ok, Err, IfSome, true}
use Rattle.dsec_spec.specs.Messages.{Question}
use Rattle.dsec_spec.specs.Outside.{Table}
use Rattle.dsec_spec.specs.Records.{Record}
use Rattle.dsec_nodes.specs.World.{World, Replies, moment}
use Rattle.dsec_nodes.specs.Outcomes.{Outcome, bogus}
use Rattle.dsec_plain.specs.Coming.{IsReadable, HasNotOneQuestion}
use Rattle.dsec_course.specs.Justified.{AreRead}
use Rattle.dsec_rewrite.specs.Cutting.{Bounded, is_due}
use Rattle.dsec_rewrite.specs.Rewriting.{IsRewriting}
use Rattle.dsec_rewrite.specs.declared.error.RewriteError.TheVariants as rewriting
use Rattle.dsec_cut.specs.Ended.{Both}
use Rattle.dsec_cut.specs.Cuts.{bounded_at}
use Rattle.dsec_found.specs.declared.error.Error.{Error}
use Rattle.dsec_found.specs.declared.error.Error.TheVariants.{FormError, ParseError, PushError, NoMemory}
use Rattle.dsec_context.specs.Verdicts.{Verdict}
use Rattle.dsec_context.specs.Outside.{Outside, HoldsTable}
use Rattle.dsec_context.specs.Judgements.{Judgement, IsJudging}
use Rattle.dsec_context.specs.Leaving.{handed_on, handed_alone, IsHanded}
use Rattle.dsec_context.specs.Writing.{CannotBeRewritten}

-- judging went on to the message's end: it has a verdict, or is refused since it hasn't one question (RFC 1035 4.1.2)
abbrev pub OnEnd : Result Verdict Error → Type 0 → Type 0
OnEnd (Ok v) P = P
OnEnd (Err FormError) P = P
OnEnd (Err _) P = Unit {0}

-- the message that is left is the rewriting of the other by these judged groups at the moment t, and reads back so
abbrev pub IsRewrittenBy : ℕ → List ℕ → Both → List ℕ → Type 0
IsRewrittenBy t message both left = IsRewriting message (map (bounded_at t) both.0) (map (bounded_at t) both.1) left

-- What a call promises: judging the message comes to an answer, and to the judged groups by which it is rewritten, if it is to be; by these is what is
-- answered and left, and a rewritten message reads back as it was made (RFC 4033 5, RFC 4035 4.3, 5.3.3)
pub record IsHandling (w : World) (most : ℕ) (message : List ℕ) (table : Option Table) (before after : Outside) (answer : Result Verdict Error) (left : List ℕ) : Type 0 where
  pub judgement : Judgement
  pub judging : IsJudging w most message table before after judgement
  pub handed : IsHanded message (handed_on (moment w) message judgement.answer judgement.groups) answer left
  pub reads_back : OnEnd answer (IfSome judgement.groups (λ both. IsRewrittenBy (moment w) message both left))

-- an answer without the number of its questions
abbrev pub outcome_in : Result Verdict Error → Result Outcome Error
outcome_in (Ok v) = Ok v.outcome
outcome_in (Err e) = Err e

-- by a table of which is all that was held the answer and the message that is left are those of the recursion, and all that is held afterwards is of
-- it (RFC 4033 5, RFC 4035 4.5)
pub record IsByTable (w : World) (most : ℕ) (message : List ℕ) (after : Outside) (answer : Result Verdict Error) (left : List ℕ) (replies : Replies) : Type 0 where
  pub handed : IsHanded message (handed_alone w most replies message) (outcome_in answer) left
  pub holds : HoldsTable w replies after.held

-- the error says that the message can't be rewritten, and so it is
abbrev pub SaysCannot : List Record → ℕ → List ℕ → Error → Type 0
SaysCannot anchors most message ParseError = CannotBeRewritten anchors most message rewriting.ParseError
SaysCannot anchors most message PushError = CannotBeRewritten anchors most message rewriting.PushError
SaysCannot anchors most message _ = ⊥

-- What an answer says of the message: with a verdict its sections can be read; with FormError too, and there isn't one question; with ParseError a
-- record can't, be it of the additional section alone; with PushError it is too long to be rewritten; no other error comes (RFC 1035 4.1, 4.2.2)
abbrev pub SaysOf : List Record → ℕ → List ℕ → Result Verdict Error → Type 0
SaysOf anchors most message (Ok v) = IsReadable message
SaysOf anchors most message (Err FormError) = HasNotOneQuestion message
SaysOf anchors most message (Err NoMemory) = Unit {0}
SaysOf anchors most message (Err e) = SaysCannot anchors most message e

-- a verdict of this kind; or want of memory; or the message can't be rewritten, and so it is said
abbrev pub IsVerdict : (Verdict → Type 0) → List Record → ℕ → List ℕ → Result Verdict Error → Type 0
IsVerdict Holds anchors most message (Ok v) = Holds v
IsVerdict Holds anchors most message (Err NoMemory) = Unit {0}
IsVerdict Holds anchors most message (Err e) = SaysCannot anchors most message e

-- a refusal since there isn't one question, or a bogus verdict; or want of memory; or the message can't be rewritten, and so it is said
abbrev pub IsRefusal : List Record → ℕ → List ℕ → Result Verdict Error → Type 0
IsRefusal anchors most message (Ok v) = v.outcome.state ≡ bogus
IsRefusal anchors most message (Err FormError) = Unit {0}
IsRefusal anchors most message (Err NoMemory) = Unit {0}
IsRefusal anchors most message (Err e) = SaysCannot anchors most message e

-- The second message is a rewriting of the first by its own groups, CNAME records that follow from a DNAME record moved to it: their duplicates are
-- dropped and their TTLs cut, where one of these is due, and it reads back so (RFC 2181 5, RFC 4035 5.3.3, RFC 6672 3.1)
pub record IsRewritten (anchors : List Record) (most : ℕ) (message left : List ℕ) : Type 0 where
  pub questions : List Question
  pub answers : List Bounded
  pub authorities : List Bounded
  pub groups : AreRead anchors most message questions (map (λ b. b.group) answers) (map (λ b. b.group) authorities)
  pub due : is_due answers authorities ≡ true
  pub made : IsRewriting message answers authorities left

-- the message that is left with an answer: where judging went on to its end it is as it came, or rewritten; after any other error it is as it came
-- (RFC 4035 5.3.3)
abbrev pub LeavesWith : List Record → ℕ → Result Verdict Error → List ℕ → List ℕ → Type 0
LeavesWith anchors most (Ok v) message left = (left ≡ message) ⊎ IsRewritten anchors most message left
LeavesWith anchors most (Err FormError) message left = (left ≡ message) ⊎ IsRewritten anchors most message left
LeavesWith anchors most (Err _) message left = left ≡ message
