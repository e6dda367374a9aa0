-- What a call promises that judges a message over caches and an upstream (RFC 4033 5, RFC 4035 4.3, 4.5, 5).
use Rattle.std.specs.Prelude.{◌≡◌, ◌⊎◌, ◌≤◌, ◌*◌, ℕ, List, [], ◌∷◌, ◌++◌, length, Option, Some, None, Result, Ok, Err}
use Rattle.dsec_spec.specs.Outside.{Table}
use Rattle.dsec_spec.specs.Records.{Record}
use Rattle.dsec_spec.specs.Messages.{Question, questions_of}
use Rattle.dsec_nodes.specs.World.{World, Replies}
use Rattle.dsec_nodes.specs.Nodes.{Node}
use Rattle.dsec_nodes.specs.Machine.{Question as Asked, Input}
use Rattle.dsec_nodes.specs.Likeness.{Likeness}
use Rattle.dsec_nodes.specs.InStep.{AskedOf}
use Rattle.dsec_nodes.specs.Outcomes.{Outcome, bogus}
use Rattle.dsec_nodes.specs.SoundOutcomes.{IsJustified}
use Rattle.dsec_nodes.specs.Alone.{Refusal, sections_of, alone}
use Rattle.dsec_plain.specs.Coming.{IsReadable}
use Rattle.dsec_found.specs.declared.error.Error.{Error}
use Rattle.dsec_found.specs.declared.error.Error.TheVariants.{FormError, ParseError, NoMemory}
use Rattle.dsec_found.specs.Errors.{answer_of}
use Rattle.dsec_course.specs.Course.{Course, groups_in, asked_in}
use Rattle.dsec_course.specs.Advancing.{begun}
use Rattle.dsec_course.specs.Hearing.{put_by, first_run, AreHeard, after_heard}
pub use Rattle.dsec_context.specs.Verdicts.{Verdict}
use Rattle.dsec_context.specs.Outside.{Outside, AreCounted, WasHeld, HoldsMore, HoldsAlike, HoldsTable}
use Rattle.dsec_context.specs.Finding.{LeadTo, AreStored}
use Rattle.dsec_context.specs.Serving.{calls_in}
use Rattle.dsec_node.specs.Caches.{Lasting}

-- The questions, with their replies, and the nodes that were put are those of the message judged a step at a time up to a step that isn't taken any more:
-- it heard inputs, whose nodes were held when the call began or were put on the way; caches that forget none gave at each get what they held then, if they
-- found memory (RFC 4035 4.3, 4.5)
pub record WereHeard (w : World) (most : ℕ) (message : List ℕ) (held : Node → Type 0) (first last : Option Lasting) (asked : List Asked) (puts : List Node) : Type 0 where
  pub course : Course
  pub begins : begun w.anchors most message ≡ Ok course
  pub inputs : List Input
  pub heard : AreHeard w held (first_run w course) inputs
  pub found : LeadTo first (calls_in w (first_run w course) inputs) last
  pub are : asked ≡ asked_in (after_heard w (first_run w course) inputs).course
  pub puts_are : puts ++ put_by (after_heard w (first_run w course) inputs).step ≡ (after_heard w (first_run w course) inputs).puts

-- at most one question finds no memory, and then neither does the call
abbrev pub IsLost : Result Verdict Error → ℕ → Type 0
IsLost (Ok v) lost = lost ≡ 0
IsLost (Err NoMemory) lost = lost ≤ 1
IsLost (Err _) lost = lost ≡ 0

-- An outcome is justified, its questions are told, and the message's sections can be read; FormError comes only where they can and there isn't one
-- question; ParseError only where they can't, and then nothing is asked; no other error comes (RFC 4033 5, RFC 1035 4.1)
abbrev pub IsAnswer : World → ℕ → List ℕ → List Asked → Result Verdict Error → Type 0
IsAnswer w most message asked (Ok v) = (v.questions ≡ length asked) × IsJustified w most message v.outcome v.outcome.state × IsReadable message
IsAnswer w most message asked (Err FormError) =
    IsReadable message × ((question : Question) (rest : ℕ) → questions_of message ≡ Some (question ∷ [], rest) → ⊥)
IsAnswer w most message asked (Err ParseError) = (sections_of message ≡ None) × (asked ≡ [])
IsAnswer w most message asked (Err NoMemory) = Unit {0}
IsAnswer w most message asked (Err _) = ⊥

-- the answer is this outcome or refusal; want of memory may come in its place
abbrev pub Says : Result Outcome Refusal → Result Verdict Error → Type 0
Says r (Ok v) = r ≡ Ok v.outcome
Says r (Err NoMemory) = Unit {0}
Says r (Err e) = answer_of r ≡ Err e

-- by a table of which is all that was held and heard, whenever what was held was made, the answer is that of the recursion, and all that is held
-- afterwards is of it (RFC 4033 5, RFC 4035 4.5)
pub record AgreesWith (w : World) (most : ℕ) (message : List ℕ) (after : Outside) (answer : Result Verdict Error) (replies : Replies) : Type 0 where
  pub says : Says (alone w most replies message) answer
  pub holds : HoldsTable w replies after.held

-- What a call promises: there is a list of its questions with their replies, and one of the nodes that it put. The questions are counted, no other
-- node is held afterwards that wasn't before, and by caches that forget none all that were put are held but those that have found no memory; both lists
-- are those of the message judged a step at a time, the answer is so by them, and where all that was held and heard is of one table the answer is
-- that of the table; where it is wholly of it, so is all that is held afterwards
-- (RFC 4033 5, RFC 4035 4.3, 4.5)
pub record IsCall (w : World) (most : ℕ) (message : List ℕ) (table : Option Table) (before after : Outside) (answer : Result Verdict Error) : Type 0 where
  pub asked : List Asked
  pub lost : ℕ
  pub counted : AreCounted table before after asked lost
  pub puts : List Node
  pub holds_more : HoldsMore before.held after.held puts
  pub stores : AreStored before.lasting after.lasting puts
  pub few : IsLost answer lost
  pub in_turn : ((asked ≡ []) × (puts ≡ []) × (after.lasting ≡ before.lasting))
      ⊎ WereHeard w most message (WasHeld w.accepts before.held) before.lasting after.lasting asked puts
  pub so : IsAnswer w most message asked answer
  pub agrees : (replies : Replies) → HoldsTable w replies before.held → AskedOf replies asked → AgreesWith w most message after answer replies
  pub stays : (like : Likeness) (replies : Replies) → HoldsAlike like w replies before.held → AskedOf replies asked → HoldsAlike like w replies after.held

-- how many groups a message has that are to be judged (RFC 2181 5)
abbrev pub count_of : Result Course Refusal → ℕ
count_of (Ok c) = length (groups_in c)
count_of (Err e) = 0

-- how many questions a message takes at most: 255 for each of its groups (RFC 1035 2.3.4, RFC 4035 5.2)
abbrev pub most_questions : List Record → ℕ → List ℕ → ℕ
most_questions anchors most message = 255 * count_of (begun anchors most message)

-- the errors that a call on a message answers (RFC 1035 4.1)
abbrev pub CanCome : Result Verdict Error → Type 0
CanCome (Ok v) = Unit {0}
CanCome (Err FormError) = Unit {0}
CanCome (Err ParseError) = Unit {0}
CanCome (Err NoMemory) = Unit {0}
CanCome (Err _) = ⊥

-- a verdict of this kind, or want of memory
abbrev pub OkOrNoMemory : (Verdict → Type 0) → Result Verdict Error → Type 0
OkOrNoMemory Holds (Ok v) = Holds v
OkOrNoMemory Holds (Err e) = e ≡ NoMemory

-- a refusal for this reason, or want of memory
abbrev pub RefusedOrNoMemory : Error → Result Verdict Error → Type 0
RefusedOrNoMemory why (Ok v) = ⊥
RefusedOrNoMemory why (Err e) = (e ≡ why) ⊎ (e ≡ NoMemory)

-- a refusal for this reason, a bogus verdict, or want of memory
abbrev pub RefusedOrBogus : Error → Result Verdict Error → Type 0
RefusedOrBogus why (Ok v) = v.outcome.state ≡ bogus
RefusedOrBogus why (Err e) = (e ≡ why) ⊎ (e ≡ NoMemory)
