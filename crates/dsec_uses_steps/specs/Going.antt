-- How a message goes on by an event, over caches of nodes, and what is written of it.
use Rattle.std.specs.Prelude.{◌≡◌, ◌≤◌, ◌+◌, ◌*◌, ◌⊎◌, ℕ, List, [], ◌∷◌, Bool, true, false, Option, Some, None, Err, slice_get, slice_set}
use Rattle.std.specs.Io.KnownBytes.{Appends}
use Rattle.dsec_spec.specs.Outside.{SentFront, risen}
use Rattle.dsec_crypto.specs.StandIn.{stand_in}
use Rattle.dsec_crypto.specs.declared.stand_in.StandIn.{StandIn}
use Rattle.dsec_nodes.specs.Alone.{not_one_question}
use Rattle.dsec_course.specs.Course.{CourseAnswers, end_with}
use Rattle.dsec_course.specs.Advancing.{course_advanced}
use Rattle.dsec_node.specs.Caches.{Held, Lasting}
use Rattle.dsec_walk.specs.declared.steps.Input.{Input}
use Rattle.dsec_walk.specs.Views.{input_view}
use Rattle.dsec_core.specs.Validating.{Validating, given_up, most_checked_at, with_course, world_by}
use Rattle.dsec_core.specs.Views.{step_view}
use Rattle.dsec_core.specs.declared.step.Step.{Step}
use Rattle.dsec_uses_steps.specs.declared.event.Event.{Event}
use Rattle.dsec_uses_steps.specs.Events.{IsEventOf}
use Rattle.dsec_uses_steps.specs.Lines.{GoesTo, IsAtHand, step_text}

-- what caches hold, what was written so far, how many writes failed, and how many signatures were checked
pub record Around : Type 0 where
  pub held : Option Held
  pub lasting : Option Lasting
  pub written : Option (List ℕ)
  pub faults : ℕ
  pub checked : ℕ

-- a message, as far as it has come, and what is around it then
pub record Scene : Type 0 where
  pub message : Validating
  pub around : Around

-- a message that comes to its next step by an input checks as many signatures at most as that may (RFC 4035 5.3)
abbrev pub ChecksFew : {V : Type 0} → Scene → Scene → Input V → Type 0
ChecksFew before after input = after.around.checked ≤ before.around.checked
    + most_checked_at (world_by stand_in before.message) before.message.course.waits (input_view input) * (before.message.config.max_bad_signatures + 1)

-- a message goes on by an input to its next step, and that is answered so at once; the step's line goes out
pub record StepsOn {V : Type 0} (index : ℕ) (before after : Scene) (input : Input V) (next : Option (Input V)) : Type 0 where
  pub step : Step V
  pub advanced : (after.message.course, step_view step) ≡ course_advanced (world_by stand_in before.message) before.message.course (input_view input)
  pub same : after.message ≡ with_course before.message after.message.course
  pub answered : IsAtHand before.around.held after.around.held before.around.lasting after.around.lasting step next
  pub line : Appends before.around.written after.around.written (step_text index step)
  pub counts : after.around.faults ≡ before.around.faults
  pub few : ChecksFew before after input

-- at most one write failed
abbrev pub FailsOnce : ℕ → ℕ → Type 0
FailsOnce before now = (now ≡ before) ⊎ (now ≡ risen before)

-- where a message has come to by an input that ends by an error, and what went out: memory was wanting for its step, and it is judged no further; or
-- the step refuses it, since it hasn't one question (RFC 1035 4.1.2); or it has come to its step, of whose line a front went out
pub data EndsByError {V : Type 0} (index : ℕ) (before after : Scene) (input : Input V) : Type 0 where
  gives_up : after.message.course ≡ given_up before.message.course → after.around.written ≡ before.around.written → EndsByError index before after input
  refuses : (after.message.course, end_with (Err not_one_question)) ≡ course_advanced (world_by stand_in before.message) before.message.course (input_view input)
      → after.around.written ≡ before.around.written → EndsByError index before after input
  sends : (step : Step V) → (after.message.course, step_view step) ≡ course_advanced (world_by stand_in before.message) before.message.course (input_view input)
      → SentFront before.around.written after.around.written (step_text index step) → EndsByError index before after input

-- a step that ends by an error: what caches hold stays, and nothing of the message but its course changes
pub record Breaks {V : Type 0} (index : ℕ) (before after : Scene) (input : Input V) : Type 0 where
  pub held : after.around.held ≡ before.around.held
  pub lasting : after.around.lasting ≡ before.around.lasting
  pub same : after.message ≡ with_course before.message after.message.course
  pub ends : EndsByError index before after input
  pub counts : FailsOnce before.around.faults after.around.faults
  pub few : ChecksFew before after input

-- a message goes on by an input, and by what answers each step at once, up to a question or its end; or, where it doesn't end well, up to an error
pub data GoesOn {V : Type 0} (index : ℕ) (well : Bool) (after : Scene) : Scene → Input V → Type 0 where
  -- by the step that nothing answers at once
  halts : (before : Scene) (input : Input V) → well ≡ true → StepsOn index before after input None → GoesOn index well after before input
  -- by the step that ends by an error
  breaks : (before : Scene) (input : Input V) → well ≡ false → Breaks index before after input → GoesOn index well after before input
  -- by a step before it
  goes : (before now : Scene) (input next : Input V) → StepsOn index before now input (Some next) → GoesOn index well after now next
      → GoesOn index well after before input

-- it goes on by an input that it waits for; another is passed over, and all is as it was
abbrev pub TakesInput : {V : Type 0} → ℕ → Bool → Scene → Scene → Input V → Type 0
TakesInput index well before after input =
    (CourseAnswers before.message.course.waits (input_view input) × GoesOn index well after before input)
    ⊎ ((CourseAnswers before.message.course.waits (input_view input) → ⊥) × (well ≡ true) × (after ≡ before))

-- the message with this index takes an input, and the others are as they were; where there is none, nothing is done
abbrev pub TakesIn : {V : Type 0} → ℕ → Bool → List Validating → List Validating → Around → Around → Input V → Option Validating → Type 0
TakesIn index well before after was is input None = (after ≡ before) × (is ≡ was) × (well ≡ true)
TakesIn index well before after was is input (Some message) =
    (left : Validating) × (after ≡ slice_set before index left)
    × TakesInput index well (record { message = message; around = was }) (record { message = left; around = is }) input

-- an event is taken: the message that it goes to takes it
pub record IsTaken (text : List ℕ) (moment : ℕ) (event : Event) (well : Bool) (before after : List Validating) (was is : Around) : Type 0 where
  pub messages : List Validating
  pub index : ℕ
  pub input : Input StandIn
  pub goes_to : GoesTo text moment event before messages (index, input)
  pub takes : TakesIn index well messages after was is input (slice_get messages index)

-- an event of which no message can be made, for want of memory or since it is refused: nothing is done
abbrev pub IsLeft : List Validating → List Validating → Around → Around → Bool → Type 0
IsLeft before after was is well = (after ≡ before) × (is ≡ was) × (well ≡ false)

-- lines are taken one after the other, each as the event that it writes, and none besides
abbrev pub AreTaken : List ℕ → ℕ → List (List ℕ) → List Validating → List Validating → Around → Around → Type 0
AreTaken text moment [] before after was is = (after ≡ before) × (is ≡ was)
AreTaken text moment (line ∷ lines) before after was is =
    (event : Event) × (now : List Validating) × (later : Around) × IsEventOf line event × IsTaken text moment event true before now was later
    × AreTaken text moment lines now after later is

-- lines are taken, and behind them one that isn't taken well: it can't be read, or is no event, or no message is made of it, and all stays as it
-- was; or its event is taken up to an error
pub record StopsAt (text : List ℕ) (moment : ℕ) (before after : List Validating) (was is : Around) : Type 0 where
  pub lines : List (List ℕ)
  pub now : List Validating
  pub later : Around
  pub taken : AreTaken text moment lines before now was later
  pub last : IsLeft now after later is false ⊎ ((line : List ℕ) × (event : Event) × IsEventOf line event × IsTaken text moment event false now after later is)
