-- How a message goes on, step by step.
use Rattle.std.proofs.Common.{◌≡◌, ◌⊎◌, ℕ, List, Bool, true, false, is_ok, Option, Some, None, Result, Ok, Err, slice_get, slice_set, refl, sym, subst, inl, inr}
use Rattle.std.specs.Result.{IsErr, OnErr}
use Rattle.dsec_crypto.specs.StandIn.{stand_in}
use Rattle.dsec_course.specs.Advancing.{course_advanced}
use Rattle.dsec_course.specs.Course.{CourseAnswers}
use Rattle.dsec_core.specs.Validating.{Validating, with_course, world_by}
use Rattle.dsec_core.specs.Views.{step_view}
use Rattle.dsec_core.specs.declared.step.Step.{Step}
use Rattle.dsec_spec.specs.Outside.{SentFront}
use Rattle.dsec_walk.specs.declared.steps.Input.{Input}
use Rattle.dsec_walk.specs.Views.{input_view}
use Rattle.dsec_uses_steps.specs.Going.{Around, Scene, StepsOn, Breaks, ChecksFew, FailsOnce, sends, GoesOn, halts, breaks, goes, TakesIn, TakesInput}
use Rattle.dsec_uses_steps.specs.Lines.{step_text}

-- what has failed isn't well
pub not_well : {A E : Type 0} (r : Result A E) → IsErr r → is_ok r ≡ false
not_well (Ok a) h = absurd (let clash : false ≡ true = h in cc)
not_well (Err e) h = refl

-- what holds holds at an error too
pub on_err : {A E P : Type 0} (r : Result A E) → P → OnErr r P
on_err (Ok a) p = tt
on_err (Err e) p = p

-- where a message came to its step, and that isn't answered
pub unanswered : {V A E : Type 0} (r : Result A E) (index : ℕ) (before after : Scene) (input : Input V) (step : Step V)
    → (after.message.course, step_view step) ≡ course_advanced (world_by stand_in before.message) before.message.course (input_view input)
    → SentFront before.around.written after.around.written (step_text index step) → after.message ≡ with_course before.message after.message.course
    → ChecksFew before after input → OnErr r ((after.around.held ≡ before.around.held) × (after.around.lasting ≡ before.around.lasting))
    → OnErr r (FailsOnce before.around.faults after.around.faults) → OnErr r (Breaks index before after input)
unanswered (Ok a) index before after input step come front same few held counts = tt
unanswered (Err e) index before after input step come front same few held counts =
    record { held = held.0; lasting = held.1; same = same; ends = sends step come front; counts = counts; few = few }

-- the message with an index takes an input
pub taken_at : {V : Type 0} (index : ℕ) (well : Bool) (before : List Validating) (message left : Validating) (was is : Around) (input : Input V) → slice_get before index ≡ Some message
    → TakesInput index well (record { message = message; around = was }) (record { message = left; around = is }) input
    → TakesIn index well before (slice_set before index left) was is input (slice_get before index)
taken_at index well before message left was is input there takes =
    subst (λ (o : Option Validating). TakesIn index well before (slice_set before index left) was is input o) (sym there) (left, refl, takes)

-- where a loop over the steps of a message has come to: nowhere yet; or to an input that is waited for, from which it goes on as from the first
abbrev pub ComesBy : {V : Type 0} → ℕ → Scene → Scene → Input V → Input V → Type 0
ComesBy index first now input next =
    ((next ≡ input) × (now ≡ first))
    ⊎ (CourseAnswers first.message.course.waits (input_view input) × CourseAnswers now.message.course.waits (input_view next)
    × ((well : Bool) (after : Scene) → GoesOn index well after now next → GoesOn index well after first input))

module _ {V : Type 0} (index : ℕ) (first now : Scene) (input next : Input V) (by : ComesBy index first now input next) where
  -- the first input is waited for where the next is
  begun_so : CourseAnswers now.message.course.waits (input_view next) → CourseAnswers first.message.course.waits (input_view input)
  begun_so a = elim by [
    | inl same ↦ subst (λ (i : Input V). CourseAnswers first.message.course.waits (input_view i)) same.0
        (subst (λ (s : Scene). CourseAnswers s.message.course.waits (input_view next)) same.1 a)
    | inr on ↦ on.0
  ]

  on_so : (well : Bool) (after : Scene) → GoesOn index well after now next → GoesOn index well after first input
  on_so well after g = elim by [
    | inl same ↦ subst (λ (i : Input V). GoesOn index well after first i) same.0 (subst (λ (s : Scene). GoesOn index well after s next) same.1 g)
    | inr on ↦ on.2 well after g
  ]

  module _ (a : CourseAnswers now.message.course.waits (input_view next)) where
    -- it ends where nothing answers the step
    pub ends_so : (after : Scene) → StepsOn index now after next None → TakesInput index true first after input
    ends_so after s = inl (begun_so a, on_so true after (halts now next refl s))

    -- or by an error
    pub breaks_so : (after : Scene) → Breaks index now after next → TakesInput index false first after input
    breaks_so after s = inl (begun_so a, on_so false after (breaks now next refl s))

    -- it goes on by what answers the step
    pub goes_so : (later : Scene) (answer : Input V) → StepsOn index now later next (Some answer) → CourseAnswers later.message.course.waits (input_view answer)
        → ComesBy index first later input answer
    goes_so later answer s b = inr (begun_so a, b, λ well after g. on_so well after (goes now later next answer s g))

  -- what isn't waited for is the first input
  pub passes_so : (CourseAnswers now.message.course.waits (input_view next) → ⊥) → TakesInput index true first now input
  passes_so none = elim by [
    | inl same ↦ inr (
      subst (λ (i : Input V). CourseAnswers first.message.course.waits (input_view i) → ⊥) same.0
          (subst (λ (s : Scene). CourseAnswers s.message.course.waits (input_view next) → ⊥) same.1 none),
      refl,
      same.1,
    )
    | inr on ↦ absurd (none on.1)
  ]
