-- Outcomes of messages, as they are told.
use Rattle.std.specs.Prelude.{Option, Some, None, Result, Ok, Err}
use Rattle.dsec_found.specs.declared.error.Error.{Error}
use Rattle.dsec_found.specs.declared.error.Error.TheVariants as errors
use Rattle.dsec_context.specs.Verdicts.{Verdict}
use Rattle.dsec_answer.specs.declared.outcome.Unjudged.{Unjudged}
use Rattle.dsec_answer.specs.declared.outcome.Unjudged.TheVariants.{FormError, ParseError, PushError}

-- a verdict, or why there is none
abbrev pub Outcome : Type 0
Outcome = Result Verdict Unjudged

-- an answer with its verdict as it is told
abbrev pub told_as : {X : Type 0} → (X → Verdict) → Result X Unjudged → Outcome
told_as view (Ok verdict) = Ok (view verdict)
told_as view (Err why) = Err why

-- what is told of an answer; of want of memory nothing is
abbrev pub told_of : Result Verdict Error → Option Outcome
told_of (Ok v) = Some (Ok v)
told_of (Err errors.FormError) = Some (Err FormError)
told_of (Err errors.ParseError) = Some (Err ParseError)
told_of (Err errors.PushError) = Some (Err PushError)
told_of (Err _) = None

-- the answers that are told, and want of memory
abbrev pub CanBeTold : Result Verdict Error → Type 0
CanBeTold (Ok v) = Unit {0}
CanBeTold (Err errors.FormError) = Unit {0}
CanBeTold (Err errors.ParseError) = Unit {0}
CanBeTold (Err errors.PushError) = Unit {0}
CanBeTold (Err errors.NoMemory) = Unit {0}
CanBeTold (Err _) = ⊥
