-- Why a message isn't judged, as the code says it.
use Rattle.std.specs.Prelude.{Bool, true, false, Result, Ok, Err}
use Rattle.dsec_wire.specs.declared.error.MessageError.{MessageError}
use Rattle.dsec_wire.specs.declared.error.MessageError.TheVariants as messages
use Rattle.dsec_builder.specs.declared.error.PushError as builders
use Rattle.dsec_builder.specs.declared.error.PushError.TheVariants as pushes
use Rattle.dsec_name.specs.declared.push_name.PushNameError as names
use Rattle.dsec_name.specs.declared.push_name.PushNameError.TheVariants as pushed
use Rattle.dsec_nodes.specs.Alone.{Refusal, unreadable, not_one_question}
use Rattle.dsec_nodes.specs.Outcomes.{Outcome}
use Rattle.dsec_found.specs.declared.error.Error.{Error}
use Rattle.dsec_found.specs.declared.error.Error.TheVariants.{FormError, ParseError, PushError, PushNameError, NoMemory}

-- why a message can't be read, or the want of memory
abbrev pub error_of : MessageError → Error
error_of messages.ParseError = ParseError
error_of messages.NoMemory = NoMemory

-- why a message isn't built, or a name, or the want of memory (RFC 1035 2.3.4, 4.2.2)
abbrev pub push_error_of : builders.PushError → Error
push_error_of pushes.PushError = PushError
push_error_of pushes.NoMemory = NoMemory

abbrev pub name_error_of : names.PushNameError → Error
name_error_of pushed.PushNameError = PushNameError
name_error_of pushed.NoMemory = NoMemory

-- want of memory, which may come at any time
abbrev pub wants_memory : Error → Bool
wants_memory NoMemory = true
wants_memory _ = false

-- a refusal (RFC 1035 4.1)
abbrev pub refusal_of : Refusal → Error
refusal_of unreadable = ParseError
refusal_of not_one_question = FormError

-- what a message comes to, with the code's word for a refusal
abbrev pub answer_of : Result Outcome Refusal → Result Outcome Error
answer_of (Ok outcome) = Ok outcome
answer_of (Err refusal) = Err (refusal_of refusal)
