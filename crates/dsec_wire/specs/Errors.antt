-- Why nothing was read.
use Rattle.std.specs.Prelude.{ℕ, List, Bool, true, false, codes}
use Rattle.dsec_wire.specs.declared.error.MessageError.{MessageError}
use Rattle.dsec_wire.specs.declared.error.MessageError.TheVariants.{ParseError, NoMemory}

-- an error in words
abbrev pub message_error_text : MessageError → List ℕ
message_error_text ParseError = codes "ParseError"
message_error_text NoMemory = codes "out of memory"

-- want of memory, which may come at any time
abbrev pub wants_memory : MessageError → Bool
wants_memory NoMemory = true
wants_memory ParseError = false
