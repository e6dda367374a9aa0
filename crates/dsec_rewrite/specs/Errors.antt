-- Why a message isn't rewritten, as the code says it.
use Rattle.std.specs.Prelude.{Bool, true, false}
use Rattle.dsec_builder.specs.declared.error.PushError.{PushError}
use Rattle.dsec_builder.specs.declared.error.PushError.TheVariants as pushes
use Rattle.dsec_wire.specs.declared.error.MessageError.{MessageError}
use Rattle.dsec_wire.specs.declared.error.MessageError.TheVariants as messages
use Rattle.dsec_rewrite.specs.declared.error.RewriteError.{RewriteError}
use Rattle.dsec_rewrite.specs.declared.error.RewriteError.TheVariants as errors

-- want of memory, which may come at any time
abbrev pub wants_memory : RewriteError → Bool
wants_memory errors.NoMemory = true
wants_memory errors.ParseError = false
wants_memory errors.PushError = false

-- why the additional section can't be read, or the want of memory
abbrev pub by_message : MessageError → RewriteError
by_message messages.ParseError = errors.ParseError
by_message messages.NoMemory = errors.NoMemory

-- why an item isn't added, or the want of memory
abbrev pub by_push : PushError → RewriteError
by_push pushes.PushError = errors.PushError
by_push pushes.NoMemory = errors.NoMemory
