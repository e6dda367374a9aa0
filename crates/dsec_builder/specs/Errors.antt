-- Why an item is not added.
use Rattle.std.specs.Prelude.{ℕ, List, codes}
use Rattle.dsec_builder.specs.declared.error.PushError as errors
use Rattle.dsec_builder.specs.declared.error.PushError.TheVariants.{PushError, NoMemory}

-- an error in words
abbrev pub push_error_text : errors.PushError → List ℕ
push_error_text PushError = codes "PushError"
push_error_text NoMemory = codes "out of memory"
