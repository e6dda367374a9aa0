-- How faults are counted: each call that fails counts as one, and no other call does.
use Rattle.std.specs.Prelude.{◌≡◌, ℕ, Result, Ok, Err}
use Rattle.dsec_spec.specs.Outside.{risen}
use Rattle.dsec_outside.specs.declared.sending.Halt.{Halt}
use Rattle.dsec_outside.specs.declared.sending.Halt.TheVariants as halt
use Rattle.dsec_outside.specs.declared.upstream.AskError.{AskError}
use Rattle.dsec_outside.specs.declared.upstream.AskError.TheVariants as ask
use Rattle.dsec_outside.specs.declared.whole.Stop.{Stop}
use Rattle.dsec_outside.specs.declared.whole.Stop.TheVariants as stop

-- a read or a write, or several up to the first that fails
abbrev pub CountsFault : {T E : Type 0} → ℕ → ℕ → Result T E → Type 0
CountsFault before now (Ok value) = now ≡ before
CountsFault before now (Err error) = now ≡ risen before

-- a question; want of memory is no fault of the other side
abbrev pub CountsFailure : {T : Type 0} → ℕ → ℕ → Result T AskError → Type 0
CountsFailure before now (Ok reply) = now ≡ before
CountsFailure before now (Err ask.Failed) = now ≡ risen before
CountsFailure before now (Err ask.NoMemory) = now ≡ before

-- reads up to the end; want of memory is no fault of the source
abbrev pub CountsReads : {T : Type 0} → ℕ → ℕ → Result T Stop → Type 0
CountsReads before now (Ok octets) = now ≡ before
CountsReads before now (Err stop.Read) = now ≡ risen before
CountsReads before now (Err stop.Memory) = now ≡ before

-- writes up to the first that fails; want of memory is no fault of the sink
abbrev pub CountsWrites : {T : Type 0} → ℕ → ℕ → Result T Halt → Type 0
CountsWrites before now (Ok value) = now ≡ before
CountsWrites before now (Err halt.Write) = now ≡ risen before
CountsWrites before now (Err halt.Memory) = now ≡ before
