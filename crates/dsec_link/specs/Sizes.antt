-- How the code says a key's size.
use Rattle.std.specs.Prelude.{ℕ, Result, Ok, Err}
use Rattle.dsec_spec.specs.KeySizes.{KeySize, bits, malformed, unknown}
use Rattle.dsec_crypto.specs.declared.error.AlgorithmError.{AlgorithmError}
use Rattle.dsec_crypto.specs.declared.error.AlgorithmError.TheVariants.{InvalidData, Unsupported}

-- the bits, or that there is no such key, or that the algorithm isn't known
abbrev pub size_answer : KeySize → Result ℕ AlgorithmError
size_answer (bits n) = Ok n
size_answer malformed = Err InvalidData
size_answer unknown = Err Unsupported
