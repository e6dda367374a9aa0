-- The digests that the numbers of DS records stand for.
use Rattle.std.specs.Prelude.{ℕ, ◌==◌, Bool, false, Option, Some, None, if◌then◌else◌}
use Rattle.dsec_crypto.specs.declared.digest.DigestType.{DigestType}
use Rattle.dsec_crypto.specs.declared.digest.DigestType.TheVariants.{Sha1, Sha256, Sha384}
use Rattle.dsec_crypto.specs.declared.error.AlgorithmError.{AlgorithmError}

-- no answer stands for want of memory
abbrev pub never : AlgorithmError → Bool
never e = false

-- the digests of a number, where they are known (RFC 4034 A.2, RFC 4509 5, RFC 6605 2)
abbrev pub type_of : ℕ → Option DigestType
type_of n =
    if n == 1 then Some Sha1 else
    if n == 2 then Some Sha256 else
    if n == 4 then Some Sha384 else None
