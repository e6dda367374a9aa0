-- What a call of a signer leaves of its count of faults.
use Rattle.std.specs.Prelude.{◌≡◌, ℕ, Result, Ok, Err}
use Rattle.dsec_spec.specs.Outside.{risen}
use Rattle.dsec_rrsig.specs.declared.error.SignError.{SignError}
use Rattle.dsec_rrsig.specs.declared.error.SignError.TheVariants as sign
use Rattle.dsec_rrsig.specs.declared.error.SigningError.{SigningError}
use Rattle.dsec_rrsig.specs.declared.error.SigningError.TheVariants as signing

-- where the signer failed the count rises by one, and where memory was wanted it stays
abbrev pub CountsError : ℕ → ℕ → SignError → Type 0
CountsError before now sign.Failed = now ≡ risen before
CountsError before now sign.NoMemory = now ≡ before

-- and it stays where there is a signature
abbrev pub CountsSigning : {T : Type 0} → ℕ → ℕ → Result T SignError → Type 0
CountsSigning before now (Ok value) = now ≡ before
CountsSigning before now (Err error) = CountsError before now error

-- the same where a set is refused for it
abbrev pub CountsRefusal : {T : Type 0} → ℕ → ℕ → Result T SigningError → Type 0
CountsRefusal before now (Ok value) = now ≡ before
CountsRefusal before now (Err (signing.SigningError error)) = now ≡ risen before
CountsRefusal before now (Err error) = now ≡ before
