-- How calls ask what signs: how often, and for signatures over which messages.
use Rattle.std.specs.Prelude.{◌≡◌, ◌⊎◌, ℕ, List, Option, Result, Ok, Err}
use Rattle.dsec_spec.specs.Outside.{risen}
use Rattle.dsec_spec.specs.Records.{Key}
use Rattle.dsec_spec.specs.Signatures.{Signer}
use Rattle.dsec_rrsig.specs.Given.{given_more}
use Rattle.dsec_rrsig.specs.Signers.{signer_of}
use Rattle.dsec_rrsig.specs.declared.error.SignError.{SignError}
use Rattle.dsec_rrsig.specs.declared.error.SignError.TheVariants as sign
use Rattle.dsec_rrsig.specs.declared.error.SigningError.{SigningError}
use Rattle.dsec_rrsig.specs.declared.error.SigningError.TheVariants as signing
use Rattle.dsec_rrsig.specs.declared.signing_key.SigningKey.{SigningKey}

-- a signer, how often it was asked, and the messages that it was given to sign, in order, where it tells them
pub record Asked : Type 0 where
  pub by : Signer
  pub times : ℕ
  pub given : Option (List (List ℕ))

-- that of a key, by what signs
abbrev pub asked_of : {I : Type 0} → (I → Key) → (I → ℕ) → (I → Option (List (List ℕ))) → SigningKey I → Asked
asked_of key_of times_of given_of it = record { by = signer_of key_of it; times = times_of it.inner; given = given_of it.inner }

-- it was asked once more, for a signature over the message
abbrev pub asked_for : List ℕ → Asked → Asked
asked_for message before = record { by = before.by; times = risen before.times; given = given_more before.given message }

-- it was asked once more, and doesn't tell for what, since memory was wanted
abbrev pub asked_untold : Asked → Asked
asked_untold before = record { by = before.by; times = risen before.times; given = before.given }

-- it was asked for a signature over the message once, or not at all
abbrev pub OnceAtMost : List ℕ → Asked → Asked → Type 0
OnceAtMost message before now = (now ≡ before) ⊎ ((now ≡ asked_for message before) ⊎ (now ≡ asked_untold before))

-- it was asked once where it failed, and once at most where memory was wanted
abbrev pub AsksError : List ℕ → Asked → Asked → SignError → Type 0
AsksError message before now sign.Failed = now ≡ asked_for message before
AsksError message before now sign.NoMemory = OnceAtMost message before now

-- and once where there is a signature
abbrev pub AsksSigning : {T : Type 0} → List ℕ → Asked → Asked → Result T SignError → Type 0
AsksSigning message before now (Ok value) = now ≡ asked_for message before
AsksSigning message before now (Err error) = AsksError message before now error

-- the same of a set: where it is refused itself, or the period, nothing was asked
abbrev pub AsksRefusal : {T : Type 0} → List ℕ → Asked → Asked → Result T SigningError → Type 0
AsksRefusal message before now (Ok value) = now ≡ asked_for message before
AsksRefusal message before now (Err (signing.SigningError error)) = now ≡ asked_for message before
AsksRefusal message before now (Err signing.OutOfMemory) = OnceAtMost message before now
AsksRefusal message before now (Err error) = now ≡ before
