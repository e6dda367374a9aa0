-- Who signs, and for how long, as the code has it.
use Rattle.std.specs.Prelude.{ℕ}
use Rattle.dsec_spec.specs.Records.{Key}
use Rattle.dsec_spec.specs.Signatures.{Signer, Period}
use Rattle.dsec_rrsig.specs.declared.config.GenerateRrsigConfig.{GenerateRrsigConfig}
use Rattle.dsec_rrsig.specs.declared.signing_key.SigningKey.{SigningKey}

-- the period of signatures
abbrev pub period_of : GenerateRrsigConfig → Period
period_of it = record { inception = it.inception; expiration = it.expiration }

-- the signer that a key is, by the key of what signs
abbrev pub signer_of : {I : Type 0} → (I → Key) → SigningKey I → Signer
signer_of key_of it = record { owner = it.owner; key = key_of it.inner }

-- how often what signs failed, or was asked
abbrev pub count_in : {I : Type 0} → (I → ℕ) → SigningKey I → ℕ
count_in count_of it = count_of it.inner

-- the flags of a key
abbrev pub flags_in : {I : Type 0} → SigningKey I → ℕ
flags_in it = it.flags
