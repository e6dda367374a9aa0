-- The signer of the DNSKEY set (the code's own).
use Rattle.dsec_spec.specs.Records.{Key}
use Rattle.dsec_spec.specs.Signatures.{Signer}
use Rattle.dsec_rrsig.specs.Signers.{signer_of}
use Rattle.dsec_rrsig.specs.declared.signing_key.SigningKey.{SigningKey}

-- the signer that a key of the stand-in is
abbrev pub of_stand_in : SigningKey Key → Signer
of_stand_in key = signer_of (λ inner. inner) key
