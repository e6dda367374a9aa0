-- Which signatures the stand-in accepts.
use Rattle.std.specs.Prelude.{ℕ, List, ◌∷◌, ◌++◌}
use Rattle.std.specs.Int.{w16, to_be_bytes}
use Rattle.std.specs.Str.{bytes_eq}
use Rattle.sha2.specs.Sha256.{sha256}
use Rattle.dsec_spec.specs.Accepts.{Accepts}

-- the octets that the stand-in hashes: the key's DNSKEY data (RFC 4034 2.1) and the message
abbrev pub stand_in_octets : ℕ → ℕ → ℕ → List ℕ → List ℕ → List ℕ
stand_in_octets flags protocol algorithm key message =
    to_be_bytes w16 flags ++ protocol ∷ algorithm ∷ key ++ message

-- the signature is the SHA-256 of the key's data and the message
abbrev pub stand_in : Accepts
stand_in flags protocol algorithm key message signature =
    bytes_eq signature (sha256 (stand_in_octets flags protocol algorithm key message))
