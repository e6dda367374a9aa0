-- Which keys the stand-in can be made of, and what it signs.
use Rattle.std.specs.Prelude.{◌≡◌, ◌<◌, ◌≤◌, length, true, IsTrue}
use Rattle.dsec_crypto.specs.StandIn.{stand_in}
use Rattle.dsec_spec.specs.Algorithms.{is_supported_algorithm}
use Rattle.dsec_spec.specs.Records.{Key}
use Rattle.dsec_spec.specs.Signatures.{Signs}

-- the protocol of every DNSKEY record is 3 (RFC 4034 2.1.2)
abbrev pub HasProtocol : Key → Type 0
HasProtocol key = key.protocol ≡ 3

-- the key's algorithm is one of those that DS records are supported with
abbrev pub HasAlgorithm : Key → Type 0
HasAlgorithm key = is_supported_algorithm key.algorithm ≡ true

-- the key has 1 to 64 octets
pub record IsShort (key : Key) : Type 0 where
  pub not_empty : 0 < length key.public_key
  pub at_most : length key.public_key ≤ 64

-- its signatures are those that its verifier accepts
abbrev pub stand_in_signs : Signs
stand_in_signs key message signature = IsTrue (stand_in key.flags key.protocol key.algorithm key.public_key message signature)
