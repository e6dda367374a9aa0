-- The tag of a key (RFC 4034 B).
use Rattle.std.specs.Prelude.{ℕ, ◌+◌, ◌*◌, ◌/◌, ◌%◌, ◌^◌, ◌==◌, List, [], ◌∷◌, reverse, if◌then◌else◌}
use Rattle.dsec_spec.specs.Algorithms.{RSAMD5}
use Rattle.dsec_spec.specs.Records.{Key, key_octets}

-- the sum of the 16-bit words, each with its high octet first; a last odd octet is a high one
abbrev pub word_sum : List ℕ → ℕ
word_sum [] = 0
word_sum (high ∷ []) = high * 256
word_sum (high ∷ low ∷ octets) = high * 256 + low + word_sum octets

-- the sum and its upper 16 bits, in 16 bits (RFC 4034 B)
abbrev pub checksum : List ℕ → ℕ
checksum octets = let sum = word_sum octets in (sum + sum / 2 ^ 16) % 2 ^ 16

-- the third- and second-last of the octets, which are given from the last on; 0 where there are fewer than three (RFC 4034 B.1)
abbrev pub modulus_tag : List ℕ → ℕ
modulus_tag (last ∷ second ∷ third ∷ octets) = third * 256 + second
modulus_tag _ = 0

-- the key's tag: the checksum of its DNSKEY data, but for RSA/MD5 octets of its modulus (RFC 4034 B)
abbrev pub key_tag : Key → ℕ
key_tag key = if key.algorithm == RSAMD5 then modulus_tag (reverse key.public_key) else checksum (key_octets key)
