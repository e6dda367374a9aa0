-- How many bits a key has (RFC 3110 2, RFC 6605 4, RFC 8080 3).
use Rattle.std.specs.Prelude.{ℕ, zero, suc, ◌+◌, ◌*◌, ◌-◌, ◌/◌, nat_eq, List, [], ◌∷◌, length, drop, Bool, Option, Some, None, nat_lt, if◌then◌else◌}
use Rattle.std.specs.Int.{w8, leading_zeros}
use Rattle.std.specs.List.{list_any}
use Rattle.dsec_spec.specs.Records.{Key}

-- what is known of a key's size
pub data KeySize : Type 0 where
  -- so many bits
  bits : ℕ → KeySize
  -- the octets aren't a key of their algorithm
  malformed : KeySize
  -- the sizes of the algorithm's keys aren't known here
  unknown : KeySize

-- the algorithms whose keys are RSA's: RSA/SHA-1 twice, RSA/SHA-256 and RSA/SHA-512
abbrev pub is_rsa : ℕ → Bool
is_rsa algorithm = list_any (nat_eq algorithm) (5 ∷ 7 ∷ 8 ∷ 10 ∷ [])

-- the ECDSA curves P-256 and P-384, whose keys are two numbers of one length
abbrev pub is_ecdsa : ℕ → Bool
is_ecdsa algorithm = list_any (nat_eq algorithm) (13 ∷ 14 ∷ [])

-- Ed25519 and Ed448
abbrev pub is_eddsa : ℕ → Bool
is_eddsa algorithm = list_any (nat_eq algorithm) (15 ∷ 16 ∷ [])

-- what stands after so many octets; nothing where there are fewer
abbrev pub after_octets : ℕ → List ℕ → Option (List ℕ)
after_octets n x = if nat_lt (length x) n then None else Some (drop n x)

-- The modulus of an RSA key: what stands after the exponent, whose length is the first octet, or after an octet 0 the
-- next two (RFC 3110 2)
abbrev pub modulus_of : List ℕ → Option (List ℕ)
modulus_of (zero ∷ high ∷ low ∷ x) = after_octets (high * 256 + low) x
modulus_of (suc size ∷ x) = after_octets (suc size) x
modulus_of _ = None

-- the bits of a modulus: those of its octets, less the zeros that its first octet begins with
abbrev pub modulus_size : Option (List ℕ) → KeySize
modulus_size (Some (first ∷ x)) = bits (8 * (length x + 1) - leading_zeros w8 first)
modulus_size _ = malformed

-- how many bits a key has, by its algorithm
abbrev pub key_size : Key → KeySize
key_size key =
    if is_rsa key.algorithm then modulus_size (modulus_of key.public_key) else
    if is_ecdsa key.algorithm then bits (8 * (length key.public_key / 2)) else
    if is_eddsa key.algorithm then bits (8 * length key.public_key) else unknown
