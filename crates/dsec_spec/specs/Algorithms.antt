-- The algorithms of keys (RFC 4034 A.1).
use Rattle.std.specs.Prelude.{ℕ, List, [], ◌∷◌, Bool, nat_eq}
use Rattle.std.specs.List.{list_any}

-- the algorithm whose keys have their tag in the modulus: RSA/MD5
abbrev pub RSAMD5 : ℕ
RSAMD5 = 1

-- the algorithms of keys with which a DS record is supported: RSA/SHA-1 twice, RSA/SHA-256, RSA/SHA-512 and ECDSA P-256
-- (RFC 4035 5.2); which signatures are good is the verifier's alone
abbrev pub supported_algorithms : List ℕ
supported_algorithms = 5 ∷ 7 ∷ 8 ∷ 10 ∷ 13 ∷ []

-- whether an algorithm is one of them
abbrev pub is_supported_algorithm : ℕ → Bool
is_supported_algorithm algorithm = list_any (nat_eq algorithm) supported_algorithms
