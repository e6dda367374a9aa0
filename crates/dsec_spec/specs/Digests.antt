-- The digests that DNSSEC takes (RFC 4034 A.2, RFC 4509, RFC 6605, RFC 5155 5).
use Rattle.std.specs.Prelude.{ℕ, zero, suc, ◌==◌, List, [], ◌∷◌, ◌++◌, Bool, nat_eq, Option, Some, None, if◌then◌else◌}
use Rattle.std.specs.List.{list_any}
use Rattle.sha1.specs.Sha1.{sha1}
use Rattle.sha2.specs.Sha256.{sha256}
use Rattle.sha2.specs.Sha512.{sha384}

-- the numbers of the digests that a DS record may have here: SHA-1, SHA-256, SHA-384
abbrev pub supported_digests : List ℕ
supported_digests = 1 ∷ 2 ∷ 4 ∷ []

-- whether a digest type is one of them
abbrev pub is_supported_digest : ℕ → Bool
is_supported_digest digest_type = list_any (nat_eq digest_type) supported_digests

-- the digest of a message under a DS record's digest type
abbrev pub digest_by : ℕ → List ℕ → Option (List ℕ)
digest_by digest_type message =
    if digest_type == 1 then Some (sha1 message) else
    if digest_type == 2 then Some (sha256 message) else
    if digest_type == 4 then Some (sha384 message) else None

-- the hash of octets, taken again so many times with the salt behind it (RFC 5155 5)
unfoldable pub iterated_hash : List ℕ → List ℕ → ℕ → List ℕ
iterated_hash salt octets zero = sha1 (octets ++ salt)
iterated_hash salt octets (suc k) = sha1 (iterated_hash salt octets k ++ salt)
