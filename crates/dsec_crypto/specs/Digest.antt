-- What a digest in progress has taken, and what digests are (FIPS 180-4).
use Rattle.std.specs.Prelude.{ℕ, List}
use Rattle.sha1.specs.Sha1.{sha1}
use Rattle.sha1.specs.Sha1 as S1
use Rattle.sha2.specs.Hashers.{Holds256, Holds384}
use Rattle.sha2.specs.Sha256.{sha256}
use Rattle.sha2.specs.Sha512.{sha384}
use Rattle.dsec_crypto.specs.declared.digest.DigestType.{DigestType}
use Rattle.dsec_crypto.specs.declared.digest.Digest.{Digest}
use Rattle.dsec_crypto.specs.declared.digest.Hasher.{Hasher}
use Rattle.dsec_crypto.specs.declared.digest.DigestBuilder.{DigestBuilder}

-- a digest type's number in a DS record (RFC 4034 A.2, RFC 4509 5, RFC 6605 2)
abbrev pub number_of : DigestType → ℕ
number_of DigestType.Sha1 = 1
number_of DigestType.Sha256 = 2
number_of DigestType.Sha384 = 4

-- the digest of a message
abbrev pub digest_of : DigestType → List ℕ → Digest
digest_of DigestType.Sha1 message = Digest.Sha1 (sha1 message)
digest_of DigestType.Sha256 message = Digest.Sha256 (sha256 message)
digest_of DigestType.Sha384 message = Digest.Sha384 (sha384 message)

-- a digest's octets
abbrev pub octets_of : Digest → List ℕ
octets_of (Digest.Sha1 octets) = octets
octets_of (Digest.Sha256 octets) = octets
octets_of (Digest.Sha384 octets) = octets

-- the hasher is one of this type, and has taken this message
abbrev pub HasherHolds : Hasher → DigestType → List ℕ → Type 0
HasherHolds (Hasher.Sha1 hasher) DigestType.Sha1 message = S1.Holds hasher message
HasherHolds (Hasher.Sha256 hasher) DigestType.Sha256 message = Holds256 hasher message
HasherHolds (Hasher.Sha384 hasher) DigestType.Sha384 message = Holds384 hasher message
HasherHolds _ _ message = ⊥

-- the builder makes a digest of this type, and has taken this message
abbrev pub Holds : DigestBuilder → DigestType → List ℕ → Type 0
Holds builder digest_type message = HasherHolds builder.hasher digest_type message
