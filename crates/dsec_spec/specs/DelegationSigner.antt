-- When a DS record speaks of a key (RFC 4034 5, RFC 4035 5.2).
use Rattle.std.specs.Prelude.{◌≡◌, ◌==◌, ◌&&◌, ℕ, List, ◌++◌, Bool, false, Option, Some, None, IsTrue}
use Rattle.std.specs.Str.{bytes_eq}
use Rattle.dsec_spec.specs.Names.{Labels, canonical_octets}
use Rattle.dsec_spec.specs.Records.{Key, key_octets, Ds}
use Rattle.dsec_spec.specs.KeyTag.{key_tag}
use Rattle.dsec_spec.specs.Digests.{digest_by, is_supported_digest}
use Rattle.dsec_spec.specs.Algorithms.{is_supported_algorithm}

-- The DS record speaks of the owner's key: its digest is that of the owner's canonical name and the DNSKEY data,
-- under SHA-1, SHA-256 or SHA-384 (RFC 4034 5.1.4)
pub record Matches (ds : Ds) (owner : Labels) (key : Key) : Type 0 where
  pub same_algorithm : ds.algorithm ≡ key.algorithm
  pub same_tag : ds.tag ≡ key_tag key
  pub same_digest : digest_by ds.digest_type (canonical_octets owner ++ key_octets key) ≡ Some ds.digest

-- a DS record that can be used: its digest and the key's algorithm are known here (RFC 4035 5.2)
pub record IsSupported (ds : Ds) : Type 0 where
  pub known_algorithm : IsTrue (is_supported_algorithm ds.algorithm)
  pub known_digest : IsTrue (is_supported_digest ds.digest_type)

-- whether a DS record names a key, by the key's algorithm and tag (RFC 4034 5.1.1, 5.1.2)
abbrev pub names : Ds → Key → Bool
names ds key = (ds.algorithm == key.algorithm) && (ds.tag == key_tag key)

-- whether a digest was taken, and is this one
abbrev pub is_digest : List ℕ → Option (List ℕ) → Bool
is_digest digest (Some taken) = bytes_eq digest taken
is_digest digest None = false

-- whether the digest of a DS record is that of the owner's key (RFC 4034 5.1.4)
abbrev pub has_digest : Ds → Labels → Key → Bool
has_digest ds owner key = is_digest ds.digest (digest_by ds.digest_type (canonical_octets owner ++ key_octets key))

-- whether a DS record speaks of the owner's key: the test of `Matches`
abbrev pub speaks_of : Ds → Labels → Key → Bool
speaks_of ds owner key = names ds key && has_digest ds owner key
