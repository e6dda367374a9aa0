-- Iterated hashes by all that they depend on (RFC 5155 5).
use Rattle.std.specs.Prelude.{◌≡◌, ℕ, ◌==◌, ◌&&◌, List, Bool, Contains}
use Rattle.std.specs.Str.{bytes_eq}
use Rattle.dsec_spec.specs.Digests.{iterated_hash}
use Rattle.dsec_validated.specs.declared.nsec3_cache.HashInput.{HashInput}

-- what a hash depends on: the octets that are hashed, the salt, and how often the hash is taken again
abbrev pub input_of : List ℕ → List ℕ → ℕ → HashInput
input_of octets salt iterations = record { octets = octets; salt = salt; iterations = iterations }

-- whether two hashes depend on the same
abbrev pub same_input : HashInput → HashInput → Bool
same_input a b = bytes_eq a.octets b.octets && (bytes_eq a.salt b.salt && (a.iterations == b.iterations))

-- the hash is the true one
abbrev pub IsTrueHash : HashInput × List ℕ → Type 0
IsTrueHash kept = kept.1 ≡ iterated_hash kept.0.salt kept.0.octets kept.0.iterations

-- each hash is
abbrev pub AreTrueHashes : List (HashInput × List ℕ) → Type 0
AreTrueHashes entries = (kept : HashInput × List ℕ) → Contains entries kept → IsTrueHash kept
