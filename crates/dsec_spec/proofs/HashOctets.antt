-- A hash is 20 octets (RFC 5155 5, FIPS 180-4).
use Rattle.std.proofs.Common.{◌≡◌, ℕ, zero, suc, ◌*◌, ◌/◌, ◌<◌, List, ◌++◌, length, refl, arith, length-append}
use Rattle.std.specs.Prelude.{All, slice_index}
use Rattle.std.specs.Int.{w32, to_be_bytes}
use Rattle.std.proofs.lemmas.Nat.{mod_below}
use Rattle.std.proofs.lemmas.List.Elements.{All-append, All-from_recursion}
use Rattle.sha1.specs.Sha1.{sha1, digest_bytes, hash_after, padded_message}
use Rattle.dsec_spec.specs.Digests.{iterated_hash}

word_octets : (n : ℕ) → All (λ o. o < 256) (to_be_bytes w32 n)
word_octets n = All-from_recursion (λ o. o < 256) (to_be_bytes w32 n) (mod_below _ 256 (omega arith), (mod_below _ 256 (omega arith), (mod_below _ 256 (omega arith), (mod_below _ 256 (omega arith), tt))))

digest_octets : (h : List ℕ) (n : ℕ) → All (λ o. o < 256) (digest_bytes h n)
unfolding digest_bytes
digest_octets h zero = λ k d lt. absurd (omega arith)
digest_octets h (suc n) = All-append (λ o. o < 256) (digest_bytes h n) (to_be_bytes w32 (slice_index h n)) (digest_octets h n) (word_octets (slice_index h n))

length-digest_bytes : (h : List ℕ) (n : ℕ) → length (digest_bytes h n) ≡ 4 * n
unfolding digest_bytes
length-digest_bytes h zero = refl
length-digest_bytes h (suc n) = let e = length-digest_bytes h n in omega (arith, e, length-append (digest_bytes h n) (to_be_bytes w32 (slice_index h n)))

sha1_octets : (x : List ℕ) → All (λ o. o < 256) (sha1 x)
unfolding sha1
sha1_octets x = digest_octets (hash_after (padded_message x) (length (padded_message x) / 64)) 5

length-sha1 : (x : List ℕ) → length (sha1 x) ≡ 20
unfolding sha1
length-sha1 x = length-digest_bytes (hash_after (padded_message x) (length (padded_message x) / 64)) 5

pub hash_octets : (salt octets : List ℕ) (k : ℕ) → All (λ o. o < 256) (iterated_hash salt octets k)
unfolding iterated_hash
hash_octets salt octets zero = sha1_octets (octets ++ salt)
hash_octets salt octets (suc k) = sha1_octets (iterated_hash salt octets k ++ salt)

pub length-iterated_hash : (salt octets : List ℕ) (k : ℕ) → length (iterated_hash salt octets k) ≡ 20
unfolding iterated_hash
length-iterated_hash salt octets zero = length-sha1 (octets ++ salt)
length-iterated_hash salt octets (suc k) = length-sha1 (iterated_hash salt octets k ++ salt)
