-- A digest by a DS record's number is the one of the type that the number stands for.
use Rattle.std.proofs.Common.{◌≡◌, ℕ, List, Bool, true, false, cond, refl, ap, ◌∙◌, ◌==◌}
use Rattle.std.specs.Prelude.{Some, None}
use Rattle.std.specs.Option.{option_map}
use Rattle.dsec_crypto.specs.Digest.{digest_of, octets_of}
use Rattle.dsec_crypto.specs.declared.digest.DigestType.{DigestType}
use Rattle.dsec_crypto.specs.declared.digest.DigestType.TheVariants.{Sha1, Sha256, Sha384}
use Rattle.dsec_spec.specs.Digests.{digest_by}
use Rattle.dsec_link.specs.KeyDigests.{type_of}

by_tests : (taken : DigestType → List ℕ) (a b c : Bool) → cond a (Some (taken Sha1)) (cond b (Some (taken Sha256)) (cond c (Some (taken Sha384)) None))
    ≡ option_map taken (cond a (Some Sha1) (cond b (Some Sha256) (cond c (Some Sha384) None)))
by_tests taken true b c = refl
by_tests taken false true c = refl
by_tests taken false false true = refl
by_tests taken false false false = refl

digest_by_type : (n : ℕ) (message : List ℕ) → digest_by n message ≡ option_map (λ (t : DigestType). octets_of (digest_of t message)) (type_of n)
digest_by_type n message = by_tests (λ (t : DigestType). octets_of (digest_of t message)) (n == 1) (n == 2) (n == 4)

-- the digest under the type of a number
pub digest_taken : (n : ℕ) (message : List ℕ) (t : DigestType) → type_of n ≡ Some t → digest_by n message ≡ Some (octets_of (digest_of t message))
digest_taken n message t is = digest_by_type n message ∙ ap (option_map (λ (u : DigestType). octets_of (digest_of u message))) is

-- no digest under other numbers
pub no_digest : (n : ℕ) (message : List ℕ) → type_of n ≡ None → digest_by n message ≡ None
no_digest n message is = digest_by_type n message ∙ ap (option_map (λ (u : DigestType). octets_of (digest_of u message))) is
