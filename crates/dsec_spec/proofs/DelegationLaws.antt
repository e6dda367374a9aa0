-- The test of a DS record against a key decides whether the record speaks of the key.
use Rattle.std.proofs.Common.{◌≡◌, ℕ, List, ◌++◌, sym, ap}
use Rattle.std.specs.Prelude.{Option, Some, None}
use Rattle.std.specs.Bool.{Decides}
use Rattle.std.proofs.lemmas.Bool.{false≢true, eqb-true, eq-eqb}
use Rattle.std.proofs.lemmas.Bool.Decides.{Decides-and, Decides-like}
use Rattle.std.proofs.lemmas.Slice.Eq.{bytes_eq-Decides}
use Rattle.dsec_spec.specs.Names.{Labels, canonical_octets}
use Rattle.dsec_spec.specs.Records.{Ds, Key, key_octets}
use Rattle.dsec_spec.specs.KeyTag.{key_tag}
use Rattle.dsec_spec.specs.Digests.{digest_by}
use Rattle.dsec_spec.specs.DelegationSigner.{Matches, is_digest, speaks_of}

digest_decides : (digest : List ℕ) (taken : Option (List ℕ)) → Decides (is_digest digest taken) (taken ≡ Some digest)
digest_decides digest None = (λ e. absurd (false≢true e), λ e. absurd cc)
digest_decides digest (Some taken) = (
  λ e. ap (λ (x : List ℕ). Some x) (sym ((bytes_eq-Decides digest taken).0 e)),
  λ e. (bytes_eq-Decides digest taken).1 (cc),
)

-- a DS record speaks of a key, or not
pub speaks_decides : (ds : Ds) (owner : Labels) (key : Key) → Decides (speaks_of ds owner key) (Matches ds owner key)
speaks_decides ds owner key = Decides-like (speaks_of ds owner key)
    (λ h. record { same_algorithm = h.0.0; same_tag = h.0.1; same_digest = h.1 }) (λ m. ((m.same_algorithm, m.same_tag), m.same_digest))
    (Decides-and _ _ (Decides-and _ _ (eqb-true ds.algorithm key.algorithm, eq-eqb ds.algorithm key.algorithm) (eqb-true ds.tag (key_tag key), eq-eqb ds.tag (key_tag key)))
    (digest_decides ds.digest (digest_by ds.digest_type (canonical_octets owner ++ key_octets key))))
