-- A verifier's answers by all that they depend on.
use Rattle.std.specs.Prelude.{◌≡◌, ℕ, ◌==◌, ◌&&◌, List, Bool, Contains}
use Rattle.std.specs.Str.{bytes_eq}
use Rattle.dsec_spec.specs.Accepts.{Accepts}
use Rattle.dsec_validated.specs.declared.sig_cache.Check.{Check}

-- what an answer depends on: a key's flags, protocol, algorithm and octets, a message and a signature over it
abbrev pub check_of : ℕ → ℕ → ℕ → List ℕ → List ℕ → List ℕ → Check
check_of flags protocol algorithm key message signature =
    record { flags = flags; protocol = protocol; algorithm = algorithm; key = key; message = message; signature = signature }

-- whether two answers depend on the same
abbrev pub same_check : Check → Check → Bool
same_check a b =
    (a.flags == b.flags) && ((a.protocol == b.protocol) && ((a.algorithm == b.algorithm) && (bytes_eq a.key b.key && (bytes_eq a.message b.message && bytes_eq a.signature b.signature))))

-- the answer is the verifier's
abbrev pub IsTrueCheck : Accepts → Check × Bool → Type 0
IsTrueCheck accepts kept = kept.1 ≡ accepts kept.0.flags kept.0.protocol kept.0.algorithm kept.0.key kept.0.message kept.0.signature

-- each answer is the verifier's
abbrev pub AreTrue : Accepts → List (Check × Bool) → Type 0
AreTrue accepts entries = (kept : Check × Bool) → Contains entries kept → IsTrueCheck accepts kept
