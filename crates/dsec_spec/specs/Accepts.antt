-- Which signatures a verifier accepts.
use Rattle.std.specs.Prelude.{ℕ, List, Bool}

-- a test of a key's flags, protocol, algorithm and octets, of a message and of a signature over it
abbrev pub Accepts : Type 0
Accepts = ℕ → ℕ → ℕ → List ℕ → List ℕ → List ℕ → Bool
