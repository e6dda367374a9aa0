-- Verdicts on messages (RFC 4033 5).
use Rattle.std.specs.Prelude.{ℕ}
use Rattle.dsec_nodes.specs.Outcomes.{Outcome}

-- what a message comes to, and how many questions were asked for it (RFC 4033 5)
pub record Verdict : Type 0 where
  pub outcome : Outcome
  pub questions : ℕ
