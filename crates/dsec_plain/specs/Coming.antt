-- What a message comes to by a table of replies: Secure by its answer, an outcome, or a refusal (RFC 4033 5, RFC 4035 5).
use Rattle.std.specs.Prelude.{◌≡◌, ◌≢◌, ℕ, List, [], ◌∷◌, length, Some, None, Result, Ok}
use Rattle.dsec_spec.specs.Records.{Record}
use Rattle.dsec_spec.specs.Messages.{Question}
use Rattle.dsec_spec.specs.Groups.{Group}
use Rattle.dsec_nodes.specs.World.{World, Replies}
use Rattle.dsec_nodes.specs.Judging.{Judged}
use Rattle.dsec_nodes.specs.Outcomes.{secure, bogus, by_groups, Outcome}
use Rattle.dsec_nodes.specs.Alone.{Refusal, sections_of, alone}

-- a message comes to an outcome (RFC 4033 5)
abbrev pub HasOutcome : Result Outcome Refusal → Type 0
HasOutcome r = (outcome : Outcome) × (r ≡ Ok outcome)

-- a message comes to a Bogus outcome (RFC 4033 5)
abbrev pub IsBogusOutcome : Result Outcome Refusal → Type 0
IsBogusOutcome r = (outcome : Outcome) × (r ≡ Ok outcome) × (outcome.state ≡ bogus)

-- a message is Secure by this group, and no cause is told (RFC 4033 5)
pub record IsSecureBy (w : World) (most : ℕ) (replies : Replies) (message : List ℕ) (group : Group) : Type 0 where
  pub outcome : Outcome
  pub comes_to : alone w most replies message ≡ Ok outcome
  pub is_secure : outcome.state ≡ secure
  pub no_cause : outcome.cause ≡ None
  pub judged : Judged
  pub of_group : judged.group ≡ group
  pub why : outcome.why ≡ by_groups (judged ∷ []) []

-- a message's sections can be read (RFC 1035 4.1)
pub record IsReadable (message : List ℕ) : Type 0 where
  pub questions : List Question
  pub answers : List Record
  pub authorities : List Record
  pub read : sections_of message ≡ Some (questions, answers, authorities)

-- a message's sections can be read, and it hasn't one question (RFC 1035 4.1.2)
pub record HasNotOneQuestion (message : List ℕ) : Type 0 where
  pub readable : IsReadable message
  pub not_one : length readable.questions ≢ 1
