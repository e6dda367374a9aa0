-- What a message comes to (RFC 4033 5, RFC 4035 5).
use Rattle.std.specs.Prelude.{ℕ, List, Option, Some, None}
use Rattle.dsec_spec.specs.Records.{Record}
use Rattle.dsec_spec.specs.Chain as chain
pub use Rattle.dsec_alias.specs.States.{State, secure, insecure, bogus, indeterminate}
use Rattle.dsec_nodes.specs.Causes.{Cause, RrsigWithoutRrset, NoTrustAnchor, NoDenialProof}
use Rattle.dsec_nodes.specs.Nodes.{SignedCause}
use Rattle.dsec_nodes.specs.Judging.{Finding, is_shown, has_no_set, is_insecure, is_bogus, is_indeterminate, Judged}

-- a judged group of the authority section that a denial uses, and its index there (RFC 4035 5.4)
pub record Used : Type 0 where
  pub index : ℕ
  pub judged : Judged

-- why a state was found: by judged groups, and by the groups that denials beside them use, each in order; by a signed cause; by the links to a
-- zone; or by none of these (RFC 4033 5, RFC 4035 5.4)
pub data Why : Type 0 where
  by_groups : List Judged → List Used → Why
  by_cause : SignedCause → Why
  by_links : List chain.Link → Why
  by_nothing : Why

-- a state with its cause, if one is told, and why it was found (RFC 4033 5)
pub record Outcome : Type 0 where
  pub state : State
  pub cause : Option Cause
  pub why : Why

-- a secure outcome (RFC 4033 5)
abbrev pub secure_by : List Judged → List Used → Outcome
secure_by judged used = record { state = secure; cause = None; why = by_groups judged used }

-- an insecure outcome, by groups that leave open what was to be denied (RFC 5155 6, RFC 9276 3.2)
abbrev pub open_by : Option Cause → List Judged → List Used → Outcome
open_by cause judged used = record { state = insecure; cause = cause; why = by_groups judged used }

-- a bogus outcome (RFC 4033 5)
abbrev pub bogus_by : Cause → Why → Outcome
bogus_by cause why = record { state = bogus; cause = Some cause; why = why }

-- the outcome where nothing is proved (RFC 4033 5)
abbrev pub unproved_outcome : Outcome
unproved_outcome = bogus_by NoDenialProof by_nothing

-- the outcome by what was found of the group that decides: where links show its set, what comes of it with the signature by which they do
-- (RFC 4033 5)
abbrev pub by_finding : (Record → Outcome) → Finding → Outcome
by_finding where_shown (is_shown links last signature) = where_shown signature
by_finding where_shown has_no_set = record { state = insecure; cause = Some RrsigWithoutRrset; why = by_nothing }
by_finding where_shown (is_insecure cause signed) = record { state = insecure; cause = cause; why = by_cause signed }
by_finding where_shown (is_bogus cause links) = bogus_by cause (by_links links)
by_finding where_shown is_indeterminate = record { state = indeterminate; cause = Some NoTrustAnchor; why = by_nothing }
