-- What a Secure path of aliases means, and what makes one less than Secure (RFC 4033 5, RFC 4035 5.3.4, RFC 6672 5.3).
use Rattle.std.specs.Prelude.{◌≡◌, ◌⊎◌, ℕ, ◌≤◌, List, [], ◌∷◌, Option, Some, None}
use Rattle.dsec_spec.specs.Names.{Labels, place, wire_length}
use Rattle.dsec_spec.specs.Numbers.{CNAME, DNAME, DS}
use Rattle.dsec_alias.specs.States.{State, secure, insecure}
use Rattle.dsec_alias.specs.Candidates.{Candidate, denied, opened, Reply}
use Rattle.dsec_alias.specs.Following.{AliasStep}
use Rattle.dsec_alias.specs.Paths.{IsNextAlias, IsFinal, IsReplaced}

-- a CNAME record leads to its target, and is no expansion of a wildcard (RFC 1034 3.6.2)
pub record IsCname {D : Type 0} (c : Candidate) (target : Labels) (step : AliasStep D) (onto : Labels) : Type 0 where
  pub of_type : c.group.rtype ≡ CNAME
  pub itself : c.encloser ≡ None
  pub no_denial : step.denial ≡ None
  pub onto_target : onto ≡ target

-- or it is one, and that the name exists is denied (RFC 4035 5.3.4)
pub record IsCnameByWildcard {D : Type 0} (reply : Reply D) (name : Labels) (c : Candidate) (target : Labels) (step : AliasStep D) (onto : Labels) : Type 0 where
  pub of_type : c.group.rtype ≡ CNAME
  pub encloser : Labels
  pub expands : c.encloser ≡ Some encloser
  pub denial : D
  pub beside : step.denial ≡ Some denial
  pub is_denied : reply.denying name c encloser ≡ denied denial
  pub onto_target : onto ≡ target

-- or a DNAME record leads to the name with its owner replaced by its target, and is no expansion (RFC 6672 2.2, 3.3)
pub record IsDname {D : Type 0} (name : Labels) (c : Candidate) (target : Labels) (step : AliasStep D) (onto : Labels) : Type 0 where
  pub of_type : c.group.rtype ≡ DNAME
  pub itself : c.encloser ≡ None
  pub no_denial : step.denial ≡ None
  pub replaced : IsReplaced c.group.owner target name onto
  pub fits : wire_length onto ≤ 255

-- a step of a Secure path: the name's next alias, which is Secure, leads to a name; where a DS set is asked for, a CNAME record isn't of the
-- zone that begins at the name (RFC 4035 2.4)
pub record IsSecureStep {D : Type 0} (reply : Reply D) (name : Labels) (step : AliasStep D) (onto : Labels) : Type 0 where
  pub candidate : Candidate
  pub target : Labels
  pub next : IsNextAlias reply name step.group candidate target
  pub is_secure : candidate.state ≡ secure
  pub from_above : candidate.group.rtype ≡ CNAME → reply.rtype ≡ DS → candidate.signer ≡ place name → ⊥
  pub by : IsCname candidate target step onto ⊎ IsCnameByWildcard reply name candidate target step onto ⊎ IsDname name candidate target step onto

-- a Secure path: Secure steps, from each name to the next, to a final one
pub data IsSecurePath {D : Type 0} (reply : Reply D) : Labels → List (AliasStep D) → Labels → Type 0 where
  stays : {name : Labels} → IsFinal reply name → IsSecurePath reply name [] name
  leads : {name onto final : Labels} {step : AliasStep D} {steps : List (AliasStep D)} → IsSecureStep reply name step onto
      → IsSecurePath reply onto steps final → IsSecurePath reply name (step ∷ steps) final

-- a step makes a path less than Secure: its set has another state; or it is a CNAME set that is an expansion of a wildcard, and that its name
-- exists is left open
pub data Weakens {D : Type 0} (reply : Reply D) (state : State) : AliasStep D → Type 0 where
  by_set : {name target : Labels} {i : ℕ} {c : Candidate} {denial : Option D} → IsNextAlias reply name i c target → c.state ≡ state
      → Weakens reply state (record { group = i; denial = denial })
  by_opening : {name target encloser : Labels} {i : ℕ} {c : Candidate} {d : D} → IsNextAlias reply name i c target → c.group.rtype ≡ CNAME
      → c.encloser ≡ Some encloser → reply.denying name c encloser ≡ opened d → state ≡ insecure
      → Weakens reply state (record { group = i; denial = Some d })
