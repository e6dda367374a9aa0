-- Following aliases from a name to the last: what the validator does (RFC 1034 3.6.2, RFC 4035 5.3.4, RFC 6672 2.2, 3.1).
use Rattle.std.specs.Prelude.{ℕ, zero, suc, ◌==◌, ◌&&◌, List, [], ◌∷◌, position, slice_get, Bool, true, false, Option, Some, None, if◌then◌else◌}
use Rattle.std.specs.Option.{is_some}
use Rattle.dsec_cause.specs.declared.cause.Cause.{Cause}
use Rattle.dsec_cause.specs.declared.cause.Cause.TheVariants.{TooManyAliases, DnameFromWildcard, DnameTooLong, CnameFromApexForDs}
use Rattle.dsec_spec.specs.Names.{Labels, place, same_place}
use Rattle.dsec_spec.specs.Numbers.{DNAME, DS}
use Rattle.dsec_spec.specs.Groups.{Group}
use Rattle.dsec_spec.specs.Answering.{leads_on}
use Rattle.dsec_spec.specs.Redirection.{map_dname}
use Rattle.dsec_alias.specs.States.{State, secure, insecure, bogus, indeterminate, map_maybe_secure}
use Rattle.dsec_alias.specs.Candidates.{Candidate, Denied, denied, opened, unproved, Reply, asked_at, only_target}

-- a step of a path: the index of the alias in the answer section, and the denial beside it, where it is an expansion of a wildcard
pub record AliasStep (D : Type 0) : Type 0 where
  pub group : ℕ
  pub denial : Option D

-- where a path ends: at a name, with the state of its aliases and their denials, and its steps in order; or Bogus, at the name that it
-- reached, and why
pub data AliasEnd (D : Type 0) : Type 0 where
  ends_at : Labels → State → List (AliasStep D) → AliasEnd D
  ends_bogus : Labels → Cause → AliasEnd D

-- what an alias comes to: the path goes on from a name, with the alias's state and that of a denial beside it, if there is one; or it ends Bogus
pub data Turn (D : Type 0) : Type 0 where
  goes_to : Labels → State → Option D → Turn D
  fails_at : Labels → Cause → Turn D

-- whether a group leads on from a name, to a target
abbrev pub is_alias : {D : Type 0} → Reply D → Labels → Group → Bool
is_alias reply name group = leads_on reply.anchors (asked_at reply name) group && is_some (only_target group.records)

-- the index of the next alias of a name: of the first group that leads on from it
abbrev pub next_alias : {D : Type 0} → Reply D → Labels → Option ℕ
next_alias reply name = position (λ c. is_alias reply name c.group) reply.candidates

-- a CNAME record that is an expansion, by what denying its name comes to: without a proof the path ends there (RFC 4035 5.3.4)
abbrev pub by_denying : {D : Type 0} → Labels → State → Labels → Denied D → Turn D
by_denying name state target (denied d) = goes_to target state (Some d)
by_denying name state target (opened d) = goes_to target (map_maybe_secure state insecure) (Some d)
by_denying name state target (unproved cause) = fails_at name cause

-- a CNAME record: the path goes on from its target (RFC 1034 3.6.2)
abbrev pub cname_turn : {D : Type 0} → Reply D → Labels → Candidate → Labels → Option Labels → Turn D
cname_turn reply name c target None = goes_to target c.state None
cname_turn reply name c target (Some encloser) = by_denying name c.state target (reply.denying name c encloser)

-- a DNAME record, by the name that it maps the path's to: past 255 octets there is none (RFC 6672 2.2)
abbrev pub by_mapping : {D : Type 0} → Candidate → Option Labels → Turn D
by_mapping c (Some mapped) = goes_to mapped c.state None
by_mapping c None = fails_at c.group.owner DnameTooLong

-- a DNAME record: of an expansion of a wildcard it isn't followed (RFC 6672 3.3)
abbrev pub dname_turn : {D : Type 0} → Labels → Candidate → Labels → Option Labels → Turn D
dname_turn name c target None = by_mapping c (map_dname c.group.owner target name)
dname_turn name c target (Some encloser) = fails_at c.group.owner DnameFromWildcard

-- whether it is known which zone an alias is of: where no anchor stands above it, it isn't
abbrev pub is_known : State → Bool
is_known secure = true
is_known insecure = true
is_known bogus = false
is_known indeterminate = false

-- whether an alias at a name for whose DS set is asked is of the zone that begins there, which says nothing of that set: it stands in the zone
-- above (RFC 4035 2.4)
abbrev pub is_of_child : {D : Type 0} → Reply D → Labels → Candidate → Bool
is_of_child reply name c = (reply.rtype == DS) && same_place c.signer (place name) && is_known c.state

-- a CNAME record, unless it is of the zone below: then it isn't followed
abbrev pub cname_from : {D : Type 0} → Reply D → Labels → Candidate → Labels → Turn D
cname_from reply name c target = if is_of_child reply name c then fails_at name CnameFromApexForDs else cname_turn reply name c target c.encloser

-- an alias, by its type, and its target
abbrev pub turn_to : {D : Type 0} → Reply D → Labels → Candidate → Labels → Turn D
turn_to reply name c target = if c.group.rtype == DNAME then dname_turn name c target c.encloser else cname_from reply name c target

-- a path, after a step of this state
abbrev pub after_step : {D : Type 0} → AliasStep D → State → AliasEnd D → AliasEnd D
after_step step state (ends_at final later steps) = ends_at final (map_maybe_secure later state) (step ∷ steps)
after_step step state (ends_bogus reached cause) = ends_bogus reached cause

-- where a path ends by what its first alias comes to, and by the path from there
abbrev pub by_turn : {D : Type 0} → ℕ → Turn D → (Labels → AliasEnd D) → AliasEnd D
by_turn index (goes_to target state denial) rest = after_step (record { group = index; denial = denial }) state (rest target)
by_turn index (fails_at reached cause) rest = ends_bogus reached cause

-- the same by the alias, which has a target
abbrev pub by_target : {D : Type 0} → Reply D → Labels → ℕ → Candidate → Option Labels → (Labels → AliasEnd D) → AliasEnd D
by_target reply name index c None rest = ends_at name secure []
by_target reply name index c (Some target) rest = by_turn index (turn_to reply name c target) rest

-- the same by the group at its index
abbrev pub by_alias : {D : Type 0} → Reply D → Labels → ℕ → Option Candidate → (Labels → AliasEnd D) → AliasEnd D
by_alias reply name index None rest = ends_at name secure []
by_alias reply name index (Some c) rest = by_target reply name index c (only_target c.group.records) rest

-- the same by its index; without an alias the path ends at the name
abbrev pub by_next : {D : Type 0} → Reply D → Labels → Option ℕ → (Labels → AliasEnd D) → AliasEnd D
by_next reply name None rest = ends_at name secure []
by_next reply name (Some index) rest = by_alias reply name index (slice_get reply.candidates index) rest

-- where the path from a name ends, by the path from where its first alias leads
abbrev pub path_from : {D : Type 0} → Reply D → Labels → (Labels → AliasEnd D) → AliasEnd D
path_from reply name rest = by_next reply name (next_alias reply name) rest

-- where the path from a name ends that may have so many steps: one more is too many
unfoldable pub do_cname_dname : {D : Type 0} → Reply D → ℕ → Labels → AliasEnd D
do_cname_dname reply zero name = path_from reply name (λ reached. ends_bogus reached TooManyAliases)
do_cname_dname reply (suc left) name = path_from reply name (λ reached. do_cname_dname reply left reached)
