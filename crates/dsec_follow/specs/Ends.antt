-- Where a path of aliases ends, as it is told (RFC 1034 3.6.2).
use Rattle.std.specs.Prelude.{ℕ, List, [], map, Option, Some, None}
use Rattle.dsec_cause.specs.declared.cause.Cause.{Cause}
use Rattle.dsec_spec.specs.Names.{Labels}
use Rattle.dsec_nodes.specs.Aliases.{Beside, used_beside}
use Rattle.dsec_alias.specs.States.{State, bogus}
use Rattle.dsec_alias.specs.Following.{AliasStep, AliasEnd, ends_at, ends_bogus}

-- a step: the index of the alias in the answer section, and those of the groups that stand beside it in the authority section
pub record StepTold : Type 0 where
  pub group : ℕ
  pub used : List ℕ

abbrev pub step_told : AliasStep Beside → StepTold
step_told step = record { group = step.group; used = used_beside step.denial }

-- the name where a path ends, its state, why it is Bogus, and its steps
pub record EndTold : Type 0 where
  pub name : Labels
  pub state : State
  pub cause : Option Cause
  pub steps : List StepTold

-- of a Bogus path no step is told
abbrev pub end_told : AliasEnd Beside → EndTold
end_told (ends_at final state path) = record { name = final; state = state; cause = None; steps = map step_told path }
end_told (ends_bogus reached cause) = record { name = reached; state = bogus; cause = Some cause; steps = [] }
