-- What an alias comes to, as the code keeps it.
use Rattle.std.specs.Prelude.{ℕ, List, Bool, true, false}
use Rattle.dsec_cause.specs.declared.cause.Cause.{Cause}
use Rattle.dsec_cause.specs.declared.cause.Cause.TheVariants.{DnameFromWildcard}
use Rattle.dsec_spec.specs.Names.{Labels}
use Rattle.dsec_spec.specs.Redirection.{map_dname}
use Rattle.dsec_alias.specs.States.{State}
use Rattle.dsec_alias.specs.Candidates.{Candidate}
use Rattle.dsec_alias.specs.Following as following
use Rattle.dsec_alias.specs.Following.{goes_to, fails_at, by_mapping}
use Rattle.dsec_found.specs.Outcomes.{state_view}
use Rattle.dsec_nodes.specs.Aliases.{Beside, used_beside}
use Rattle.dsec_follow.specs.declared.turn.Turn.{Turn}
use Rattle.dsec_follow.specs.declared.turn.Turn.TheVariants.{GoesTo, FailsAt}

-- what an alias comes to: a name with a state and the groups that a denial beside it uses, or a failure
pub data TurnTold : Type 0 where
  told_onto : Labels → State → List ℕ → TurnTold
  told_failed : Labels → Cause → TurnTold

abbrev pub turn_told : following.Turn Beside → TurnTold
turn_told (goes_to target state denial) = told_onto target state (used_beside denial)
turn_told (fails_at reached cause) = told_failed reached cause

abbrev pub turn_view : Turn → TurnTold
turn_view (GoesTo target state used) = told_onto target (state_view state) used
turn_view (FailsAt reached cause) = told_failed reached cause

-- what a DNAME record comes to, by whether it is an expansion of a wildcard
abbrev pub dname_by : Labels → Candidate → Labels → Bool → following.Turn Beside
dname_by name c target true = fails_at c.group.owner DnameFromWildcard
dname_by name c target false = by_mapping c (map_dname c.group.owner target name)
