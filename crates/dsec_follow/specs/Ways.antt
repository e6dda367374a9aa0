-- A path of aliases so far, and what it comes to.
use Rattle.std.specs.Prelude.{◌≡◌, ℕ, ◌+◌, ◌-◌, ◌<◌, List, [], ◌∷◌, ◌++◌, map, Some, None}
use Rattle.dsec_cause.specs.declared.cause.Cause.{Cause}
use Rattle.dsec_cause.specs.declared.cause.Cause.TheVariants.{TooManyAliases}
use Rattle.dsec_spec.specs.Names.{Labels}
use Rattle.dsec_alias.specs.States.{State, bogus, map_maybe_secure}
use Rattle.dsec_alias.specs.Candidates.{Reply}
use Rattle.dsec_alias.specs.Following.{AliasEnd, ends_at, ends_bogus, do_cname_dname}
use Rattle.dsec_found.specs.Outcomes.{state_view}
use Rattle.dsec_nodes.specs.Aliases.{Beside}
use Rattle.dsec_follow.specs.Ends.{StepTold, step_told, EndTold}
use Rattle.dsec_follow.specs.declared.path.Way.{Way}
use Rattle.dsec_follow.specs.declared.path.Progress.{Progress}
use Rattle.dsec_follow.specs.declared.path.Progress.TheVariants.{Goes, Ends}

-- the name that a path reached, the state of its aliases, its steps, and how many more it may have
pub record WaySeen : Type 0 where
  pub name : Labels
  pub state : State
  pub steps : List StepTold
  pub left : ℕ

abbrev pub way_view : Way → WaySeen
way_view way = record { name = way.name; state = state_view way.state; steps = way.steps.items; left = way.left }

-- a Bogus end
abbrev pub bogus_told : Labels → Cause → EndTold
bogus_told reached cause = record { name = reached; state = bogus; cause = Some cause; steps = [] }

-- the end of a path after these steps, whose state this is
abbrev pub end_after : List StepTold → State → AliasEnd Beside → EndTold
end_after steps state (ends_at final later path) =
    record { name = final; state = map_maybe_secure later state; cause = None; steps = steps ++ map step_told path }
end_after steps state (ends_bogus reached cause) = bogus_told reached cause

-- where a path so far ends
abbrev pub way_end : Reply Beside → WaySeen → EndTold
way_end reply way = end_after way.steps way.state (do_cname_dname reply way.left way.name)

-- the path comes to the same after a step, and may then have one step fewer; or it ends
abbrev pub ProgressIs : Reply Beside → WaySeen → Progress → Type 0
ProgressIs reply way (Goes next) = (way_end reply (way_view next) ≡ way_end reply way) × (next.left + 1 ≡ way.left)
ProgressIs reply way (Ends end) = end ≡ way_end reply way

-- the path after a step
abbrev pub stepped : WaySeen → ℕ → Labels → State → List ℕ → WaySeen
stepped way index target state used = record {
  name = target;
  state = map_maybe_secure state way.state;
  steps = way.steps ++ record { group = index; used = used } ∷ [];
  left = way.left - 1;
}

-- a step leads on, or is one too many
abbrev pub StepsOnto : WaySeen → ℕ → Labels → State → List ℕ → Progress → Type 0
StepsOnto way index target state used (Goes next) = (0 < way.left) × (way_view next ≡ stepped way index target state used)
StepsOnto way index target state used (Ends end) = (way.left ≡ 0) × (end ≡ bogus_told target TooManyAliases)
