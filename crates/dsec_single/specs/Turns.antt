-- One step of a walk that is served over caches and an upstream, in code.
use Rattle.std.specs.Prelude.{ℕ, Option, Result, Ok, Err}
use Rattle.dsec_spec.specs.Names.{Place}
use Rattle.dsec_spec.specs.Outside.{Table}
use Rattle.dsec_nodes.specs.World.{World}
use Rattle.dsec_nodes.specs.Nodes.{Node}
use Rattle.dsec_nodes.specs.Machine.{Walking}
use Rattle.dsec_walk.specs.declared.steps.Step.{Step}
use Rattle.dsec_walk.specs.Views.{step_view}
use Rattle.dsec_lookup.specs.Outside.{Outside}
use Rattle.dsec_single.specs.Progress.{IsOn, IsStuck, IsEnded}

-- it has come to the next step, or there was no memory
abbrev pub ComesOn : {V E : Type 0} → World → Option Table → Outside → Outside → Place → Place → Walking → ℕ → ℕ → Result (Step V) E → Type 0
ComesOn w table before now top target walk from to (Ok step) = IsOn w table before now top target walk (step_view step) from to
ComesOn w table before now top target walk from to (Err e) = IsStuck w table before now top target from to

-- it has come to its end with a node, or there was no memory
abbrev pub EndsOn : {A E : Type 0} → World → Option Table → Outside → Outside → Place → Place → ℕ → ℕ → Result A E → (A → Node) → Type 0
EndsOn w table before now top target from to (Ok a) node_in = IsEnded w table before now top target (node_in a) from to
EndsOn w table before now top target from to (Err e) node_in = IsStuck w table before now top target from to
