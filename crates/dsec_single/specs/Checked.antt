-- How many signatures are checked at most for a single group that is validated over caches and an upstream (RFC 4035 5.2, 5.3).
use Rattle.std.specs.Prelude.{◌≡◌, ◌≤◌, ℕ, ◌+◌, ◌*◌, List, ◌++◌, map, Option, Some, IfSome}
use Rattle.dsec_spec.specs.Outside.{Entry, Table}
use Rattle.dsec_spec.specs.Groups.{Group}
use Rattle.dsec_nodes.specs.World.{World}
use Rattle.dsec_walk.specs.Checks.{sets_at_most}
use Rattle.dsec_lookup.specs.Outside.{Outside, asked_by}
use Rattle.dsec_by_node.specs.Answers.{Told}
use Rattle.dsec_single.specs.Calls.{IsSingleCall}

-- What a call promises; and of these two counts of checked signatures the later is greater by no more than what is tried of one set, for each set that
-- the replies to its questions can have checked, and for the group itself (RFC 4035 5.2, 5.3)
pub record IsSingleCallWithin (w : World) (group : Group) (table : Option Table) (before after : Outside) (told : Option Told) (from to : ℕ) : Type 0 where
  pub call : IsSingleCall w group table before after told
  pub few : to ≤ from + sets_at_most call.asked 1 * w.bounds.room

-- where it is told what was heard, the later of two counts is greater by no more than so much, for each set that the replies that were heard since can
-- have checked, and for the group itself (RFC 4035 5.2, 5.3)
abbrev pub HeardWithin : Option (List Entry) → Option (List Entry) → ℕ → ℕ → ℕ → Type 0
HeardWithin before after room from to =
    IfSome before (λ told. (more : List Entry) × (after ≡ Some (told ++ more)) × (to ≤ from + sets_at_most (map asked_by more) 1 * room))
