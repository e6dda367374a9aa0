-- How many signatures are checked at most for a message that is judged over caches and an upstream (RFC 4035 5.2, 5.3).
use Rattle.std.specs.Prelude.{◌≡◌, ◌≤◌, ℕ, ◌+◌, ◌*◌, List, ◌++◌, map, Option, Some, IfSome}
use Rattle.dsec_spec.specs.Outside.{Entry, Table}
use Rattle.dsec_nodes.specs.World.{World}
use Rattle.dsec_walk.specs.Checks.{sets_at_most}
use Rattle.dsec_course.specs.Advancing.{begun}
use Rattle.dsec_context.specs.Outside.{Outside, asked_by}
use Rattle.dsec_context.specs.Calls.{count_of}
use Rattle.dsec_context.specs.Judgements.{Judgement, IsJudging}

-- What judging promises; and of these two counts of checked signatures the later is greater by no more than what is tried of one set, for each set
-- that the replies to its questions can have checked, and for each group of the message (RFC 4035 5.2, 5.3)
pub record IsJudgingWithin (w : World) (most : ℕ) (message : List ℕ) (table : Option Table) (before after : Outside) (j : Judgement) (from to : ℕ) : Type 0 where
  pub judging : IsJudging w most message table before after j
  pub few : to ≤ from + sets_at_most judging.call.asked (count_of (begun w.anchors most message)) * w.bounds.room

-- where it is told what was heard, the later of two counts is greater by no more than so much, for each set that the replies that were heard since can
-- have checked, and for each of so many groups (RFC 4035 5.2, 5.3)
abbrev pub HeardWithin : Option (List Entry) → Option (List Entry) → ℕ → ℕ → ℕ → ℕ → Type 0
HeardWithin before after groups room from to =
    IfSome before (λ told. (more : List Entry) × (after ≡ Some (told ++ more)) × (to ≤ from + sets_at_most (map asked_by more) groups * room))
