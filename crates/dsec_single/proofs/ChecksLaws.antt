-- For each input no more sets are checked than its question takes, and where the upstream tells what it has heard, these questions are those of the call.
use Rattle.std.proofs.Common.{ℕ, ◌+◌, ◌*◌, ◌≤◌, List, [], ◌∷◌, Option, Some, None, sym, subst, arith}
use Rattle.std.specs.List.{sum_by}
use Rattle.std.proofs.lemmas.List.Sums.{sum_by-append}
use Rattle.dsec_spec.specs.Outside.{Entry, Table}
use Rattle.dsec_spec.specs.Groups.{Group}
use Rattle.dsec_nodes.specs.World.{World}
use Rattle.dsec_nodes.specs.Machine.{Question as Asked, Walking, Input, begin, node, stored, reply, name_at, asked_type}
use Rattle.dsec_walk.specs.Checks.{most_checked_by, sets_in, sets_at_most}
use Rattle.dsec_walk.proofs.CheckLaws.{reply_sets, spent}
use Rattle.dsec_course.proofs.WalkSteps.{asked_after}
use Rattle.dsec_lookup.specs.Outside.{Outside, HeardMore}
use Rattle.dsec_by_node.specs.Answers.{Told}
use Rattle.dsec_single.specs.Checked.{IsSingleCallWithin, HeardWithin}

-- so many sets, and one more
pub one_more : (p k from at to : ℕ) → at ≤ from + p * k → to ≤ at + k → to ≤ from + (p + 1) * k
one_more p k from at to h l = spent 1 p (p + 1) k from at to (omega arith) h (omega (arith, l))

-- the sets of what answers a step of a walk are those of its question
pub walk_sets : (s : Walking) (i : Input) → most_checked_by i s.phase s.reached + sum_by sets_in s.asked ≤ sum_by sets_in (asked_after s i)
walk_sets s begin = omega arith
walk_sets s (node o) = omega arith
walk_sets s stored = omega arith
walk_sets s (reply octets) =
    let one : Asked = record { name = name_at s; rtype = asked_type s.phase s.reached; reply = octets } in
    omega (arith, reply_sets s octets, sum_by-append sets_in s.asked (one ∷ []))

-- where it is told what was heard, the questions of the call are those that were heard in it
pub heard_within : (w : World) (group : Group) (table : Option Table) (before after : Outside) (told : Option Told) (from to : ℕ)
    → IsSingleCallWithin w group table before after told from to → HeardWithin before.heard after.heard w.bounds.room from to
heard_within w group table before after told from to h = by before.heard h.call.counted.heard
  where
    by : (heard : Option (List Entry)) → HeardMore heard after.heard h.call.asked → HeardWithin heard after.heard w.bounds.room from to
    by None x = tt
    by (Some heard) (more, is, are) =
        (more, is, subst (λ (qs : List Asked). to ≤ from + sets_at_most qs 1 * w.bounds.room) (sym are) h.few)
