-- How many checks the parts of a step take together.
use Rattle.std.proofs.Common.{◌≡◌, ℕ, ◌≤◌, ◌+◌, ◌*◌, arith, sym, subst}
use Rattle.std.proofs.lemmas.Grind.{common_steps}
use Rattle.dsec_spec.specs.Groups.{Group}
use Rattle.dsec_nodes.specs.World.{World}
use Rattle.dsec_nodes.specs.Machine.{Walking, Step, Input, advanced}
use Rattle.dsec_course.specs.Course.{Waiting, for_walk}
use Rattle.dsec_walk.specs.Checks.{most_checked_by}
use Rattle.dsec_core.specs.Validating.{judged_by, most_checked_at}

-- those for the step of a walk, and then those for what is judged by it
pub more_sets : (sets judged checks before between after : ℕ) → between ≤ before + sets * checks → after ≤ between + judged * checks
    → after ≤ before + (sets + judged) * checks
more_sets sets judged checks before between after h k = grind (arith, common_steps)

-- of a walk that is waited for
pub walk_checks : (w : World) (i : Input) (group : Group) (s t : Walking) (x : Step) (waits : Waiting) (checks before between after : ℕ) → waits ≡ for_walk group s
    → (t, x) ≡ advanced w s i → between ≤ before + most_checked_by i s.phase s.reached * checks → after ≤ between + judged_by x * checks
    → after ≤ before + most_checked_at w waits i * checks
walk_checks w i group s t x waits checks before between after e m h k =
    subst (λ (y : Waiting). after ≤ before + most_checked_at w y i * checks) (sym e)
    (more_sets (most_checked_by i s.phase s.reached) (judged_by (advanced w s i).1) checks before between after h
    (subst (λ (q : Walking × Step). after ≤ between + judged_by q.1 * checks) m k))
