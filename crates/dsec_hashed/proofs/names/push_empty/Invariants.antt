use Rattle.std.proofs.Common.{◌≡◌, ◌++◌, map}
use Rattle.dsec_spec.specs.Names.{place}
use Rattle.dsec_hashed.specs.Config.{hashing_of}
use Rattle.dsec_hashed.specs.HashedList.{empty_at, new_above}
use Rattle.dsec_hashed.specs.HashedTypes.{hashed_as}
use Rattle.dsec_hashed.specs.HashedViews.{hashed_view}
use Rattle.dsec_hashed.proofs.AboveSteps.{new_from, left_above}
use Rattle.dsec_hashed.proofs.names.push_empty.Given as goal

abbrev pub invariant-loop-above : goal.invariant-loop-above
invariant-loop-above l =
    map hashed_view l.all.items ++ map (λ n. hashed_as (hashing_of l.config) (empty_at n)) (new_from (place l.apex) (place l.before) l.above)
    ≡ map hashed_view l.fn.all.items ++ map (λ n. hashed_as (hashing_of l.config) (empty_at n)) (new_above (place l.apex) (place l.before) l.name)

abbrev pub decreases-loop-above : goal.decreases-loop-above
decreases-loop-above l = left_above l.above
