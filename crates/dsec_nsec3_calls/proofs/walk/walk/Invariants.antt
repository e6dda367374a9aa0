use Rattle.std.proofs.Common.{◌≡◌, ◌-◌, ◌≤◌, length}
use Rattle.dsec_spec.specs.Names.{place}
use Rattle.dsec_nsec3.specs.Walks.{nsec3_for_not_exists, walk_from}
use Rattle.dsec_nsec3_calls.specs.Sources.{limits_view, seen_view, source_view}
use Rattle.dsec_nsec3_calls.specs.Walked.{candidate_view}
use Rattle.dsec_nsec3_calls.proofs.walk.walk.Given as goal

abbrev pub invariant-loop-depth : goal.invariant-loop-depth
invariant-loop-depth g l =
    (nsec3_for_not_exists (limits_view l.source) (source_view l.source) (place l.target)
    ≡ walk_from (seen_view l.source) (place l.source.signer.now) (place l.target) l.left (candidate_view l.above) l.depth (length l.target - l.depth))
    × (l.left ≤ l.source.limits.now.max_nsec3_hashes)
