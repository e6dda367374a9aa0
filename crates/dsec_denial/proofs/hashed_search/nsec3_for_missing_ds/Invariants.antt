use Rattle.std.proofs.Common.{◌≡◌, ℕ, ◌+◌, ◌*◌, ◌≤◌, List, drop}
use Rattle.dsec_nodes.specs.Signing.{keys_of}
use Rattle.dsec_spec.specs.Names.{place}
use Rattle.dsec_spec.specs.Numbers.{NSEC3}
use Rattle.dsec_nodes.specs.MissingDs.{passed, then_looked, looked_among}
use Rattle.dsec_nodes.specs.MissingByHash.{by_hashed_group}
use Rattle.dsec_nodes.specs.Nodes.{Node}
use Rattle.dsec_nodes.specs.World.{World}
use Rattle.dsec_denial.specs.Findings.{Follows, GoesBy, how_many}
use Rattle.dsec_denial.proofs.hashed_search.nsec3_for_missing_ds.Given as goal

abbrev pub invariant-loop-index : goal.invariant-loop-index
invariant-loop-index g l =
    ((w : World) (zone : Node) (datas : List (List ℕ)) → GoesBy g.V.Verifier.accepts (place l.apex) (keys_of l.keys) (l.limits.max_bad_signatures + 1) l.t w zone datas
    → Follows l.limits.nsec3_iter_insecure l.limits.nsec3_iter_bogus w
    → then_looked (passed l.last) (looked_among (by_hashed_group w zone datas (place l.name)) (drop l.index l.groups)) ≡ looked_among (by_hashed_group w zone datas (place l.name)) l.groups)
    × (l.fn.steps ≤ l.steps)
    × (l.steps + how_many NSEC3 (drop l.index l.groups) * (l.limits.max_bad_signatures + 1) ≤ l.fn.steps + how_many NSEC3 l.groups * (l.limits.max_bad_signatures + 1))
