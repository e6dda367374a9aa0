use Rattle.std.proofs.Common.{◌≡◌, ◌||◌, drop, map}
use Rattle.dsec_hashed.specs.Hashed.{has_twins}
use Rattle.dsec_hashed.specs.HashedViews.{hashed_view}
use Rattle.dsec_hashed.proofs.chain.have_collision.Given as goal

abbrev pub invariant-loop-i : goal.invariant-loop-i
invariant-loop-i l = has_twins (map hashed_view l.names) ≡ (l.found || has_twins (map hashed_view (drop l.i l.names)))
