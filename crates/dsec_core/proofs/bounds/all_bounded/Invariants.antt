use Rattle.std.proofs.Common.{◌≡◌, map, take}
use Rattle.dsec_nodes.specs.World.{on_circle}
use Rattle.dsec_cut.specs.Cuts.{bounded_at}
use Rattle.dsec_rewrite.specs.Views.{bounded_view}
use Rattle.dsec_core.proofs.bounds.all_bounded.Given as goal

abbrev pub invariant-loop-one : goal.invariant-loop-one
invariant-loop-one g l = map bounded_view l.all.items ≡ map (bounded_at (on_circle l.moment)) (take l.one-index l.groups)
