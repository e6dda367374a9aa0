use Rattle.std.proofs.Common.{length, map}
use Rattle.std.specs.Prelude.{All}
use Rattle.dsec_spec.specs.Names.{place}
use Rattle.dsec_sorted.specs.IterViews.{left_of}
use Rattle.dsec_chain.proofs.InsideWalk.{Entered}
use Rattle.dsec_chain.specs.Views.{HasRecords, IsPlaced, cut_place, inside_view}
use Rattle.dsec_chain.proofs.owners.inside_owners.Given as goal

abbrev pub invariant-loop-owner : goal.invariant-loop-owner
invariant-loop-owner l = record {
  entered : Entered (place l.apex) (left_of l.records) (left_of l.rest) (cut_place l.has_cut l.cut) (map inside_view l.all.items);
  placed : All (IsPlaced (left_of l.records)) l.all.items;
  some : All HasRecords l.all.items;
}

abbrev pub decreases-loop-owner : goal.decreases-loop-owner
decreases-loop-owner l = length (left_of l.rest)
