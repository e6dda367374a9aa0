use Rattle.std.proofs.Common.{map, take}
use Rattle.dsec_spec.specs.Names.{place}
use Rattle.dsec_sorted.specs.IterViews.{left_of}
use Rattle.dsec_chain.specs.Views.{inside_view}
use Rattle.dsec_sign.proofs.ZoneSets.{Collected}
use Rattle.dsec_sign.proofs.zone_sets.sets_to_sign.Given as goal

abbrev pub invariant-loop-owner : goal.invariant-loop-owner
invariant-loop-owner l = Collected (place l.apex) (left_of l.records) (take l.owner-index (map inside_view l.owner-items)) l.sets.items
