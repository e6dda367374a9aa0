use Rattle.dsec_crypto.specs.StandIn.{stand_in}
use Rattle.dsec_walk.specs.UnderWay.{IsUnderWay}
use Rattle.dsec_walk.specs.Views.{world_in}
use Rattle.dsec_children.proofs.way.go_down.Given as goal

abbrev pub invariant-loop : goal.invariant-loop
invariant-loop g l = IsUnderWay (world_in stand_in l.fn.setting) l.walk
