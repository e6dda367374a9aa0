use Rattle.std.proofs.Common.{◌≡◌, take}
use Rattle.std.specs.Prelude.{filter_map}
use Rattle.dsec_nodes.specs.ByDenial.{used_at}
use Rattle.dsec_outcome.proofs.used.used_by.Given as goal

abbrev pub invariant-loop-index : goal.invariant-loop-index
invariant-loop-index g l = l.used.items ≡ filter_map (used_at l.authorities) (take l.index-index l.indexes)
