use Rattle.std.proofs.Common.{◌≡◌, map, take}
use Rattle.indexmap.specs.IndexMap.{hasher_of}
use Rattle.dsec_group.specs.Keys.{group_key}
use Rattle.dsec_group.specs.Places.{Knows}
use Rattle.dsec_group.proofs.places.places_of.Given as goal

abbrev pub invariant-loop-index : goal.invariant-loop-index
invariant-loop-index l = Knows l.places (map group_key (take l.index l.groups)) × (hasher_of l.places ≡ l.fn.seed)
