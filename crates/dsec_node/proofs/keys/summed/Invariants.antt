use Rattle.std.proofs.Common.{map, take}
use Rattle.dsec_node.specs.KeyTags.{AreTags}
use Rattle.dsec_node.proofs.keys.summed.Given as goal

abbrev pub invariant-loop-one : goal.invariant-loop-one
invariant-loop-one l = AreTags l.tags.items (map (λ one. one.rdata) (take l.one-index l.records))
