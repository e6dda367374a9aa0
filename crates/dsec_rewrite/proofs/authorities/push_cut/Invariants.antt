use Rattle.std.proofs.Common.{◌≡◌, map, take}
use Rattle.dsec_rewrite.specs.Cutting.{cut}
use Rattle.dsec_rewrite.specs.Writing.{with_authorities}
use Rattle.dsec_rewrite.proofs.authorities.push_cut.Given as goal

abbrev pub invariant-loop-one : goal.invariant-loop-one
invariant-loop-one l = l.builder ≡ with_authorities l.fn.builder (map (cut l.group.adjust_ttl) (take l.one-index l.records))
