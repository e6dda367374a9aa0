use Rattle.std.proofs.Common.{◌≡◌, map, take}
use Rattle.dsec_rewrite.specs.Cutting.{cut}
use Rattle.dsec_rewrite.specs.Writing.{with_answers}
use Rattle.dsec_rewrite.proofs.answers.push_cut.Given as goal

abbrev pub invariant-loop-one : goal.invariant-loop-one
invariant-loop-one l = l.builder ≡ with_answers l.fn.builder (map (cut l.group.adjust_ttl) (take l.one-index l.records))
