use Rattle.std.proofs.Common.{◌≡◌, map, take}
use Rattle.dsec_rewrite.specs.Cutting.{section_of}
use Rattle.dsec_rewrite.specs.Views.{bounded_view}
use Rattle.dsec_rewrite.specs.Writing.{with_answers}
use Rattle.dsec_rewrite.proofs.answers.push_answers.Given as goal

abbrev pub invariant-loop-one : goal.invariant-loop-one
invariant-loop-one l = l.builder ≡ with_answers l.fn.builder (section_of (map bounded_view (take l.one-index l.groups)))
