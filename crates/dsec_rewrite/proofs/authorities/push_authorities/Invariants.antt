use Rattle.std.proofs.Common.{◌≡◌, map, take}
use Rattle.dsec_rewrite.specs.Cutting.{section_of}
use Rattle.dsec_rewrite.specs.Views.{bounded_view}
use Rattle.dsec_rewrite.specs.Writing.{with_authorities}
use Rattle.dsec_rewrite.proofs.authorities.push_authorities.Given as goal

abbrev pub invariant-loop-one : goal.invariant-loop-one
invariant-loop-one l = l.builder ≡ with_authorities l.fn.builder (section_of (map bounded_view (take l.one-index l.groups)))
