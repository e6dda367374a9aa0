use Rattle.std.proofs.Common.{◌≡◌, ◌++◌, take}
use Rattle.std.specs.List.{flat_map}
use Rattle.dsec_link.specs.LinkTexts.{link_line}
use Rattle.dsec_answer.proofs.texts.push_links.Given as goal

abbrev pub invariant-loop-link : goal.invariant-loop-link
invariant-loop-link l = l.out.items ≡ l.fn.out.items ++ flat_map (λ link. link_line l.index link) (take l.link-index l.links)
