use Rattle.std.proofs.Common.{◌≡◌, ◌++◌, ◌∷◌, take}
use Rattle.std.specs.List.{flat_map}
use Rattle.dsec_link.specs.Sets.{octets_of}
use Rattle.hex.specs.Hex.{encode_lower}
use Rattle.dsec_link.proofs.link_text.push_others.Given as goal

abbrev pub invariant-loop-one : goal.invariant-loop-one
invariant-loop-one l = l.out.items ≡ l.fn.out.items ++ flat_map (λ other. 44 ∷ encode_lower other) (octets_of (take l.one-index l.datas))
