use Rattle.std.proofs.Common.{ap, ◌≡◌, ◌++◌, ◌∙◌, [], ◌∷◌, take, List, ℕ, arith, length}
use Rattle.std.specs.Prelude.{map}
use Rattle.std.specs.Char.{to_ascii_lowercase}
use Rattle.std.proofs.lemmas.List.{take_all}
use Rattle.dsec_spec.specs.Names.{lower}
use Rattle.dsec_name.specs.Keys.{labels_octets}
use Rattle.dsec_name.specs.NameRefs.{name_view}
use Rattle.dsec_name.proofs.NameParts.{lower-octets, length-octets}
use Rattle.dsec_name.proofs.name_ref.NameRef.canonical_octets.Goals as goal

pub returns : goal.returns
returns c =
    let name = name_view c.args.self.now in
    let all = take_all c.loop-octet.octet-index c.args.self.now.octets.now c.loop-octet-test.false in
    let lowered : map to_ascii_lowercase (take c.loop-octet.octet-index c.args.self.now.octets.now) ≡ labels_octets (lower name) =
    ap (map to_ascii_lowercase) (all ∙ c.args.self.now.whole.whole) ∙ lower-octets name c.args.self.now.whole.name.labels in
    c.push-2.ensures.items ∙ ap (λ (x : List ℕ). x ++ 0 ∷ []) (c.loop-octet.invariant.0 ∙ lowered)

pub loop-octet-init : goal.loop-octet-init
loop-octet-init c =
    let whole = c.args.self.now.whole in
    let same = ap (λ (xs : List ℕ). length xs) whole.whole in
    let none = ap (λ (xs : List ℕ). length xs) c.new-out.ensures in
    (c.new-out.ensures, omega (arith, none), omega (arith, same, whole.name.at_most, length-octets (name_view c.args.self.now)))
