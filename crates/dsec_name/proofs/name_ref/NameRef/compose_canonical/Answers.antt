use Rattle.std.proofs.Common.{ap, ◌≡◌, ◌++◌, ◌∙◌, [], ◌∷◌, take, List, ℕ, append_assoc}
use Rattle.std.specs.Prelude.{map}
use Rattle.std.specs.Char.{to_ascii_lowercase}
use Rattle.std.proofs.lemmas.List.{take_all}
use Rattle.dsec_spec.specs.Names.{lower}
use Rattle.dsec_name.specs.Keys.{labels_octets}
use Rattle.dsec_name.specs.NameRefs.{name_view}
use Rattle.dsec_name.proofs.NameParts.{lower-octets}
use Rattle.dsec_name.proofs.name_ref.NameRef.compose_canonical.Goals as goal

pub returns-clause-ok : goal.returns-clause-ok
returns-clause-ok c =
    let old = c.args.out.now.items in
    let name = name_view c.args.self.now in
    let all = take_all c.loop-octet.octet-index c.args.self.now.octets.now c.loop-octet-test.false in
    let lowered : map to_ascii_lowercase (take c.loop-octet.octet-index c.args.self.now.octets.now) ≡ labels_octets (lower name) =
    ap (map to_ascii_lowercase) (all ∙ c.args.self.now.whole.whole) ∙ lower-octets name c.args.self.now.whole.name.labels in
    c.push_reserved-2.ensures.items
    ∙ (ap (λ (x : List ℕ). x ++ 0 ∷ []) (c.loop-octet.invariant.0 ∙ ap (λ (x : List ℕ). old ++ x) lowered)
    ∙ append_assoc old (labels_octets (lower name)) (0 ∷ []))
