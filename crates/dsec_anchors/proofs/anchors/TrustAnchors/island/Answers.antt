use Rattle.std.proofs.Common.{◌∙◌, sym, ap, List}
use Rattle.std.specs.Option.{option_map}
use Rattle.dsec_spec.specs.Islands.{island}
use Rattle.dsec_spec.specs.Names.{place}
use Rattle.dsec_spec.specs.Records.{Record}
use Rattle.dsec_anchors.specs.Anchors.{OwnersAnchors}
use Rattle.dsec_anchors.proofs.AnchorLemmas.{anchors_at_island, view_place}
use Rattle.dsec_anchors.proofs.anchors.TrustAnchors.island.Goals as goal

pub returns-clause-owner : goal.returns-clause-owner
returns-clause-owner c =
    let anchors = c.args.self.now in
    let name = place c.args.name.now in
    let p = place c.in_ok-owner.owner.now in
    let e = ap (λ (a : List Record). island a name c.args.rtype) (sym c.as_slice.ensures) ∙ (sym c.island_owner.ensures.island ∙ ap (option_map (λ owner. place owner.now)) c.in_ok-owner.was) in
    view_place c.find.result
    ∙ (ap (option_map (λ (o : OwnersAnchors). place o.owner)) c.find.ensures
    ∙ (anchors_at_island anchors name c.args.rtype p e ∙ sym e))
