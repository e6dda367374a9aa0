use Rattle.std.proofs.Common.{◌∙◌, sym, ap, List}
use Rattle.std.specs.Prelude.{Option, Some}
use Rattle.std.specs.Option.{option_map}
use Rattle.dsec_spec.specs.Names.{Labels, place}
use Rattle.dsec_spec.specs.Records.{Record}
use Rattle.dsec_anchors.specs.Anchors.{OwnersAnchors, anchors_at, records_at}
use Rattle.dsec_anchors.proofs.AnchorLemmas.{anchors_by_first, no_anchors}
use Rattle.dsec_anchors.proofs.anchors.TrustAnchors.find.Goals as goal

pub returns-in-None : goal.returns-in-None
returns-in-None c =
    let all = c.as_slice-all.result.now in
    let p = place c.args.owner.now in
    no_anchors all p (sym c.first_at.ensures ∙ ap (option_map (λ one. one.now)) c.in-None.is)
    ∙ ap (λ (a : List Record). anchors_at a p) c.as_slice-all.ensures

pub returns-in-Some : goal.returns-in-Some
returns-in-Some c =
    let all = c.as_slice-all.result.now in
    let p = place c.args.owner.now in
    let owned : Labels → Option OwnersAnchors = λ n. Some (record { owner = n; records = records_at all (place n) }) in
    ap owned c.owner.ensures
    ∙ (anchors_by_first all p c.in-Some.first.now (sym c.first_at.ensures ∙ ap (option_map (λ one. one.now)) c.in-Some.is)
    ∙ ap (λ (a : List Record). anchors_at a p) c.as_slice-all.ensures)
