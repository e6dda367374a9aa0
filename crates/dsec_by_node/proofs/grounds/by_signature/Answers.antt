use Rattle.std.proofs.Common.{ap, ◌∙◌}
use Rattle.dsec_spec.specs.Groups.{Group}
use Rattle.dsec_spec.specs.Lasting.{adjusted_ttl, ttl_for_sig}
use Rattle.dsec_nodes.specs.World.{on_circle}
use Rattle.dsec_by_node.proofs.TellingLaws.{signed_can, signed_shown}
use Rattle.dsec_by_node.proofs.grounds.by_signature.Goals as goal

pub returns-clause-sound : goal.returns-clause-sound
returns-clause-sound g c =
    signed_can g.V.Verifier.accepts c.args.judged.now.group c.args.node.now (on_circle c.args.now) c.args.judged.now.finding c.args.signature.now c.in_ok-shown.shown
    c.in_ok-closest_encloser.closest_encloser c.adjusted-adjusted.result c.secure.result c.requires.its c.requires.rests c.in_ok-shown.ensures.anchor
    c.in_ok-shown.ensures.moment c.in_ok-shown.ensures.links c.in_ok-closest_encloser.ensures
    (c.adjusted-adjusted.ensures ∙ (ap (λ (x : Group). adjusted_ttl x c.ttl_for_sig-left.result) c.group.ensures
    ∙ ap (adjusted_ttl c.args.judged.now.group) (c.ttl_for_sig-left.ensures ∙ ap (ttl_for_sig c.args.signature.now) c.from_seconds.ensures))) c.secure.ensures

pub returns-clause-shown : goal.returns-clause-shown
returns-clause-shown g c =
    signed_shown g.V.Verifier.accepts c.args.judged.now.group c.args.node.now (on_circle c.args.now) c.args.judged.now.finding c.args.signature.now c.in_ok-shown.shown
    c.in_ok-closest_encloser.closest_encloser c.adjusted-adjusted.result c.secure.result c.requires.its c.in_ok-shown.ensures.anchor
    c.in_ok-shown.ensures.moment c.in_ok-shown.ensures.links c.secure.ensures
