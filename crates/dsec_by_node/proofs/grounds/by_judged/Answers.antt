use Rattle.std.proofs.Common.{◌≡◌, [], cond, sym, ap, ◌∙◌}
use Rattle.dsec_nodes.specs.World.{World}
use Rattle.dsec_nodes.specs.Judging.{Finding, Judged, found_at}
use Rattle.dsec_node.specs.Counting.{seconds_kept}
use Rattle.dsec_node.specs.Views.{bounds_of, world_of}
use Rattle.dsec_found.specs.Told.{signature_of}
use Rattle.dsec_by_node.specs.WithNode.{is_secure, seconds_by}
use Rattle.dsec_by_node.proofs.TellingLaws.{unsigned_seconds}
use Rattle.dsec_by_node.proofs.grounds.by_judged.Goals as goal

pub returns-in-None-clause-seconds : goal.returns-in-None-clause-seconds
returns-in-None-clause-seconds g c =
    let w : World = world_of g.V.Verifier.accepts [] (bounds_of c.args.config.now) c.args.now in
    let n = c.args.node.now in
    let group = c.args.judged.now.group in
    let same : c.args.judged.now.finding ≡ found_at w group n n.standing = ap (λ (j : Judged). j.finding) c.requires.found in
    c.seconds_unsigned.ensures ∙ (unsigned_seconds w group n (ap signature_of (sym same) ∙ sym c.in-None.ensures.value)
    ∙ ap (λ (f : Finding). cond (is_secure n.standing) (seconds_by w group n f) (seconds_kept n c.args.now)) (sym same))
