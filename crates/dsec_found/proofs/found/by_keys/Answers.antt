use Rattle.std.proofs.Common.{sym, ap, ◌∙◌}
use Rattle.dsec_nodes.specs.Signing.{keys_of}
use Rattle.dsec_nodes.specs.World.{on_circle}
use Rattle.dsec_spec.specs.Names.{place}
use Rattle.dsec_group.specs.declared.limits.Limits.{Limits}
use Rattle.dsec_found.proofs.FoundSteps.{good_pair, same_tried}
use Rattle.dsec_found.proofs.found.by_keys.Goals as goal

pub returns-in-None-Some-Some-clause-comes : goal.returns-in-None-Some-Some-clause-comes
returns-in-None-Some-Some-clause-comes g c =
    let keys = keys_of c.args.keys.now in
    let same = same_tried g.V.Verifier.accepts c.args.group.now (place c.args.zone.now) keys c.limits-limits.result.max_bad_signatures c.args.config.now.max_bad_signatures c.from_seconds-t.result (on_circle c.args.now)
    (ap (λ (l : Limits). l.max_bad_signatures) c.limits-limits.ensures) c.from_seconds-t.ensures in
    let pair = good_pair c.args.group.now keys c.in_ok-check.check c.in-None-Some-Some.signature c.in-None-Some-Some.key _ c.in_ok-check.ensures.checked c.in-None-Some-Some.is-1 c.in-None-Some-Some.is-2 in
    (pair.0, sym same ∙ pair.1, pair.2)
