use Rattle.std.proofs.Common.{[], ◌+◌, sym, ap, ◌∙◌, subst}
use Rattle.dsec_nodes.specs.Signing.{keys_of}
use Rattle.dsec_nodes.specs.World.{on_circle}
use Rattle.dsec_node.specs.Views.{bounds_of, standing_view, world_of}
use Rattle.dsec_spec.specs.Names.{Place}
use Rattle.dsec_spec.specs.Trying.{checked}
use Rattle.dsec_found.specs.Founds.{ComesTo}
use Rattle.dsec_found.proofs.FoundSteps.{if_ok, zone_found, zone_stands}
use Rattle.dsec_found.proofs.found.found_by_node.Goals as goal

pub returns-in-Apex-clause-found : goal.returns-in-Apex-clause-found
returns-in-Apex-clause-found g c =
    let w = world_of g.V.Verifier.accepts [] (bounds_of c.args.config.now) c.args.now in
    let begins = sym c.standing.ensures.value ∙ ap standing_view c.in-Apex.is in
    if_ok c.by_keys.result (λ found h. zone_found w c.args.group.now c.args.node.now c.in-Apex.keys found begins
    (subst (λ (zone : Place). ComesTo c.args.group.now (keys_of c.in-Apex.keys) found (checked g.V.Verifier.accepts c.args.group.now zone (keys_of c.in-Apex.keys) (c.args.config.now.max_bad_signatures + 1) (on_circle c.args.now))) c.signer_name.ensures h))
    c.by_keys.ensures.comes

pub returns-in-Apex-clause-stands : goal.returns-in-Apex-clause-stands
returns-in-Apex-clause-stands g c =
    let w = world_of g.V.Verifier.accepts [] (bounds_of c.args.config.now) c.args.now in
    let begins = sym c.standing.ensures.value ∙ ap standing_view c.in-Apex.is in
    if_ok c.by_keys.result (λ found h. zone_stands w c.args.group.now c.args.node.now c.in-Apex.keys found begins
    (subst (λ (zone : Place). ComesTo c.args.group.now (keys_of c.in-Apex.keys) found (checked g.V.Verifier.accepts c.args.group.now zone (keys_of c.in-Apex.keys) (c.args.config.now.max_bad_signatures + 1) (on_circle c.args.now))) c.signer_name.ensures h))
    c.by_keys.ensures.comes
