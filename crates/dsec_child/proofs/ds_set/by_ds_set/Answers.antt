use Rattle.std.proofs.Common.{[], refl, ap, ◌∙◌, subst, ◌+◌}
use Rattle.dsec_spec.specs.Names.{place}
use Rattle.dsec_spec.specs.Trying.{checked}
use Rattle.dsec_nodes.specs.ByDs.{made}
use Rattle.dsec_nodes.specs.World.{on_circle}
use Rattle.dsec_nodes.specs.Signing.{keys_of}
use Rattle.dsec_node.specs.Views.{bounds_of, world_of}
use Rattle.dsec_child.specs.SignedSets.{ComesTo}
use Rattle.dsec_child.specs.declared.signed_set.SignedSet.TheVariants.{Refused}
use Rattle.dsec_child.proofs.BelowSteps.{ds_refused}
use Rattle.dsec_child.proofs.ds_set.by_ds_set.Goals as goal

pub returns-in_ok-node-in-Refused-clause-below : goal.returns-in_ok-node-in-Refused-clause-below
returns-in_ok-node-in-Refused-clause-below g c = λ answers authorities.
    let accepts = g.V.Verifier.accepts in
    let a = c.args in
    let w = world_of accepts [] (bounds_of a.config.now) a.now in
    let said = keys_of a.keys.now in
    let tried = checked accepts a.group.now a.zone.now.signer said (a.config.now.max_bad_signatures + 1) (on_circle a.now) in
    let set = subst (λ s. ComesTo a.group.now said s (checked accepts a.group.now (place c.signer_name.result.now) said (a.config.now.max_bad_signatures + 1) (on_circle a.now))) c.in-Refused.is c.in_ok-by.ensures.set in
    let why = subst (λ z. ComesTo a.group.now said (Refused c.in-Refused.cause) (checked accepts a.group.now z said (a.config.now.max_bad_signatures + 1) (on_circle a.now))) c.signer_name.ensures set in
    ap (λ n. made n) (c.in_ok-node-in-Refused.ensures [])
    ∙ ds_refused w a.zone.now a.keys.now (place a.name.now) answers authorities a.group.now tried refl c.in-Refused.cause why
