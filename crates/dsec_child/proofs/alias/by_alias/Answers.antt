use Rattle.std.proofs.Common.{[], refl, ap, ◌∙◌, subst, ◌+◌}
use Rattle.dsec_spec.specs.Names.{place}
use Rattle.dsec_spec.specs.Trying.{checked}
use Rattle.dsec_nodes.specs.ByDs.{made}
use Rattle.dsec_nodes.specs.World.{on_circle}
use Rattle.dsec_nodes.specs.Signing.{keys_of}
use Rattle.dsec_node.specs.Views.{bounds_of, world_of}
use Rattle.dsec_child.specs.SignedSets.{ComesTo}
use Rattle.dsec_child.specs.declared.signed_set.SignedSet.TheVariants.{Refused, Signed}
use Rattle.dsec_child.proofs.BelowSteps.{alias_refused, alias_stays, one_of}
use Rattle.dsec_child.proofs.alias.by_alias.Goals as goal

pub within-requires-clause-kept : goal.within-requires-clause-kept
within-requires-clause-kept g c =
    let accepts = g.V.Verifier.accepts in
    let a = c.args in
    let w = world_of accepts [] (bounds_of a.config.now) a.now in
    let said = keys_of a.keys.now in
    let tried = checked accepts a.group.now a.zone.now.signer said (a.config.now.max_bad_signatures + 1) (on_circle a.now) in
    let set = subst (λ s. ComesTo a.group.now said s (checked accepts a.group.now (place c.signer_name.result.now) said (a.config.now.max_bad_signatures + 1) (on_circle a.now))) c.in-Signed.is c.in_ok-by.ensures.set in
    let its = subst (λ z. ComesTo a.group.now said (Signed c.in-Signed.by) (checked accepts a.group.now z said (a.config.now.max_bad_signatures + 1) (on_circle a.now))) c.signer_name.ensures set in
    let one = one_of a.group.now c.rr_set.result.now c.rr_set.ensures.records c.if-rr_set-ne1.false in (
      its.0,
      its.2,
      alias_stays w a.zone.now a.keys.now (place a.name.now) [] a.group.now one tried refl c.requires.above c.requires.at its.0 its.1 its.3,
    )

pub returns-in_ok-node-in-Refused-clause-node : goal.returns-in_ok-node-in-Refused-clause-node
returns-in_ok-node-in-Refused-clause-node g c =
    let accepts = g.V.Verifier.accepts in
    let a = c.args in
    let w = world_of accepts [] (bounds_of a.config.now) a.now in
    let said = keys_of a.keys.now in
    let tried = checked accepts a.group.now a.zone.now.signer said (a.config.now.max_bad_signatures + 1) (on_circle a.now) in
    let set = subst (λ s. ComesTo a.group.now said s (checked accepts a.group.now (place c.signer_name.result.now) said (a.config.now.max_bad_signatures + 1) (on_circle a.now))) c.in-Refused.is c.in_ok-by.ensures.set in
    let why = subst (λ z. ComesTo a.group.now said (Refused c.in-Refused.cause) (checked accepts a.group.now z said (a.config.now.max_bad_signatures + 1) (on_circle a.now))) c.signer_name.ensures set in
    λ authorities.
    ap (λ n. made n) (c.in_ok-node-in-Refused.ensures [])
    ∙ alias_refused w a.zone.now a.keys.now (place a.name.now) authorities a.group.now (one_of a.group.now c.rr_set.result.now c.rr_set.ensures.records c.if-rr_set-ne1.false) tried refl c.in-Refused.cause why
