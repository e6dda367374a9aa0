use Rattle.std.proofs.Common.{[], ap, ◌∙◌, subst}
use Rattle.dsec_spec.specs.Names.{place}
use Rattle.dsec_nodes.specs.MissingDs.{bogus_at, insecure_by, looked_for, within_by}
use Rattle.dsec_nodes.specs.Signing.{keys_of}
use Rattle.dsec_node.specs.Views.{bounds_of, ground_view, world_of}
use Rattle.dsec_node.proofs.KeyData.{if_ok}
use Rattle.dsec_denial.specs.Findings.{AreThere, Finds}
use Rattle.dsec_child.proofs.BelowSteps.{decided_kept, missing_decided, missing_passed, stands_read}
use Rattle.dsec_child.proofs.missing.by_finding.Goals as goal

pub insecure-requires-clause-kept : goal.insecure-requires-clause-kept
insecure-requires-clause-kept g c =
    let a = c.args in
    let w = world_of g.V.Verifier.accepts [] (bounds_of a.config.now) a.now in
    let said = keys_of a.keys.now in
    let name = place a.name.now in
    let group = c.index-groups-at-in-Insecure.result in
    let there = subst (AreThere a.groups.now said) c.in-Insecure.is c.requires.there in
    let finds = subst (λ f. Finds w a.zone.now a.keys.now name a.groups.now said f (looked_for w a.zone.now a.keys.now name a.groups.now)) c.in-Insecure.is c.requires.finds in
    let stands = stands_read a.groups.now said c.in-Insecure.at there.0 group there.1 there.2 c.index-groups-at-in-Insecure.is in (
      there.1,
      record { signature_there = stands.signature_there; key_there = stands.key_there },
      decided_kept w a.zone.now a.keys.now name a.groups.now c.requires.above (insecure_by w a.zone.now a.keys.now name c.in-Insecure.cause (ground_view c.in-Insecure.basis) group there.1) (finds group there.1 stands),
    )

pub within-requires-clause-kept : goal.within-requires-clause-kept
within-requires-clause-kept g c =
    let a = c.args in
    let w = world_of g.V.Verifier.accepts [] (bounds_of a.config.now) a.now in
    let said = keys_of a.keys.now in
    let name = place a.name.now in
    let group = c.index-groups-at.result in
    let there = subst (AreThere a.groups.now said) c.in-Within.is c.requires.there in
    let finds = subst (λ f. Finds w a.zone.now a.keys.now name a.groups.now said f (looked_for w a.zone.now a.keys.now name a.groups.now)) c.in-Within.is c.requires.finds in
    let stands = stands_read a.groups.now said c.in-Within.at there.0 group there.1 there.2 c.index-groups-at.is in (
      there.1,
      record { signature_there = stands.signature_there; key_there = stands.key_there },
      decided_kept w a.zone.now a.keys.now name a.groups.now c.requires.above (within_by w a.zone.now a.keys.now name group there.1) (finds group there.1 stands),
    )

pub returns-in-Within : goal.returns-in-Within
returns-in-Within g c =
    let a = c.args in
    let w = world_of g.V.Verifier.accepts [] (bounds_of a.config.now) a.now in
    let said = keys_of a.keys.now in
    let name = place a.name.now in
    let group = c.index-groups-at.result in
    let there = subst (AreThere a.groups.now said) c.in-Within.is c.requires.there in
    let finds = subst (λ f. Finds w a.zone.now a.keys.now name a.groups.now said f (looked_for w a.zone.now a.keys.now name a.groups.now)) c.in-Within.is c.requires.finds in
    let stands = stands_read a.groups.now said c.in-Within.at there.0 group there.1 there.2 c.index-groups-at.is in
    if_ok c.within.result (λ n h.
    h there.1 (record { signature_there = stands.signature_there; key_there = stands.key_there })
    ∙ missing_decided w a.zone.now a.keys.now name a.groups.now (within_by w a.zone.now a.keys.now name group there.1) (finds group there.1 stands))
    c.within.ensures

pub returns-in-Insecure : goal.returns-in-Insecure
returns-in-Insecure g c =
    let a = c.args in
    let w = world_of g.V.Verifier.accepts [] (bounds_of a.config.now) a.now in
    let said = keys_of a.keys.now in
    let name = place a.name.now in
    let group = c.index-groups-at-in-Insecure.result in
    let there = subst (AreThere a.groups.now said) c.in-Insecure.is c.requires.there in
    let finds = subst (λ f. Finds w a.zone.now a.keys.now name a.groups.now said f (looked_for w a.zone.now a.keys.now name a.groups.now)) c.in-Insecure.is c.requires.finds in
    let stands = stands_read a.groups.now said c.in-Insecure.at there.0 group there.1 there.2 c.index-groups-at-in-Insecure.is in
    if_ok c.insecure.result (λ n h.
    h there.1 (record { signature_there = stands.signature_there; key_there = stands.key_there })
    ∙ missing_decided w a.zone.now a.keys.now name a.groups.now (insecure_by w a.zone.now a.keys.now name c.in-Insecure.cause (ground_view c.in-Insecure.basis) group there.1) (finds group there.1 stands))
    c.insecure.ensures

pub returns-in-Bogus : goal.returns-in-Bogus
returns-in-Bogus g c =
    let a = c.args in
    let w = world_of g.V.Verifier.accepts [] (bounds_of a.config.now) a.now in
    let said = keys_of a.keys.now in
    let name = place a.name.now in
    let finds = subst (λ f. Finds w a.zone.now a.keys.now name a.groups.now said f (looked_for w a.zone.now a.keys.now name a.groups.now)) c.in-Bogus.is c.requires.finds in
    if_ok c.bogus.result (λ n h. h [] ∙ missing_decided w a.zone.now a.keys.now name a.groups.now (bogus_at w name c.in-Bogus.cause) finds) c.bogus.ensures

pub returns-in-Passed : goal.returns-in-Passed
returns-in-Passed g c =
    let a = c.args in
    let w = world_of g.V.Verifier.accepts [] (bounds_of a.config.now) a.now in
    let said = keys_of a.keys.now in
    let name = place a.name.now in
    let finds = subst (λ f. Finds w a.zone.now a.keys.now name a.groups.now said f (looked_for w a.zone.now a.keys.now name a.groups.now)) c.in-Passed.is c.requires.finds in
    if_ok c.bogus-in-Passed.result (λ n h. h [] ∙ (ap (bogus_at w name) c.cause_left-told.ensures ∙ missing_passed w a.zone.now a.keys.now name a.groups.now c.in-Passed.cause finds)) c.bogus-in-Passed.ensures
