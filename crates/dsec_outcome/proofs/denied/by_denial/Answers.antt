use Rattle.std.proofs.Common.{ℕ, Option, Some, None, refl, ap, ◌∙◌, subst}
use Rattle.std.specs.Prelude.{IfSome}
use Rattle.dsec_cause.specs.declared.cause.Cause.{Cause}
use Rattle.dsec_group.specs.declared.state.ValidationState.{ValidationState}
use Rattle.dsec_spec.specs.Names.{place}
use Rattle.dsec_node.specs.Views.{bounds_of, world_of}
use Rattle.dsec_nodes.specs.Outcomes.{bogus_by, by_nothing}
use Rattle.dsec_found.proofs.FoundSteps.{if_ok}
use Rattle.dsec_nsec3_calls.specs.Told.{HasState}
use Rattle.dsec_outcome.proofs.DenialSteps.{no_soa, soa_asked, soa_decides, there_is, why_asked}
use Rattle.dsec_outcome.proofs.denied.by_denial.Goals as goal

pub returns-in-Some-default : goal.returns-in-Some-default
returns-in-Some-default g c =
    let question = c.args.question.now in
    let authorities = c.args.authorities.now in
    let index = c.in-Some-default.index in
    let soa = c.index-authorities-index.result in
    let at = soa_asked c.args.anchors.now question authorities c.qname-name.result.now c.qtype-rtype.result c.qclass-class.result c.qname-name.ensures c.qclass-class.ensures c.qtype-rtype.ensures
    c.get_soa_state.result.0 (Some (index, c.in-Some-default.field-0-1-0)) c.get_soa_state.ensures.index c.in-Some-default.is-0 in
    let held : HasState authorities index c.in-Some-default.field-0-1-0 =
    subst (λ (o : Option (ℕ × ValidationState)). IfSome o (λ found. HasState authorities found.0 found.1)) c.in-Some-default.is-0 c.get_soa_state.ensures.state in
    let there = there_is authorities index soa held.0 held.1 c.index-authorities-index.is in
    if_ok c.by_soa.result (λ outcome h now message read.
    let w = world_of g.V.Verifier.accepts c.args.anchors.now (bounds_of c.args.config.now) now in
    soa_decides w message question (place question.name) authorities index soa outcome at there (h w message refl read)) c.by_soa.ensures

pub returns-in-None-default : goal.returns-in-None-default
returns-in-None-default g c = λ now message read.
    let question = c.args.question.now in
    let authorities = c.args.authorities.now in
    let w = world_of g.V.Verifier.accepts c.args.anchors.now (bounds_of c.args.config.now) now in
    let at = soa_asked c.args.anchors.now question authorities c.qname-name.result.now c.qtype-rtype.result c.qclass-class.result c.qname-name.ensures c.qclass-class.ensures c.qtype-rtype.ensures
    c.get_soa_state.result.0 None c.get_soa_state.ensures.index c.in-None-default.is-0 in
    let why = why_asked c.args.anchors.now question authorities c.qname-name.result.now c.qtype-rtype.result c.qclass-class.result c.qname-name.ensures c.qclass-class.ensures c.qtype-rtype.ensures
    c.get_soa_state.result.0 c.get_soa_state.result.1 c.get_soa_state.ensures.cause c.in-None-default.is-0 in
    no_soa w message question (place question.name) authorities c.get_soa_state.result.1 c.bogus.result at why (c.bogus.ensures ∙ ap (λ (x : Cause). bogus_by x by_nothing) c.unwrap_or.ensures)
