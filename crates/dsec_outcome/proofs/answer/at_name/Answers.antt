use Rattle.std.proofs.Common.{ℕ, Option, Some, None, refl, sym, ◌∙◌, subst}
use Rattle.std.specs.Prelude.{IfSome}
use Rattle.dsec_cause.specs.declared.cause.Cause.{Cause}
use Rattle.dsec_group.specs.declared.state.ValidationState.{ValidationState}
use Rattle.dsec_spec.specs.Names.{place}
use Rattle.dsec_node.specs.Views.{bounds_of, world_of}
use Rattle.dsec_found.proofs.FoundSteps.{if_ok}
use Rattle.dsec_nsec3_calls.specs.Told.{HasStateAndCause}
use Rattle.dsec_outcome.proofs.DenialSteps.{answer_asked, answer_decides, none_answers, not_due, there_is}
use Rattle.dsec_outcome.proofs.answer.at_name.Goals as goal

pub returns-then-not-is_one_answer_due : goal.returns-then-not-is_one_answer_due
returns-then-not-is_one_answer_due g c =
    if_ok c.by_denial.result (λ outcome h now message read.
    let w = world_of g.V.Verifier.accepts c.args.anchors.now (bounds_of c.args.config.now) now in
    not_due w message c.args.rcode c.args.question.now (place c.args.question.now.name) c.args.answers.now c.args.authorities.now outcome read
    (sym c.is_one_answer_due.ensures ∙ c.if-not-is_one_answer_due.true) (h now message read)) c.by_denial.ensures

pub returns-in-Some : goal.returns-in-Some
returns-in-Some g c =
    let question = c.args.question.now in
    let answers = c.args.answers.now in
    let index = c.in-Some.index in
    let judged = c.index-answers-index.result in
    let at = answer_asked c.args.anchors.now question answers c.qname-name.result.now c.qtype-rtype.result c.qclass-class.result c.qname-name.ensures c.qclass-class.ensures c.qtype-rtype.ensures
    c.get_answer_state.result (Some (index, c.in-Some.field-0-1, c.in-Some.field-0-2)) c.get_answer_state.ensures.index c.in-Some.is in
    let held : HasStateAndCause answers index c.in-Some.field-0-1 c.in-Some.field-0-2 =
    subst (λ (o : Option (ℕ × ValidationState × Option Cause)). IfSome o (λ found. HasStateAndCause answers found.0 found.1 found.2)) c.in-Some.is c.get_answer_state.ensures.state in
    let there = there_is answers index judged held.0 held.1 c.index-answers-index.is in
    if_ok c.answered.result (λ outcome h now message read.
    let w = world_of g.V.Verifier.accepts c.args.anchors.now (bounds_of c.args.config.now) now in
    answer_decides w message c.args.rcode question (place question.name) answers c.args.authorities.now outcome read index judged
    (sym c.is_one_answer_due.ensures ∙ c.if-not-is_one_answer_due.false) at there (h w refl)) c.answered.ensures

pub returns-in-None : goal.returns-in-None
returns-in-None g c =
    let question = c.args.question.now in
    let answers = c.args.answers.now in
    let at = answer_asked c.args.anchors.now question answers c.qname-name.result.now c.qtype-rtype.result c.qclass-class.result c.qname-name.ensures c.qclass-class.ensures c.qtype-rtype.ensures
    c.get_answer_state.result None c.get_answer_state.ensures.index c.in-None.is in
    if_ok c.by_denial-in-None.result (λ outcome h now message read.
    let w = world_of g.V.Verifier.accepts c.args.anchors.now (bounds_of c.args.config.now) now in
    none_answers w message c.args.rcode question (place question.name) answers c.args.authorities.now outcome read
    (sym c.is_one_answer_due.ensures ∙ c.if-not-is_one_answer_due.false) at (h now message read)) c.by_denial-in-None.ensures
