use Rattle.std.proofs.Common.{sym, ap, ◌∙◌}
use Rattle.dsec_spec.specs.Names.{place}
use Rattle.dsec_nodes.specs.ByDenial.{denied_under}
use Rattle.dsec_nodes.specs.World.{limits_of}
use Rattle.dsec_nsec3_calls.specs.Answers.{conclusion_of}
use Rattle.dsec_nsec3_calls.specs.Views.{hash_limits}
use Rattle.dsec_found.proofs.FoundSteps.{if_ok}
use Rattle.dsec_outcome.proofs.DenialSteps.{denied_asked}
use Rattle.dsec_outcome.proofs.denied.by_zone.Goals as goal

pub returns : goal.returns
returns g c =
    let question = c.args.question.now in
    let authorities = c.args.authorities.now in
    let soa = c.args.soa.now in
    if_ok c.on_conclusion.result (λ outcome h w message within read.
    let asked = denied_asked w (hash_limits c.limits-limits.result) message c.args.rcode question authorities soa c.eq-no_error.result c.in_ok-signer.signer c.qname-name.result.now c.qclass-class.result c.qtype-rtype.result
    (ap hash_limits c.limits-limits.ensures ∙ sym (ap limits_of within)) read c.eq-no_error.ensures c.in_ok-signer.ensures c.qname-name.ensures c.qclass-class.ensures c.qtype-rtype.ensures in
    h (denied_under w message question (place question.name) authorities soa) (c.in_ok-conclusion.ensures ∙ ap conclusion_of asked)) c.on_conclusion.ensures
