use Rattle.std.proofs.Common.{sym, ap, ◌∙◌}
use Rattle.dsec_spec.specs.Names.{place}
use Rattle.dsec_nodes.specs.ByDenial.{source_of}
use Rattle.dsec_nodes.specs.World.{limits_of}
use Rattle.dsec_nsec3.specs.Conclusions.{closer_denied}
use Rattle.dsec_nsec3_calls.specs.Answers.{conclusion_of}
use Rattle.dsec_nsec3_calls.specs.Views.{hash_limits}
use Rattle.dsec_found.proofs.FoundSteps.{if_ok}
use Rattle.dsec_outcome.proofs.DenialSteps.{closer_asked}
use Rattle.dsec_outcome.proofs.answered.by_wildcard.Goals as goal

pub returns : goal.returns
returns g c =
    let question = c.args.question.now in
    let authorities = c.args.authorities.now in
    let judged = c.args.judged.now in
    let encloser = c.args.encloser.now in
    if_ok c.on_conclusion.result (λ outcome h w within.
    let asked = closer_asked w (hash_limits c.limits-limits.result) question authorities judged c.in_ok-signer.signer c.qname-name.result.now encloser c.qclass-class.result
    (ap hash_limits c.limits-limits.ensures ∙ sym (ap limits_of within)) c.in_ok-signer.ensures c.qname-name.ensures c.qclass-class.ensures in
    h (closer_denied (limits_of w.bounds) (source_of authorities question.class judged.signer) (place question.name) (place encloser)) (c.in_ok-conclusion.ensures ∙ ap conclusion_of asked)) c.on_conclusion.ensures
