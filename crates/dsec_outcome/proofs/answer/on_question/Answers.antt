use Rattle.std.proofs.Common.{ap}
use Rattle.dsec_node.specs.Views.{bounds_of, world_of}
use Rattle.dsec_nodes.specs.Aliases.{alias_path}
use Rattle.dsec_nsec3_calls.specs.Views.{hash_limits}
use Rattle.dsec_found.proofs.FoundSteps.{if_ok}
use Rattle.dsec_outcome.proofs.AnswerSteps.{end_asked}
use Rattle.dsec_outcome.proofs.answer.on_question.Goals as goal

pub returns : goal.returns
returns g c =
    let question = c.args.question.now in
    let answers = c.args.answers.now in
    let authorities = c.args.authorities.now in
    if_ok c.at_end.result (λ outcome h now message read.
    let w = world_of g.V.Verifier.accepts c.args.anchors.now (bounds_of c.args.config.now) now in
    h now message (alias_path w c.args.most question answers authorities) read
    (end_asked w c.args.most question answers authorities (hash_limits c.limits.result) c.in_ok-end.end c.qname-name.result.now c.qclass-class.result c.qtype-rtype.result
    (ap hash_limits c.limits.ensures) c.qname-name.ensures c.qclass-class.ensures c.qtype-rtype.ensures c.in_ok-end.ensures)) c.at_end.ensures
