use Rattle.dsec_nsec3_calls.specs.Views.{hash_limits}
use Rattle.dsec_nodes.specs.Aliases.{state_in, candidate_of}
use Rattle.dsec_follow.proofs.TurnSteps.{fails_is}
use Rattle.dsec_follow.proofs.turn.by_denying.Goals as goal

pub returns-in_ok-copy_of-in-Unproved : goal.returns-in_ok-copy_of-in-Unproved
returns-in_ok-copy_of-in-Unproved g c =
    fails_is (hash_limits c.args.reply.now.limits.now) c.args.reply.now.authorities.now c.args.reply.now.class c.args.name.now (candidate_of c.args.alias.now) c.args.encloser.now c.args.target
    c.in_ok-signer.signer c.in_ok-copy_of-in-Unproved.field-0 (state_in c.args.alias.now.finding) c.in_ok-used.field-0 c.in-Unproved.cause
    c.in_ok-signer.ensures c.in_ok-used.ensures c.in-Unproved.is c.in_ok-copy_of-in-Unproved.ensures
