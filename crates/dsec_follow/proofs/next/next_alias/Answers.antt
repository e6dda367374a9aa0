use Rattle.std.proofs.Common.{sym, ◌∙◌}
use Rattle.dsec_alias.specs.Candidates.{Candidate}
use Rattle.dsec_alias.specs.Following.{is_alias}
use Rattle.dsec_follow.specs.Replies.{reply_view}
use Rattle.dsec_follow.proofs.NextSteps.{next_at}
use Rattle.dsec_follow.proofs.next.next_alias.Goals as goal

pub returns : goal.returns
returns g c =
    c.first_alias.ensures
    ∙ sym (next_at (λ (x : Candidate). is_alias (reply_view c.args.reply.now) c.args.name.now x.group) c.args.reply.now.answers.now)
