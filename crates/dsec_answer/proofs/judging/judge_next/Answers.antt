use Rattle.std.proofs.Common.{sym}
use Rattle.std.proofs.lemmas.Result.{IfOk-weaker}
use Rattle.dsec_answer.specs.Outcomes.{kept_for}
use Rattle.dsec_answer.proofs.judging.judge_next.Goals as goal

pub returns-clause-outcome : goal.returns-clause-outcome
returns-clause-outcome g c =
    IfOk-weaker c.judge_one.result _ _
    (λ outcome over kept among. rw (sym c.forget_others.ensures.same_anchors) (over (kept_for c.args.moment c.args.item kept) (c.forget_others.ensures.kept kept among)))
    c.judge_one.ensures.outcome
