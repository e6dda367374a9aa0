use Rattle.std.proofs.Common.{subst}
use Rattle.dsec_core.specs.Progress.{MovesOrEnds}
use Rattle.dsec_core.proofs.ReadSteps.{begins_so, ends_so}
use Rattle.dsec_core.proofs.course.reading.opened_by.Goals as goal

pub returns-in-Some : goal.returns-in-Some
returns-in-Some c = λ anchors most before moves.
    ends_so anchors most before c.args.answers.groups c.args.authorities.groups c.in-Some.cause c.new.result.items
    (subst (MovesOrEnds anchors most before c.args.answers.groups) c.in-Some.is moves) c.new.ensures.items

pub returns-in_ok-left-in-None : goal.returns-in_ok-left-in-None
returns-in_ok-left-in-None c = λ anchors most before moves.
    begins_so anchors most before c.args.answers.groups c.args.authorities.groups c.len-count.result c.in_ok-left-in-None.left.items
    (subst (MovesOrEnds anchors most before c.args.answers.groups) c.in-None.is moves) c.len-count.ensures c.in_ok-left-in-None.ensures
