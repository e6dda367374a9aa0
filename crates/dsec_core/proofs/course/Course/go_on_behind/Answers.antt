use Rattle.std.proofs.Common.{List, sym, ap, ◌∙◌}
use Rattle.dsec_nodes.specs.Judging.{Judged}
use Rattle.dsec_course.specs.Advancing.{with_judged}
use Rattle.dsec_course.specs.Course.{Course}
use Rattle.dsec_walk.specs.Views.{world_in}
use Rattle.dsec_core.specs.Views.{waits_view}
use Rattle.dsec_core.proofs.GroupSteps.{bogus_ends}
use Rattle.dsec_core.proofs.course.Course.go_on_behind.Goals as goal

pub returns-in-Some-clause-step : goal.returns-in-Some-clause-step
returns-in-Some-clause-step g c =
    let w = world_in g.V.Verifier.accepts c.args.setting.now in
    let j = c.args.judged in
    let it = c.self.inside in
    let pushed = ap (λ (js : List Judged). record { message = it.message.items; questions = it.questions.items; most = it.most; answers = it.answers; left = it.left.items; judged = js; walks = it.walks.items; waits = waits_view it.waits })
    c.in_ok-push.ensures.items ∙ ap (λ (d : Course). with_judged d j) c.self.view_is in
    bogus_ends w c.args.self.now _ c.wait_for.new.self j c.in-Some.outcome (sym c.in_ok-outcome.ensures ∙ c.in-Some.is) pushed c.wait_for.ensures
