use Rattle.std.proofs.Common.{◌≡◌, List, [], ◌∷◌, ◌++◌, sym, ap, ◌∙◌, subst}
use Rattle.std.specs.Arc.{arc_value}
use Rattle.dsec_nodes.specs.Machine.{Walking}
use Rattle.dsec_course.specs.Course.{Course}
use Rattle.dsec_walk.specs.Views.{world_in}
use Rattle.dsec_core.specs.Progress.{arrived_at}
use Rattle.dsec_core.specs.Views.{next_view, waits_view}
use Rattle.dsec_core.proofs.GroupSteps.{arrives_so, if_there}
use Rattle.dsec_core.proofs.course.Course.arrived.Goals as goal

pub returns-clause-step : goal.returns-clause-step
returns-clause-step g c =
    let w = world_in g.V.Verifier.accepts c.args.setting.now in
    let n = arc_value c.args.node in
    let it = c.self.inside in
    let seen : Course = record { message = it.message.items; questions = it.questions.items; most = it.most; answers = it.answers; left = it.left.items; judged = it.judged.items; walks = it.walks.items; waits = waits_view it.waits } in
    let e = ap waits_view (sym c.replace.ensures.value ∙ c.in-ForWalk.is) in
    let walked : Course = record { message = it.message.items; questions = it.questions.items; most = it.most; answers = it.answers; left = it.left.items; judged = it.judged.items; walks = c.push_reserved.new.self.items; waits = waits_view c.replace.new.dest } in
    let kept = ap (λ (ws : List Walking). record { message = it.message.items; questions = it.questions.items; most = it.most; answers = it.answers; left = it.left.items; judged = it.judged.items; walks = ws; waits = waits_view c.replace.new.dest })
    (c.push_reserved.ensures.items ∙ ap (λ (ws : List Walking). ws ++ c.in-ForWalk.walk ∷ []) c.reserve.ensures.items) in
    if_there c.found.result _ _
    (λ x h. subst (λ (d : Course). (c.found.new.self, next_view x) ≡ arrived_at w d n d.waits) c.self.view_is
    (arrives_so w seen walked n (waits_view c.replace.new.dest) (c.found.new.self, next_view x) c.in-ForWalk.group c.in-ForWalk.walk e kept h))
    c.found.ensures.step
