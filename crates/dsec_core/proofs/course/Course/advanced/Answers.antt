use Rattle.std.proofs.Common.{◌≡◌, ◌≤◌, ◌+◌, ◌*◌, ap, refl, subst}
use Rattle.dsec_course.specs.Course.{Course}
use Rattle.dsec_course.specs.Advancing.{course_advanced}
use Rattle.dsec_walk.specs.Views.{input_view, world_in}
use Rattle.dsec_core.specs.Validating.{most_checked_at}
use Rattle.dsec_core.specs.Views.{next_view, waits_view}
use Rattle.dsec_core.proofs.BoundSteps.{walk_checks}
use Rattle.dsec_core.proofs.GroupSteps.{if_there, walks_so}
use Rattle.dsec_core.proofs.course.Course.advanced.Goals as goal

pub returns-in_ok-step-in-ForWalk-clause-exact : goal.returns-in_ok-step-in-ForWalk-clause-exact
returns-in_ok-step-in-ForWalk-clause-exact g c =
    let w = world_in g.V.Verifier.accepts c.args.setting.now in
    let i = input_view c.args.input in
    let it = c.self.inside in
    let seen : Course = record { message = it.message.items; questions = it.questions.items; most = it.most; answers = it.answers; left = it.left.items; judged = it.judged.items; walks = it.walks.items; waits = waits_view it.waits } in
    if_there c.stepped.result _ _
    (λ n h. subst (λ (d : Course). (c.stepped.new.self, next_view n) ≡ course_advanced w d i) c.self.view_is
    (walks_so w seen _ i (c.stepped.new.self, next_view n) c.in-ForWalk.field-0 c.in-ForWalk.walk c.advance.new.self _ (ap waits_view c.in-ForWalk.is) refl c.in_ok-step-in-ForWalk.ensures.exact h))
    c.stepped.ensures.step

pub returns-in_ok-step-in-ForWalk-clause-bound : goal.returns-in_ok-step-in-ForWalk-clause-bound
returns-in_ok-step-in-ForWalk-clause-bound g c =
    let w = world_in g.V.Verifier.accepts c.args.setting.now in
    let i = input_view c.args.input in
    let it = c.self.inside in
    let most = c.args.setting.now.config.now.max_bad_signatures in
    subst (λ (d : Course). c.stepped.new.steps ≤ c.args.steps.now + most_checked_at w d.waits i * (most + 1)) c.self.view_is
    (walk_checks w i c.in-ForWalk.field-0 c.in-ForWalk.walk c.advance.new.self _ (waits_view it.waits) (most + 1) c.args.steps.now c.advance.new.steps c.stepped.new.steps
    (ap waits_view c.in-ForWalk.is) c.in_ok-step-in-ForWalk.ensures.exact c.advance.ensures.bound c.stepped.ensures.bound)
