use Rattle.std.proofs.Common.{◌≡◌, sym, ◌∙◌, subst, arith}
use Rattle.dsec_course.specs.Course.{Course, CourseStep}
use Rattle.dsec_course.specs.Advancing.{going_on, waiting}
use Rattle.dsec_walk.specs.Views.{world_in}
use Rattle.dsec_core.specs.Progress.{Passes}
use Rattle.dsec_core.specs.Validating.{given_up}
use Rattle.dsec_core.specs.Views.{next_view, waits_view}
use Rattle.dsec_core.proofs.GroupSteps.{one_passed, one_sets_out}
use Rattle.dsec_core.proofs.course.Course.go_on.Goals as goal

pub returns-in-Some-2-clause-exact : goal.returns-in-Some-2-clause-exact
returns-in-Some-2-clause-exact g c =
    let w = world_in g.V.Verifier.accepts c.args.setting.now in
    let it = c.self.inside in
    let later = c.pop_front.new.self.items in
    let seen : Course = record { message = it.message.items; questions = it.questions.items; most = it.most; answers = it.answers; left = it.left.items; judged = it.judged.items; walks = it.walks.items; waits = waits_view it.waits } in
    let p : Course × CourseStep = (c.passed.new.self, next_view c.in-Some-2.next) in
    let h = subst (Passes w c.in-Some.group (waiting seen later seen.waits) c.passed.new.self) c.in-Some-2.is c.in_ok-next.ensures.passes in
    sym (subst (λ (l : Course). going_on w l.left l ≡ p) c.self.view_is (one_sets_out w c.in-Some.group later seen p c.in-Some.ensures.items h)) ∙ c.loop-group.invariant.0

pub loop-group-preserved : goal.loop-group-preserved
loop-group-preserved g c =
    let w = world_in g.V.Verifier.accepts c.args.setting.now in
    let it = c.self.inside in
    let later = c.pop_front.new.self.items in
    let seen : Course = record { message = it.message.items; questions = it.questions.items; most = it.most; answers = it.answers; left = it.left.items; judged = it.judged.items; walks = it.walks.items; waits = waits_view it.waits } in
    let after = c.passed.new.self in
    let h = subst (Passes w c.in-Some.group (waiting seen later seen.waits) after) c.in-None.is c.in_ok-next.ensures.passes in (
      sym (subst (λ (l : Course). going_on w l.left l ≡ going_on w after.left after) c.self.view_is (one_passed w c.in-Some.group later seen after c.in-Some.ensures.items h.0 h.1)) ∙ c.loop-group.invariant.0,
      omega (arith, c.in_ok-next.ensures.bound, c.loop-group.invariant.1),
      subst (λ (l : Course). given_up after ≡ given_up l) c.self.view_is c.in_ok-next.ensures.stays ∙ c.loop-group.invariant.2,
    )
