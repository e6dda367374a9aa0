use Rattle.std.proofs.Common.{◌<◌, sym, subst}
use Rattle.dsec_course.specs.Agreeing.{CourseGoes, CourseInStep}
use Rattle.dsec_course.specs.Course.{Awaits, Course, CourseAnswers, CourseStep}
use Rattle.dsec_course.specs.Ending.{steps_left}
use Rattle.dsec_course.specs.Justified.{SoundGoing}
use Rattle.dsec_walk.specs.Views.{input_view}
use Rattle.dsec_core.specs.Validating.{Validating, most_of, world_by}
use Rattle.dsec_core.specs.Views.{next_view}
use Rattle.dsec_core.proofs.StepLaws.{after_awaits, after_goes, after_nearer, after_sound, after_sound_by, given_up_nearer, given_up_sound}
use Rattle.dsec_core.proofs.validation.Validation.advance.Goals as goal

pub invariant_of-self : goal.invariant_of-self
invariant_of-self g c =
    let it = c.self.inside in
    let seen : Validating = record { anchors = it.anchors; config = it.config; moment = it.moment; course = it.course } in
    let i = input_view c.args.input in
    after_sound_by g.V.Verifier.accepts seen c.as_slice.result.now c.as_slice.ensures c.self.invariant i
    (subst (λ (v : Validating). CourseAnswers v.course.waits i) (sym c.self.view_is) c.requires.answers)
    (c.advanced.new.self, next_view c.in-Ok-Says.field-0) c.in-Ok-Says.ensures.kept c.in-Ok-Says.ensures.exact

pub invariant_of-self-in-Ok-Refuses : goal.invariant_of-self-in-Ok-Refuses
invariant_of-self-in-Ok-Refuses g c =
    let it = c.self.inside in
    let seen : Validating = record { anchors = it.anchors; config = it.config; moment = it.moment; course = it.course } in
    let i = input_view c.args.input in
    after_sound_by g.V.Verifier.accepts seen c.as_slice.result.now c.as_slice.ensures c.self.invariant i
    (subst (λ (v : Validating). CourseAnswers v.course.waits i) (sym c.self.view_is) c.requires.answers)
    (c.advanced.new.self, next_view c.in-Ok-Refuses.field-0) c.in-Ok-Refuses.ensures.kept c.in-Ok-Refuses.ensures.exact

pub invariant_of-self-in-Err : goal.invariant_of-self-in-Err
invariant_of-self-in-Err g c =
    let it = c.self.inside in
    given_up_sound g.V.Verifier.accepts (record { anchors = it.anchors; config = it.config; moment = it.moment; course = it.course }) c.advanced.new.self c.give_up.new.self c.give_up.ensures

pub returns-in-Ok-Says-clause-agrees : goal.returns-in-Ok-Says-clause-agrees
returns-in-Ok-Says-clause-agrees g c =
    let accepts = g.V.Verifier.accepts in
    let it = c.self.inside in
    let seen : Validating = record { anchors = it.anchors; config = it.config; moment = it.moment; course = it.course } in
    let i = input_view c.args.input in
    let p : Course × CourseStep = (c.advanced.new.self, next_view c.in-Ok-Says.field-0) in
    let goes = after_goes accepts seen c.as_slice.result.now c.as_slice.ensures c.self.invariant i
    (subst (λ (v : Validating). CourseAnswers v.course.waits i) (sym c.self.view_is) c.requires.answers)
    p c.in-Ok-Says.ensures.kept c.in-Ok-Says.ensures.exact in
    subst (λ n. CourseInStep (world_by accepts c.args.self.now) (most_of c.args.self.now) c.args.self.now.course.message c.args.self.now.course
    → CourseGoes (world_by accepts c.args.self.now) (most_of c.args.self.now) c.args.self.now.course.message (c.advanced.new.self, next_view n)) c.in-Ok-Says.field-0-is
    (subst (λ (v : Validating). CourseInStep (world_by accepts v) (most_of v) v.course.message v.course → CourseGoes (world_by accepts v) (most_of v) v.course.message p) c.self.view_is goes)

pub returns-in-Ok-Says-clause-sound : goal.returns-in-Ok-Says-clause-sound
returns-in-Ok-Says-clause-sound g c =
    let accepts = g.V.Verifier.accepts in
    let it = c.self.inside in
    let seen : Validating = record { anchors = it.anchors; config = it.config; moment = it.moment; course = it.course } in
    let i = input_view c.args.input in
    let p : Course × CourseStep = (c.advanced.new.self, next_view c.in-Ok-Says.field-0) in
    let sound = after_sound accepts seen c.as_slice.result.now c.as_slice.ensures c.self.invariant i
    (subst (λ (v : Validating). CourseAnswers v.course.waits i) (sym c.self.view_is) c.requires.answers)
    p c.in-Ok-Says.ensures.kept c.in-Ok-Says.ensures.exact in
    subst (λ n. SoundGoing (world_by accepts c.args.self.now) (most_of c.args.self.now) c.args.self.now.course.message (c.advanced.new.self, next_view n)) c.in-Ok-Says.field-0-is
    (subst (λ (v : Validating). SoundGoing (world_by accepts v) (most_of v) v.course.message p) c.self.view_is sound)

pub returns-in-Ok-Says-clause-awaits : goal.returns-in-Ok-Says-clause-awaits
returns-in-Ok-Says-clause-awaits g c =
    let accepts = g.V.Verifier.accepts in
    let it = c.self.inside in
    let seen : Validating = record { anchors = it.anchors; config = it.config; moment = it.moment; course = it.course } in
    let i = input_view c.args.input in
    let p : Course × CourseStep = (c.advanced.new.self, next_view c.in-Ok-Says.field-0) in
    subst (λ n. Awaits (next_view n) c.advanced.new.self.waits) c.in-Ok-Says.field-0-is
    (after_awaits accepts seen c.as_slice.result.now c.as_slice.ensures c.self.invariant i
    (subst (λ (v : Validating). CourseAnswers v.course.waits i) (sym c.self.view_is) c.requires.answers) p c.in-Ok-Says.ensures.kept c.in-Ok-Says.ensures.exact)

pub returns-in-Ok-Refuses-clause-err : goal.returns-in-Ok-Refuses-clause-err
returns-in-Ok-Refuses-clause-err g c =
    let accepts = g.V.Verifier.accepts in
    let it = c.self.inside in
    let seen : Validating = record { anchors = it.anchors; config = it.config; moment = it.moment; course = it.course } in
    let i = input_view c.args.input in
    let p : Course × CourseStep = (c.advanced.new.self, next_view c.in-Ok-Refuses.field-0) in
    subst (λ n. Awaits (next_view n) c.advanced.new.self.waits) c.in-Ok-Refuses.field-0-is
    (after_awaits accepts seen c.as_slice.result.now c.as_slice.ensures c.self.invariant i
    (subst (λ (v : Validating). CourseAnswers v.course.waits i) (sym c.self.view_is) c.requires.answers) p c.in-Ok-Refuses.ensures.kept c.in-Ok-Refuses.ensures.exact)

pub returns-in-Ok-Says-clause-nearer : goal.returns-in-Ok-Says-clause-nearer
returns-in-Ok-Says-clause-nearer g c =
    let accepts = g.V.Verifier.accepts in
    let it = c.self.inside in
    let seen : Validating = record { anchors = it.anchors; config = it.config; moment = it.moment; course = it.course } in
    let i = input_view c.args.input in
    let p : Course × CourseStep = (c.advanced.new.self, next_view c.in-Ok-Says.field-0) in
    subst (λ (v : Validating). steps_left (world_by accepts v) p.0 < steps_left (world_by accepts v) v.course) c.self.view_is
    (after_nearer accepts seen c.as_slice.result.now c.as_slice.ensures c.self.invariant i
    (subst (λ (v : Validating). CourseAnswers v.course.waits i) (sym c.self.view_is) c.requires.answers) p c.in-Ok-Says.ensures.kept c.in-Ok-Says.ensures.exact)

pub returns-in-Ok-Refuses-clause-nearer : goal.returns-in-Ok-Refuses-clause-nearer
returns-in-Ok-Refuses-clause-nearer g c =
    let accepts = g.V.Verifier.accepts in
    let it = c.self.inside in
    let seen : Validating = record { anchors = it.anchors; config = it.config; moment = it.moment; course = it.course } in
    let i = input_view c.args.input in
    let p : Course × CourseStep = (c.advanced.new.self, next_view c.in-Ok-Refuses.field-0) in
    subst (λ (v : Validating). steps_left (world_by accepts v) p.0 < steps_left (world_by accepts v) v.course) c.self.view_is
    (after_nearer accepts seen c.as_slice.result.now c.as_slice.ensures c.self.invariant i
    (subst (λ (v : Validating). CourseAnswers v.course.waits i) (sym c.self.view_is) c.requires.answers) p c.in-Ok-Refuses.ensures.kept c.in-Ok-Refuses.ensures.exact)

pub returns-in-Err-clause-nearer : goal.returns-in-Err-clause-nearer
returns-in-Err-clause-nearer g c =
    let accepts = g.V.Verifier.accepts in
    let it = c.self.inside in
    let seen : Validating = record { anchors = it.anchors; config = it.config; moment = it.moment; course = it.course } in
    let i = input_view c.args.input in
    subst (λ (v : Validating). steps_left (world_by accepts v) c.give_up.new.self < steps_left (world_by accepts v) v.course) c.self.view_is
    (given_up_nearer accepts seen i c.advanced.new.self c.give_up.new.self c.self.invariant
    (subst (λ (v : Validating). CourseAnswers v.course.waits i) (sym c.self.view_is) c.requires.answers) c.give_up.ensures)
