use Rattle.std.proofs.Common.{ap}
use Rattle.dsec_course.proofs.BeginningLaws.{begun_in_step, begun_sound}
use Rattle.dsec_core.specs.Validating.{Validating, begun_as, most_of, world_by}
use Rattle.dsec_core.proofs.BeginLaws.{begun_sound_by}
use Rattle.dsec_core.proofs.ReadSteps.{begun_here}
use Rattle.dsec_core.proofs.validation.Validation.start.Goals as goal

pub invariant_of-result : goal.invariant_of-result
invariant_of-result g c =
    let course = c.in_ok-course.course in
    let message = c.args.message.now in
    let e = begun_here c.args.anchors c.as_slice.result.now c.args.config.max_cname_dname c.max_cname_dname.result message course c.as_slice.ensures
    c.max_cname_dname.ensures c.in_ok-course.ensures in
    begun_sound_by g.V.Verifier.accepts c.args.anchors c.args.config c.args.now message course e

pub returns-clause-exact : goal.returns-clause-exact
returns-clause-exact g c =
    let course = c.in_ok-course.course in
    let message = c.args.message.now in
    let e = begun_here c.args.anchors c.as_slice.result.now c.args.config.max_cname_dname c.max_cname_dname.result message course c.as_slice.ensures
    c.max_cname_dname.ensures c.in_ok-course.ensures in
    ap (begun_as c.args.anchors c.args.config c.args.now) e

pub returns-clause-in_step : goal.returns-clause-in_step
returns-clause-in_step g c =
    let course = c.in_ok-course.course in
    let message = c.args.message.now in
    let e = begun_here c.args.anchors c.as_slice.result.now c.args.config.max_cname_dname c.max_cname_dname.result message course c.as_slice.ensures
    c.max_cname_dname.ensures c.in_ok-course.ensures in
    let it : Validating = record { anchors = c.args.anchors; config = c.args.config; moment = c.args.now; course = course } in
    begun_in_step (world_by g.V.Verifier.accepts it) (most_of it) message course e

pub returns-clause-sound : goal.returns-clause-sound
returns-clause-sound g c =
    let course = c.in_ok-course.course in
    let message = c.args.message.now in
    let e = begun_here c.args.anchors c.as_slice.result.now c.args.config.max_cname_dname c.max_cname_dname.result message course c.as_slice.ensures
    c.max_cname_dname.ensures c.in_ok-course.ensures in
    let it : Validating = record { anchors = c.args.anchors; config = c.args.config; moment = c.args.now; course = course } in
    begun_sound (world_by g.V.Verifier.accepts it) (most_of it) message course e
