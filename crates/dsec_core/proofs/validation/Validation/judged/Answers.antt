use Rattle.std.proofs.Common.{sym, subst}
use Rattle.std.specs.List.{AllByRecursion}
use Rattle.dsec_course.specs.Justified.{IsFound}
use Rattle.dsec_core.specs.Validating.{Validating, world_by}
use Rattle.dsec_core.proofs.StepLaws.{judged_found}
use Rattle.dsec_core.proofs.validation.Validation.judged.Goals as goal

pub returns-clause-found : goal.returns-clause-found
returns-clause-found g c =
    let accepts = g.V.Verifier.accepts in
    let it = c.self.inside in
    let seen : Validating = record { anchors = it.anchors; config = it.config; moment = it.moment; course = it.course } in
    subst (AllByRecursion (IsFound (world_by accepts c.args.self.now))) (sym c.judged.ensures)
    (subst (λ (v : Validating). AllByRecursion (IsFound (world_by accepts v)) it.course.judged) c.self.view_is (judged_found accepts seen c.self.invariant))
