use Rattle.std.proofs.Common.{sym, subst}
use Rattle.std.specs.Prelude.{Err}
use Rattle.dsec_nodes.specs.Admission.{anchor_search, cause_among}
use Rattle.dsec_nodes.specs.Causes.{BadSignature}
use Rattle.dsec_child.specs.Admissions.{IsAdmission, tried_at}
use Rattle.dsec_child.specs.Tries.{AreWayTries}
use Rattle.dsec_child.specs.Ways.{ways_trial}
use Rattle.dsec_child.proofs.AdmitSteps.{anchors_left}
use Rattle.dsec_child.proofs.admit.by_anchors.Goals as goal

pub returns-in-Left-clause-admitted : goal.returns-in-Left-clause-admitted
returns-in-Left-clause-admitted g c =
    let accepts = g.V.Verifier.accepts in
    let group = c.args.group.now in
    let anchors = c.args.anchors.now in
    let search = anchor_search c.args.most group in
    let h = subst (AreWayTries BadSignature search anchors group (ways_trial accepts group c.args.t c.args.room search anchors)) c.in-Left.is c.in_ok-signature.ensures.tries in
    subst (λ cause. IsAdmission anchors group (cause_among BadSignature group search anchors) (tried_at accepts group c.args.t c.args.room search anchors) (Err cause)) (sym c.cause_of.ensures)
    (anchors_left accepts group c.args.t c.args.room search anchors BadSignature c.in-Left.left c.in-Left.cause c.requires.some h.0 h.1)
