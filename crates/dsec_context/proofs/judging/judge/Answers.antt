use Rattle.std.proofs.Common.{None, Err, arith, sym, subst}
use Rattle.dsec_node.specs.Views.{bounds_of, world_of}
use Rattle.dsec_core.specs.Validating.{most_of}
use Rattle.dsec_context.specs.Outside.{Outside}
use Rattle.dsec_context.specs.Judgements.{Judgement}
use Rattle.dsec_context.specs.Checked.{IsJudgingWithin}
use Rattle.dsec_found.specs.declared.error.Error.TheVariants.{NoMemory}
use Rattle.dsec_context.proofs.CallLaws.{ends_unbegun}
use Rattle.dsec_context.proofs.StartLaws.{started, started_begins, started_from, started_judged, unstarted}
use Rattle.dsec_context.proofs.WithinLaws.{within_none}
use Rattle.dsec_context.proofs.judging.judge.Goals as goal

pub returns-in_default-clause-checks : goal.returns-in_default-clause-checks
returns-in_default-clause-checks g c =
    let w = world_of g.V.Verifier.accepts c.args.anchors.now (bounds_of c.args.config.now) c.args.now in
    let most = c.args.config.now.max_cname_dname in
    let table = g.U.Upstream.table c.args.upstream.now in
    let before : Outside = record { held = g.C.Caches.held c.args.caches.now; lasting = g.C.Caches.lasting c.args.caches.now; asked = g.U.Upstream.asked c.args.upstream.now; faults = g.U.Upstream.faults c.args.upstream.now; heard = g.U.Upstream.heard c.args.upstream.now } in
    subst (λ (j : Judgement). IsJudgingWithin w most c.args.message.now table before before j c.args.steps.now c.args.steps.now) (sym c.unbegun.ensures)
    (within_none w most c.args.message.now table before before (record { answer = Err NoMemory; groups = None }) c.args.steps.now
    (ends_unbegun w most c.args.message.now table before))

pub begin-answer-requires : goal.begin-answer-requires
begin-answer-requires g c =
    let s = started c.in-Ok.own c.args.config.now c.args.now c.args.message.now c.in-Ok-start.validation c.in-Ok-start.ensures.exact in
    let enough = c.most_asked.ensures.enough c.in-Ok-start.validation.anchors (most_of c.in-Ok-start.validation) in
    record {
      begun = (
        c.args.message.now,
        started_begins c.in-Ok.own c.args.config.now c.args.now c.args.message.now c.in-Ok-start.validation s,
        omega (arith, enough, c.most_asked.ensures.few),
      );
    }

pub returns-in-Ok-start-clause-checks : goal.returns-in-Ok-start-clause-checks
returns-in-Ok-start-clause-checks g c =
    let s = started c.in-Ok.own c.args.config.now c.args.now c.args.message.now c.in-Ok-start.validation c.in-Ok-start.ensures.exact in
    started_judged g.V.Verifier.accepts c.args.anchors.now c.args.config.now c.args.now c.args.message.now c.in-Ok-start.validation c.begin-answer.new.validation (g.U.Upstream.table c.args.upstream.now)
    (record { held = g.C.Caches.held c.args.caches.now; lasting = g.C.Caches.lasting c.args.caches.now; asked = g.U.Upstream.asked c.args.upstream.now; faults = g.U.Upstream.faults c.args.upstream.now; heard = g.U.Upstream.heard c.args.upstream.now })
    (record { held = g.C.Caches.held c.begin-answer.new.caches; lasting = g.C.Caches.lasting c.begin-answer.new.caches; asked = g.U.Upstream.asked c.begin-answer.new.upstream; faults = g.U.Upstream.faults c.begin-answer.new.upstream; heard = g.U.Upstream.heard c.begin-answer.new.upstream })
    c.begin-answer.result c.new.result c.args.steps.now c.begin-answer.new.steps (started_from c.in-Ok.own c.args.anchors.now c.args.config.now c.args.now c.args.message.now c.in-Ok-start.validation c.in-Ok.ensures s)
    c.begin-answer.ensures.same c.new.ensures
    (c.begin-answer.ensures.checks c.args.message.now (started_begins c.in-Ok.own c.args.config.now c.args.now c.args.message.now c.in-Ok-start.validation s))

pub returns-in-Err-clause-checks : goal.returns-in-Err-clause-checks
returns-in-Err-clause-checks g c =
    let w = world_of g.V.Verifier.accepts c.args.anchors.now (bounds_of c.args.config.now) c.args.now in
    let most = c.args.config.now.max_cname_dname in
    let table = g.U.Upstream.table c.args.upstream.now in
    let before : Outside = record { held = g.C.Caches.held c.args.caches.now; lasting = g.C.Caches.lasting c.args.caches.now; asked = g.U.Upstream.asked c.args.upstream.now; faults = g.U.Upstream.faults c.args.upstream.now; heard = g.U.Upstream.heard c.args.upstream.now } in
    subst (λ (j : Judgement). IsJudgingWithin w most c.args.message.now table before before j c.args.steps.now c.args.steps.now) (sym c.unbegun-in-Err.ensures)
    (within_none w most c.args.message.now table before before (record { answer = Err c.in-Err.error; groups = None }) c.args.steps.now
    (unstarted w c.in-Ok.own c.args.config.now c.args.now c.args.message.now table before c.in-Err.error c.in-Err.ensures.exact))
