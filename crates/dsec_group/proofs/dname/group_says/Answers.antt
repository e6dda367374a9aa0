use Rattle.std.proofs.Common.{sym, ◌∙◌, ap}
use Rattle.dsec_group.specs.Mappings.{mapping_view}
use Rattle.dsec_spec.specs.Redirection.{said_by}
use Rattle.dsec_group.proofs.RedirectLaws.{speaks, said_silent, said_agrees, said_too_long, said_nothing}
use Rattle.dsec_group.proofs.dname.group_says.Goals as goal

pub returns-in-Agrees : goal.returns-in-Agrees
returns-in-Agrees c =
    let whole = speaks c.args.anchors.now c.args.cname.now c.args.group.now (sym c.may_speak.ensures ∙ c.if-not-may_speak.false) in
    sym (said_agrees c.args.cname.now c.dname-item.result c.rr_set-records.result.now c.loop-dname.dname-index c.loop-dname-test.true c.dname-item.is (sym c.in_ok-one_says.ensures ∙ ap mapping_view c.in-Agrees.is))
    ∙ (c.loop-dname.invariant ∙ (ap (said_by c.args.cname.now) c.rr_set-records.ensures.records ∙ sym whole))

pub returns-in-TooLong : goal.returns-in-TooLong
returns-in-TooLong c =
    let whole = speaks c.args.anchors.now c.args.cname.now c.args.group.now (sym c.may_speak.ensures ∙ c.if-not-may_speak.false) in
    sym (said_too_long c.args.cname.now c.dname-item.result c.rr_set-records.result.now c.loop-dname.dname-index c.loop-dname-test.true c.dname-item.is (sym c.in_ok-one_says.ensures ∙ ap mapping_view c.in-TooLong.is))
    ∙ (c.loop-dname.invariant ∙ (ap (said_by c.args.cname.now) c.rr_set-records.ensures.records ∙ sym whole))

pub loop-dname-preserved : goal.loop-dname-preserved
loop-dname-preserved c =
    said_silent c.args.cname.now c.dname-item.result c.rr_set-records.result.now c.loop-dname.dname-index _ c.loop-dname-test.true c.dname-item.is (sym c.in_ok-one_says.ensures ∙ ap mapping_view c.in-Silent.is) c.loop-dname.invariant

pub returns : goal.returns
returns c =
    let whole = speaks c.args.anchors.now c.args.cname.now c.args.group.now (sym c.may_speak.ensures ∙ c.if-not-may_speak.false) in
    sym (said_nothing c.args.cname.now c.rr_set-records.result.now c.loop-dname.dname-index c.loop-dname-test.false)
    ∙ (c.loop-dname.invariant ∙ (ap (said_by c.args.cname.now) c.rr_set-records.ensures.records ∙ sym whole))
