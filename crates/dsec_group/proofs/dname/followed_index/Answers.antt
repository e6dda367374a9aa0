use Rattle.std.proofs.Common.{sym, ◌∙◌, ap}
use Rattle.dsec_group.specs.Mappings.{mapping_view}
use Rattle.dsec_group.proofs.RedirectLaws.{followed_later, followed_here, followed_never, followed_none}
use Rattle.dsec_group.proofs.dname.followed_index.Goals as goal

pub returns-in-Agrees : goal.returns-in-Agrees
returns-in-Agrees c =
    sym (followed_here c.args.anchors.now c.args.cname.now c.index-groups-index.result c.args.groups.now c.loop-index.index c.loop-index-test.true c.index-groups-index.is (sym c.in_ok-group_says.ensures ∙ ap mapping_view c.in-Agrees.is)) ∙ c.loop-index.invariant

pub returns-in-TooLong : goal.returns-in-TooLong
returns-in-TooLong c =
    sym (followed_never c.args.anchors.now c.args.cname.now c.index-groups-index.result c.args.groups.now c.loop-index.index c.loop-index-test.true c.index-groups-index.is (sym c.in_ok-group_says.ensures ∙ ap mapping_view c.in-TooLong.is)) ∙ c.loop-index.invariant

pub loop-index-preserved : goal.loop-index-preserved
loop-index-preserved c =
    followed_later c.args.anchors.now c.args.cname.now c.index-groups-index.result c.args.groups.now c.loop-index.index _ c.loop-index-test.true c.index-groups-index.is (sym c.in_ok-group_says.ensures ∙ ap mapping_view c.in-Silent.is) c.loop-index.invariant

pub returns : goal.returns
returns c = sym (followed_none c.args.anchors.now c.args.cname.now c.args.groups.now c.loop-index.index c.loop-index-test.false) ∙ c.loop-index.invariant
