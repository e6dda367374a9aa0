use Rattle.std.proofs.Common.{refl, arith}
use Rattle.dsec_group.proofs.RedirectLaws.{follows_one, follows_none}
use Rattle.dsec_group.proofs.settle.followers_among.Goals as goal
use Rattle.dsec_group.proofs.settle.followers_among.Goals.{in-Some+in_ok-push, in_default}

pub loop-index-preserved : goal.loop-index-preserved
loop-index-preserved c = elim c.match-all-index.branch [
  | in-Some+in_ok-push w ↦ rw (w.followers-is, w.in_ok-push.ensures.items) (follows_one c.args.all.now c.args.groups.now c.loop-index.index w.index-groups-index.result c.loop-index-test.true c.requires w.index-groups-index.is
      c.loop-index.followers.items _ w.in-Some.to _ c.loop-index.invariant w.in-Some.is refl)
  | in_default w ↦ rw w.followers-is (follows_none c.args.all.now c.args.groups.now c.loop-index.index (omega (arith, c.requires, c.loop-index-test.true))
      c.loop-index.followers.items _ c.loop-index.invariant w.in_default.not-Some)
]
