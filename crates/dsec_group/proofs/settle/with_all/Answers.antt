use Rattle.dsec_group.specs.Followers.{follower_view}
use Rattle.dsec_group.proofs.RedirectLaws.{took, passed}
use Rattle.dsec_group.proofs.settle.with_all.Goals as goal
use Rattle.dsec_group.proofs.settle.with_all.Goals.{then-follower-index+in_ok-take_on, else-follower-index}

pub loop-follower-preserved : goal.loop-follower-preserved
loop-follower-preserved c = elim c.if-follower-index.branch [
  | then-follower-index+in_ok-take_on w ↦ rw w.whole-is (took follower_view c.args.group.now c.args.index c.args.followers.now c.loop-follower.follower-index c.follower-item.result c.loop-follower-test.true c.follower-item.is
      c.loop-follower.whole w.take_on.new.self c.loop-follower.invariant w.in_ok-take_on.ensures w.if-follower-index.true)
  | else-follower-index w ↦ rw w.whole-is (passed follower_view c.args.group.now c.args.index c.args.followers.now c.loop-follower.follower-index c.follower-item.result c.loop-follower-test.true c.follower-item.is
      c.loop-follower.whole c.loop-follower.invariant w.if-follower-index.false)
]
