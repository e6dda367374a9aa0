use Rattle.dsec_group.proofs.RedirectLaws.{pushed_one}
use Rattle.dsec_group.proofs.group.push_copies.Goals as goal

pub loop-one-preserved : goal.loop-one-preserved
loop-one-preserved c =
    pushed_one c.args.extra.now.items c.loop-one.extra.items c.push.new.self.items c.args.records.now c.loop-one.one-index c.one-item.result c.in_ok-copied.field-0
    c.loop-one.invariant c.in_ok-push.ensures.items c.in_ok-copied.ensures c.loop-one-test.true c.one-item.is
