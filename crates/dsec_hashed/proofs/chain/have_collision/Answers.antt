use Rattle.std.proofs.Common.{map}
use Rattle.dsec_hashed.specs.Hashed.{has_twins}
use Rattle.dsec_hashed.specs.HashedViews.{hashed_view}
use Rattle.dsec_hashed.proofs.Views.{twins_more, twins_end}
use Rattle.dsec_hashed.proofs.chain.have_collision.Goals as goal

pub loop-i-preserved : goal.loop-i-preserved
loop-i-preserved c =
    twins_more c.args.names.now c.split_at.result.1.now c.loop-i.i c.loop-i.found c.begin_with_twins-found.result (has_twins (map hashed_view c.args.names.now)) c.loop-i-test.true
    c.split_at.ensures.back c.begin_with_twins-found.ensures c.loop-i.invariant

pub returns : goal.returns
returns c = twins_end c.args.names.now c.loop-i.i c.loop-i.found (has_twins (map hashed_view c.args.names.now)) c.loop-i-test.false c.loop-i.invariant
