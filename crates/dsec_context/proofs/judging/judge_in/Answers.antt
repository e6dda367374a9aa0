use Rattle.std.proofs.Common.{arith}
use Rattle.dsec_node.specs.Views.{bounds_of, world_of}
use Rattle.dsec_context.proofs.PromiseLaws.{judges}
use Rattle.dsec_context.proofs.judging.judge_in.Goals as goal

pub returns-clause-judged : goal.returns-clause-judged
returns-clause-judged g c =
    judges (world_of g.V.Verifier.accepts c.args.anchors.now (bounds_of c.args.config.now) c.args.now) c.args.config.now.max_cname_dname c.args.message.now
    (g.U.Upstream.table c.args.upstream.now)
    (record { held = g.C.Caches.held c.args.caches.now; lasting = g.C.Caches.lasting c.args.caches.now; asked = g.U.Upstream.asked c.args.upstream.now; faults = g.U.Upstream.faults c.args.upstream.now; heard = g.U.Upstream.heard c.args.upstream.now })
    (record { held = g.C.Caches.held c.counted.new.caches; lasting = g.C.Caches.lasting c.counted.new.caches; asked = g.U.Upstream.asked c.counted.new.upstream; faults = g.U.Upstream.faults c.counted.new.upstream; heard = g.U.Upstream.heard c.counted.new.upstream })
    c.counted.result (omega arith) c.counted.ensures.judging
