use Rattle.std.proofs.Common.{arith}
use Rattle.dsec_node.specs.Views.{bounds_of, world_of}
use Rattle.dsec_context.proofs.PromiseLaws.{judges}
use Rattle.dsec_context.proofs.WithinLaws.{heard_within}
use Rattle.dsec_context.proofs.judging.judge_counted_in.Goals as goal

pub returns-clause-judged : goal.returns-clause-judged
returns-clause-judged g c =
    judges (world_of g.V.Verifier.accepts c.args.anchors.now (bounds_of c.args.config.now) c.args.now) c.args.config.now.max_cname_dname c.args.message.now
    (g.U.Upstream.table c.args.upstream.now)
    (record { held = g.C.Caches.held c.args.caches.now; lasting = g.C.Caches.lasting c.args.caches.now; asked = g.U.Upstream.asked c.args.upstream.now; faults = g.U.Upstream.faults c.args.upstream.now; heard = g.U.Upstream.heard c.args.upstream.now })
    (record { held = g.C.Caches.held c.judge.new.caches; lasting = g.C.Caches.lasting c.judge.new.caches; asked = g.U.Upstream.asked c.judge.new.upstream; faults = g.U.Upstream.faults c.judge.new.upstream; heard = g.U.Upstream.heard c.judge.new.upstream })
    c.judge.result (omega arith) c.judge.ensures.checks.judging

pub returns-clause-heard : goal.returns-clause-heard
returns-clause-heard g c =
    heard_within (world_of g.V.Verifier.accepts c.args.anchors.now (bounds_of c.args.config.now) c.args.now) c.args.config.now.max_cname_dname c.args.message.now
    (g.U.Upstream.table c.args.upstream.now)
    (record { held = g.C.Caches.held c.args.caches.now; lasting = g.C.Caches.lasting c.args.caches.now; asked = g.U.Upstream.asked c.args.upstream.now; faults = g.U.Upstream.faults c.args.upstream.now; heard = g.U.Upstream.heard c.args.upstream.now })
    (record { held = g.C.Caches.held c.judge.new.caches; lasting = g.C.Caches.lasting c.judge.new.caches; asked = g.U.Upstream.asked c.judge.new.upstream; faults = g.U.Upstream.faults c.judge.new.upstream; heard = g.U.Upstream.heard c.judge.new.upstream })
    c.judge.result c.args.steps.now c.judge.new.steps c.judge.ensures.checks
