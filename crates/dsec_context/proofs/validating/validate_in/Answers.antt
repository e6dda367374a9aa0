use Rattle.dsec_node.specs.Views.{bounds_of, world_of}
use Rattle.dsec_context.proofs.PromiseLaws.{hands_on, sound_on}
use Rattle.dsec_context.proofs.validating.validate_in.Goals as goal

pub returns-clause-handed_on : goal.returns-clause-handed_on
returns-clause-handed_on g c =
    hands_on (world_of g.V.Verifier.accepts c.args.anchors.now (bounds_of c.args.config.now) c.args.now) c.args.config.now.max_cname_dname c.args.message.now
    (g.U.Upstream.table c.args.upstream.now)
    (record { held = g.C.Caches.held c.args.caches.now; lasting = g.C.Caches.lasting c.args.caches.now; asked = g.U.Upstream.asked c.args.upstream.now; faults = g.U.Upstream.faults c.args.upstream.now; heard = g.U.Upstream.heard c.args.upstream.now })
    (record { held = g.C.Caches.held c.judge_in-judgement.new.caches; lasting = g.C.Caches.lasting c.judge_in-judgement.new.caches; asked = g.U.Upstream.asked c.judge_in-judgement.new.upstream; faults = g.U.Upstream.faults c.judge_in-judgement.new.upstream; heard = g.U.Upstream.heard c.judge_in-judgement.new.upstream })
    c.judge_in-judgement.result c.hand_on.result c.hand_on.new.message c.judge_in-judgement.ensures.judged c.hand_on.ensures.handed c.hand_on.ensures.reads_back

pub returns-clause-sound : goal.returns-clause-sound
returns-clause-sound g c =
    sound_on (world_of g.V.Verifier.accepts c.args.anchors.now (bounds_of c.args.config.now) c.args.now) c.args.config.now.max_cname_dname c.args.message.now
    (g.U.Upstream.table c.args.upstream.now)
    (record { held = g.C.Caches.held c.args.caches.now; lasting = g.C.Caches.lasting c.args.caches.now; asked = g.U.Upstream.asked c.args.upstream.now; faults = g.U.Upstream.faults c.args.upstream.now; heard = g.U.Upstream.heard c.args.upstream.now })
    (record { held = g.C.Caches.held c.judge_in-judgement.new.caches; lasting = g.C.Caches.lasting c.judge_in-judgement.new.caches; asked = g.U.Upstream.asked c.judge_in-judgement.new.upstream; faults = g.U.Upstream.faults c.judge_in-judgement.new.upstream; heard = g.U.Upstream.heard c.judge_in-judgement.new.upstream })
    c.judge_in-judgement.result c.hand_on.result c.hand_on.new.message c.judge_in-judgement.ensures.judged c.hand_on.ensures.handed
