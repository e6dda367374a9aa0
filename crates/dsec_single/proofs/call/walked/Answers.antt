use Rattle.std.proofs.Common.{◌≡◌, ap, ◌∙◌}
use Rattle.std.specs.Arc.{arc_value}
use Rattle.dsec_spec.specs.Names.{place}
use Rattle.dsec_walk.specs.Views.{world_in}
use Rattle.dsec_by_node.proofs.GroundLaws.{if_ok}
use Rattle.dsec_single.proofs.CallLaws.{unbegun_call}
use Rattle.dsec_single.proofs.ClosingLaws.{stuck, end_tells, end_call, end_sound, end_justified, zones_of_walk}
use Rattle.dsec_single.proofs.call.walked.Goals as goal

pub returns-in_default-clause-checks : goal.returns-in_default-clause-checks
returns-in_default-clause-checks g c = unbegun_call (world_in g.V.Verifier.accepts c.args.setting.now) c.args.group.now (g.U.Upstream.table c.args.upstream.now) (record { held = g.C.Caches.held c.args.caches.now; lasting = g.C.Caches.lasting c.args.caches.now; asked = g.U.Upstream.asked c.args.upstream.now; faults = g.U.Upstream.faults c.args.upstream.now; heard = g.U.Upstream.heard c.args.upstream.now }) c.args.steps.now

pub returns-in-Err-clause-checks : goal.returns-in-Err-clause-checks
returns-in-Err-clause-checks g c = stuck (world_in g.V.Verifier.accepts c.args.setting.now) c.args.group.now (g.U.Upstream.table c.args.upstream.now)
    (record { held = g.C.Caches.held c.args.caches.now; lasting = g.C.Caches.lasting c.args.caches.now; asked = g.U.Upstream.asked c.args.upstream.now; faults = g.U.Upstream.faults c.args.upstream.now; heard = g.U.Upstream.heard c.args.upstream.now })
    (record { held = g.C.Caches.held c.node_for.new.caches; lasting = g.C.Caches.lasting c.node_for.new.caches; asked = g.U.Upstream.asked c.node_for.new.upstream; faults = g.U.Upstream.faults c.node_for.new.upstream; heard = g.U.Upstream.heard c.node_for.new.upstream })
    (place c.args.top) (place c.args.zone) c.requires.way c.requires.target c.args.steps.now c.node_for.new.steps c.in-Err.ensures.ends

pub by_end-requires-clause-tells : goal.by_end-requires-clause-tells
by_end-requires-clause-tells g c = end_tells (world_in g.V.Verifier.accepts c.args.setting.now) c.args.group.now (g.U.Upstream.table c.args.upstream.now)
    (record { held = g.C.Caches.held c.args.caches.now; lasting = g.C.Caches.lasting c.args.caches.now; asked = g.U.Upstream.asked c.args.upstream.now; faults = g.U.Upstream.faults c.args.upstream.now; heard = g.U.Upstream.heard c.args.upstream.now })
    (record { held = g.C.Caches.held c.node_for.new.caches; lasting = g.C.Caches.lasting c.node_for.new.caches; asked = g.U.Upstream.asked c.node_for.new.upstream; faults = g.U.Upstream.faults c.node_for.new.upstream; heard = g.U.Upstream.heard c.node_for.new.upstream })
    (place c.args.top) (place c.args.zone) c.requires.way c.requires.target (arc_value c.in-Ok-node_for.node) c.args.steps.now c.node_for.new.steps c.in-Ok-node_for.ensures.ends

pub returns-in-Ok-node_for-clause-checks : goal.returns-in-Ok-node_for-clause-checks
returns-in-Ok-node_for-clause-checks g c = end_call (world_in g.V.Verifier.accepts c.args.setting.now) c.args.group.now (g.U.Upstream.table c.args.upstream.now)
    (record { held = g.C.Caches.held c.args.caches.now; lasting = g.C.Caches.lasting c.args.caches.now; asked = g.U.Upstream.asked c.args.upstream.now; faults = g.U.Upstream.faults c.args.upstream.now; heard = g.U.Upstream.heard c.args.upstream.now })
    (record { held = g.C.Caches.held c.node_for.new.caches; lasting = g.C.Caches.lasting c.node_for.new.caches; asked = g.U.Upstream.asked c.node_for.new.upstream; faults = g.U.Upstream.faults c.node_for.new.upstream; heard = g.U.Upstream.heard c.node_for.new.upstream })
    (place c.args.top) (place c.args.zone) c.requires.way c.requires.target (arc_value c.in-Ok-node_for.node) c.args.steps.now c.node_for.new.steps c.in-Ok-node_for.ensures.ends c.by_end.new.steps c.by_end.ensures.bound
    c.by_end.result (λ it. it.told) c.by_end.ensures.answer c.by_end.ensures.sound c.by_end.ensures.shown

pub returns-in-Ok-node_for-clause-target : goal.returns-in-Ok-node_for-clause-target
returns-in-Ok-node_for-clause-target g c = zones_of_walk (world_in g.V.Verifier.accepts c.args.setting.now) c.args.group.now (g.U.Upstream.table c.args.upstream.now)
    (record { held = g.C.Caches.held c.args.caches.now; lasting = g.C.Caches.lasting c.args.caches.now; asked = g.U.Upstream.asked c.args.upstream.now; faults = g.U.Upstream.faults c.args.upstream.now; heard = g.U.Upstream.heard c.args.upstream.now })
    (record { held = g.C.Caches.held c.node_for.new.caches; lasting = g.C.Caches.lasting c.node_for.new.caches; asked = g.U.Upstream.asked c.node_for.new.upstream; faults = g.U.Upstream.faults c.node_for.new.upstream; heard = g.U.Upstream.heard c.node_for.new.upstream })
    (place c.args.top) (place c.args.zone) c.requires.way c.requires.target c.by_end.result (λ it. place it.target)
    (if_ok (λ it. it.target ≡ c.in-Ok.target) (λ it. place it.target ≡ place c.args.zone) c.by_end.result (λ it e. ap place (e ∙ c.in-Ok.ensures)) c.by_end.ensures.target)

pub returns-in-Ok-node_for-clause-letters : goal.returns-in-Ok-node_for-clause-letters
returns-in-Ok-node_for-clause-letters g c =
    if_ok (λ it. it.target ≡ c.in-Ok.target) (λ it. it.target ≡ c.args.zone) c.by_end.result (λ it e. e ∙ c.in-Ok.ensures) c.by_end.ensures.target

pub returns-in-Ok-node_for-clause-sound : goal.returns-in-Ok-node_for-clause-sound
returns-in-Ok-node_for-clause-sound g c = end_sound (world_in g.V.Verifier.accepts c.args.setting.now) c.args.group.now (g.U.Upstream.table c.args.upstream.now)
    (record { held = g.C.Caches.held c.args.caches.now; lasting = g.C.Caches.lasting c.args.caches.now; asked = g.U.Upstream.asked c.args.upstream.now; faults = g.U.Upstream.faults c.args.upstream.now; heard = g.U.Upstream.heard c.args.upstream.now })
    (record { held = g.C.Caches.held c.node_for.new.caches; lasting = g.C.Caches.lasting c.node_for.new.caches; asked = g.U.Upstream.asked c.node_for.new.upstream; faults = g.U.Upstream.faults c.node_for.new.upstream; heard = g.U.Upstream.heard c.node_for.new.upstream })
    (place c.args.top) (place c.args.zone) c.requires.way c.requires.target (arc_value c.in-Ok-node_for.node) c.args.steps.now c.node_for.new.steps c.in-Ok-node_for.ensures.ends c.by_end.new.steps c.by_end.ensures.bound
    c.by_end.result (λ it. it.told) c.by_end.ensures.answer c.by_end.ensures.sound c.by_end.ensures.shown
    (λ it. place it.target) (if_ok (λ it. it.target ≡ c.in-Ok.target) (λ it. place it.target ≡ place c.args.zone) c.by_end.result (λ it e. ap place (e ∙ c.in-Ok.ensures)) c.by_end.ensures.target)

pub returns-in-Ok-node_for-clause-justified : goal.returns-in-Ok-node_for-clause-justified
returns-in-Ok-node_for-clause-justified g c = end_justified (world_in g.V.Verifier.accepts c.args.setting.now) c.args.group.now (g.U.Upstream.table c.args.upstream.now)
    (record { held = g.C.Caches.held c.args.caches.now; lasting = g.C.Caches.lasting c.args.caches.now; asked = g.U.Upstream.asked c.args.upstream.now; faults = g.U.Upstream.faults c.args.upstream.now; heard = g.U.Upstream.heard c.args.upstream.now })
    (record { held = g.C.Caches.held c.node_for.new.caches; lasting = g.C.Caches.lasting c.node_for.new.caches; asked = g.U.Upstream.asked c.node_for.new.upstream; faults = g.U.Upstream.faults c.node_for.new.upstream; heard = g.U.Upstream.heard c.node_for.new.upstream })
    (place c.args.top) (place c.args.zone) c.requires.way c.requires.target (arc_value c.in-Ok-node_for.node) c.args.steps.now c.node_for.new.steps c.in-Ok-node_for.ensures.ends c.by_end.new.steps c.by_end.ensures.bound
    c.by_end.result (λ it. it.told) c.by_end.ensures.answer c.by_end.ensures.sound c.by_end.ensures.shown
    (λ it. place it.target) (if_ok (λ it. it.target ≡ c.in-Ok.target) (λ it. place it.target ≡ place c.args.zone) c.by_end.result (λ it e. ap place (e ∙ c.in-Ok.ensures)) c.by_end.ensures.target)
