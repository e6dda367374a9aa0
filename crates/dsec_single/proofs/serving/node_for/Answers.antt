use Rattle.std.proofs.Common.{arith}
use Rattle.dsec_spec.specs.Names.{place}
use Rattle.dsec_lookup.specs.Outside.{Outside}
use Rattle.dsec_walk.specs.Views.{step_view, world_in}
use Rattle.dsec_single.proofs.TurnLaws.{set_out, not_set_out}
use Rattle.dsec_single.proofs.serving.node_for.Goals as goal

pub serve-requires : goal.serve-requires
serve-requires g c =
    let before : Outside = record { held = g.C.Caches.held c.args.caches.now; lasting = g.C.Caches.lasting c.args.caches.now; asked = g.U.Upstream.asked c.args.upstream.now; faults = g.U.Upstream.faults c.args.upstream.now; heard = g.U.Upstream.heard c.args.upstream.now } in
    record {
      on = (
        before,
        place c.args.top,
        place c.args.zone,
        c.args.steps.now,
        set_out (world_in g.V.Verifier.accepts c.args.setting.now) (g.U.Upstream.table c.args.upstream.now) before (place c.args.top) (place c.args.zone) c.requires
            c.args.steps.now c.advance.new.steps (omega (arith, c.advance.ensures.bound)) c.start-walk.result c.advance.new.self (step_view c.in-Ok.first) c.start-walk.ensures.started c.in-Ok.ensures.exact,
      );
    }

pub returns-in-Ok-clause-ends : goal.returns-in-Ok-clause-ends
returns-in-Ok-clause-ends g c =
    let before : Outside = record { held = g.C.Caches.held c.args.caches.now; lasting = g.C.Caches.lasting c.args.caches.now; asked = g.U.Upstream.asked c.args.upstream.now; faults = g.U.Upstream.faults c.args.upstream.now; heard = g.U.Upstream.heard c.args.upstream.now } in
    c.serve.ensures.ends before (place c.args.top) (place c.args.zone) c.args.steps.now
    (set_out (world_in g.V.Verifier.accepts c.args.setting.now) (g.U.Upstream.table c.args.upstream.now) before (place c.args.top) (place c.args.zone) c.requires
    c.args.steps.now c.advance.new.steps (omega (arith, c.advance.ensures.bound)) c.start-walk.result c.advance.new.self (step_view c.in-Ok.first) c.start-walk.ensures.started c.in-Ok.ensures.exact)

pub returns-clause-ends : goal.returns-clause-ends
returns-clause-ends g c =
    not_set_out (world_in g.V.Verifier.accepts c.args.setting.now) (g.U.Upstream.table c.args.upstream.now)
    (record { held = g.C.Caches.held c.args.caches.now; lasting = g.C.Caches.lasting c.args.caches.now; asked = g.U.Upstream.asked c.args.upstream.now; faults = g.U.Upstream.faults c.args.upstream.now; heard = g.U.Upstream.heard c.args.upstream.now })
    (place c.args.top) (place c.args.zone) c.requires c.args.steps.now c.advance.new.steps (omega (arith, c.advance.ensures.bound))
