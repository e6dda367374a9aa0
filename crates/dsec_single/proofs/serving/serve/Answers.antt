use Rattle.std.proofs.Common.{Option, sym, ◌∙◌, subst}
use Rattle.dsec_spec.specs.Outside.{Table}
use Rattle.dsec_nodes.specs.World.{World}
use Rattle.dsec_walk.specs.Views.{step_view, world_in}
use Rattle.dsec_lookup.specs.Outside.{Outside}
use Rattle.dsec_single.specs.Progress.{IsOn, IsStuck}
use Rattle.dsec_single.proofs.StepLaws.{carried}
use Rattle.dsec_single.proofs.serving.serve.Goals as goal

pub turn-requires-clause-on : goal.turn-requires-clause-on
turn-requires-clause-on g c =
    let inv = c.loop-alloc.invariant in
    let begun = c.requires.on in
    let now : Outside = record { held = g.C.Caches.held c.loop-alloc.caches; lasting = g.C.Caches.lasting c.loop-alloc.caches; asked = g.U.Upstream.asked c.loop-alloc.upstream; faults = g.U.Upstream.faults c.loop-alloc.upstream; heard = g.U.Upstream.heard c.loop-alloc.upstream } in (
      begun.0,
      begun.1,
      begun.2,
      begun.3,
      subst (λ (t : Option Table). IsOn (world_in g.V.Verifier.accepts c.args.setting.now) t begun.0 now begun.1 begun.2 c.loop-alloc.walk (step_view c.loop-alloc.last) begun.3 c.loop-alloc.steps) (sym inv.0)
          (inv.1 begun.0 begun.1 begun.2 begun.3 begun.4),
    )

pub loop-alloc-preserved : goal.loop-alloc-preserved
loop-alloc-preserved g c =
    let inv = c.loop-alloc.invariant in
    let now : Outside = record { held = g.C.Caches.held c.loop-alloc.caches; lasting = g.C.Caches.lasting c.loop-alloc.caches; asked = g.U.Upstream.asked c.loop-alloc.upstream; faults = g.U.Upstream.faults c.loop-alloc.upstream; heard = g.U.Upstream.heard c.loop-alloc.upstream } in
    let next : Outside = record { held = g.C.Caches.held c.turn.new.caches; lasting = g.C.Caches.lasting c.turn.new.caches; asked = g.U.Upstream.asked c.turn.new.upstream; faults = g.U.Upstream.faults c.turn.new.upstream; heard = g.U.Upstream.heard c.turn.new.upstream } in (
      c.turn.ensures.same_table ∙ inv.0,
      λ before top target from on.
          carried (λ (w : World) (t : Option Table). IsOn w t before now top target c.loop-alloc.walk (step_view c.loop-alloc.last) from c.loop-alloc.steps)
          (λ (w : World) (t : Option Table). IsOn w t before next top target c.turn.new.walk (step_view c.in-Ok.next) from c.turn.new.steps)
          (world_in g.V.Verifier.accepts c.args.setting.now) (g.U.Upstream.table c.loop-alloc.upstream) (g.U.Upstream.table c.args.upstream.now)
          inv.0 (c.in-Ok.ensures.comes before top target from) (inv.1 before top target from on),
    )

pub returns-in-Err-clause-ends : goal.returns-in-Err-clause-ends
returns-in-Err-clause-ends g c = λ before top target from on.
    let inv = c.loop-alloc.invariant in
    let now : Outside = record { held = g.C.Caches.held c.loop-alloc.caches; lasting = g.C.Caches.lasting c.loop-alloc.caches; asked = g.U.Upstream.asked c.loop-alloc.upstream; faults = g.U.Upstream.faults c.loop-alloc.upstream; heard = g.U.Upstream.heard c.loop-alloc.upstream } in
    let next : Outside = record { held = g.C.Caches.held c.turn.new.caches; lasting = g.C.Caches.lasting c.turn.new.caches; asked = g.U.Upstream.asked c.turn.new.upstream; faults = g.U.Upstream.faults c.turn.new.upstream; heard = g.U.Upstream.heard c.turn.new.upstream } in
    carried (λ (w : World) (t : Option Table). IsOn w t before now top target c.loop-alloc.walk (step_view c.loop-alloc.last) from c.loop-alloc.steps)
    (λ (w : World) (t : Option Table). IsStuck w t before next top target from c.turn.new.steps)
    (world_in g.V.Verifier.accepts c.args.setting.now) (g.U.Upstream.table c.loop-alloc.upstream) (g.U.Upstream.table c.args.upstream.now)
    inv.0 (c.in-Err.ensures.comes before top target from) (inv.1 before top target from on)

pub returns-clause-ends : goal.returns-clause-ends
returns-clause-ends g c = λ before top target from on.
    let o = c.loop-alloc.invariant.1 before top target from on in (o.0, o.2 ∙ c.node_of.ensures, o.3, o.4)
