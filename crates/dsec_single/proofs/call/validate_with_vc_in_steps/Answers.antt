use Rattle.std.proofs.Common.{◌≡◌, List, IfOk, subst}
use Rattle.dsec_spec.specs.Names.{place}
use Rattle.dsec_spec.specs.Records.{Record}
use Rattle.dsec_node.specs.Views.{bounds_of, world_of}
use Rattle.dsec_found.specs.Letters.{told_zone_for}
use Rattle.dsec_single.specs.Calls.{answered, zone_for}
use Rattle.dsec_single.specs.Checked.{IsSingleCallWithin}
use Rattle.dsec_single.specs.Sound.{IsSoundOn}
use Rattle.dsec_single.proofs.CallLaws.{told_call}
use Rattle.dsec_single.proofs.ChecksLaws.{heard_within}
use Rattle.dsec_single.proofs.call.validate_with_vc_in_steps.Goals as goal

pub returns-clause-checks : goal.returns-clause-checks
returns-clause-checks g c =
    subst (λ (listed : List Record). IsSingleCallWithin (world_of g.V.Verifier.accepts listed (bounds_of c.args.config.now) c.args.now) c.args.group.now (g.U.Upstream.table c.args.upstream.now)
    (record { held = g.C.Caches.held c.args.caches.now; lasting = g.C.Caches.lasting c.args.caches.now; asked = g.U.Upstream.asked c.args.upstream.now; faults = g.U.Upstream.faults c.args.upstream.now; heard = g.U.Upstream.heard c.args.upstream.now })
    (record { held = g.C.Caches.held c.told_of.new.caches; lasting = g.C.Caches.lasting c.told_of.new.caches; asked = g.U.Upstream.asked c.told_of.new.upstream; faults = g.U.Upstream.faults c.told_of.new.upstream; heard = g.U.Upstream.heard c.told_of.new.upstream })
    (answered c.told_of.result (λ it. it.told)) c.args.steps.now c.told_of.new.steps) c.as_slice.ensures c.told_of.ensures.checks

pub returns-clause-call : goal.returns-clause-call
returns-clause-call g c = (returns-clause-checks g c).call

pub returns-clause-heard : goal.returns-clause-heard
returns-clause-heard g c =
    heard_within (world_of g.V.Verifier.accepts c.args.anchors.now (bounds_of c.args.config.now) c.args.now) c.args.group.now (g.U.Upstream.table c.args.upstream.now)
    (record { held = g.C.Caches.held c.args.caches.now; lasting = g.C.Caches.lasting c.args.caches.now; asked = g.U.Upstream.asked c.args.upstream.now; faults = g.U.Upstream.faults c.args.upstream.now; heard = g.U.Upstream.heard c.args.upstream.now })
    (record { held = g.C.Caches.held c.told_of.new.caches; lasting = g.C.Caches.lasting c.told_of.new.caches; asked = g.U.Upstream.asked c.told_of.new.upstream; faults = g.U.Upstream.faults c.told_of.new.upstream; heard = g.U.Upstream.heard c.told_of.new.upstream })
    (answered c.told_of.result (λ it. it.told)) c.args.steps.now c.told_of.new.steps (returns-clause-checks g c)

pub returns-clause-target : goal.returns-clause-target
returns-clause-target g c =
    subst (λ (listed : List Record). IfOk c.told_of.result (λ it. place it.target ≡ zone_for (world_of g.V.Verifier.accepts listed (bounds_of c.args.config.now) c.args.now) c.args.group.now))
    c.as_slice.ensures c.told_of.ensures.target

pub returns-clause-letters : goal.returns-clause-letters
returns-clause-letters g c =
    subst (λ (listed : List Record). IfOk c.told_of.result (λ it. it.target ≡ told_zone_for listed c.args.group.now)) c.as_slice.ensures c.told_of.ensures.letters

pub returns-clause-sound : goal.returns-clause-sound
returns-clause-sound g c =
    subst (λ (listed : List Record). IfOk c.told_of.result (λ it. IsSoundOn (world_of g.V.Verifier.accepts listed (bounds_of c.args.config.now) c.args.now) c.args.group.now (place it.target) it.told))
    c.as_slice.ensures c.told_of.ensures.sound

pub returns-clause-told : goal.returns-clause-told
returns-clause-told g c =
    told_call (world_of g.V.Verifier.accepts c.args.anchors.now (bounds_of c.args.config.now) c.args.now) c.args.group.now (g.U.Upstream.table c.args.upstream.now)
    (record { held = g.C.Caches.held c.args.caches.now; lasting = g.C.Caches.lasting c.args.caches.now; asked = g.U.Upstream.asked c.args.upstream.now; faults = g.U.Upstream.faults c.args.upstream.now; heard = g.U.Upstream.heard c.args.upstream.now })
    (record { held = g.C.Caches.held c.told_of.new.caches; lasting = g.C.Caches.lasting c.told_of.new.caches; asked = g.U.Upstream.asked c.told_of.new.upstream; faults = g.U.Upstream.faults c.told_of.new.upstream; heard = g.U.Upstream.heard c.told_of.new.upstream })
    (answered c.told_of.result (λ it. it.told)) (returns-clause-checks g c).call
