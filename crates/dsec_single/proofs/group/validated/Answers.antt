use Rattle.std.proofs.Common.{Some, ap, ◌∙◌}
use Rattle.dsec_spec.specs.Names.{place}
use Rattle.dsec_node.specs.Views.{bounds_of, world_of}
use Rattle.dsec_validated.specs.Validated.{Validated}
use Rattle.dsec_by_node.specs.Answers.{told_in}
use Rattle.dsec_single.specs.Calls.{zone_for}
use Rattle.dsec_single.proofs.CallLaws.{told_call, unbegun_call}
use Rattle.dsec_single.proofs.ClosingLaws.{its_group, zone_kept, call_kept, sound_kept, can_of_copy}
use Rattle.dsec_single.proofs.group.validated.Goals as goal

pub returns-in_default-clause-call : goal.returns-in_default-clause-call
returns-in_default-clause-call g c =
    (unbegun_call (world_of g.V.Verifier.accepts c.args.anchors.now (bounds_of c.args.config.now) c.args.now) c.args.group.now (g.U.Upstream.table c.args.upstream.now)
    (record { held = g.C.Caches.held c.args.caches.now; lasting = g.C.Caches.lasting c.args.caches.now; asked = g.U.Upstream.asked c.args.upstream.now; faults = g.U.Upstream.faults c.args.upstream.now; heard = g.U.Upstream.heard c.args.upstream.now }) 0).call

pub into_validated-requires : goal.into_validated-requires
into_validated-requires g c =
    can_of_copy g.V.Verifier.accepts c.in-Ok.own c.args.group.now (place c.in-Ok-validate_with_vc.found.target) c.in-Ok-validate_with_vc.found.told c.in-Ok.ensures c.in-Ok-validate_with_vc.ensures.justified

pub returns-in-Ok-validate_with_vc-clause-group : goal.returns-in-Ok-validate_with_vc-clause-group
returns-in-Ok-validate_with_vc-clause-group g c = its_group c.into_validated.result c.in-Ok.own c.args.group.now c.in-Ok-validate_with_vc.found.target c.in-Ok-validate_with_vc.found.told c.into_validated.ensures c.in-Ok.ensures

pub returns-in-Ok-validate_with_vc-clause-call : goal.returns-in-Ok-validate_with_vc-clause-call
returns-in-Ok-validate_with_vc-clause-call g c = call_kept c.into_validated.result c.in-Ok.own c.args.group.now c.in-Ok-validate_with_vc.found.target c.in-Ok-validate_with_vc.found.told c.into_validated.ensures c.in-Ok.ensures
    (world_of g.V.Verifier.accepts c.args.anchors.now (bounds_of c.args.config.now) c.args.now) (g.U.Upstream.table c.args.upstream.now)
    (record { held = g.C.Caches.held c.args.caches.now; lasting = g.C.Caches.lasting c.args.caches.now; asked = g.U.Upstream.asked c.args.upstream.now; faults = g.U.Upstream.faults c.args.upstream.now; heard = g.U.Upstream.heard c.args.upstream.now })
    (record { held = g.C.Caches.held c.validate_with_vc.new.caches; lasting = g.C.Caches.lasting c.validate_with_vc.new.caches; asked = g.U.Upstream.asked c.validate_with_vc.new.upstream; faults = g.U.Upstream.faults c.validate_with_vc.new.upstream; heard = g.U.Upstream.heard c.validate_with_vc.new.upstream })
    c.in-Ok-validate_with_vc.ensures.call

pub returns-in-Ok-validate_with_vc-clause-signer : goal.returns-in-Ok-validate_with_vc-clause-signer
returns-in-Ok-validate_with_vc-clause-signer g c = zone_kept c.into_validated.result c.in-Ok.own c.args.group.now c.in-Ok-validate_with_vc.found.target c.in-Ok-validate_with_vc.found.told c.into_validated.ensures c.in-Ok.ensures
    (zone_for (world_of g.V.Verifier.accepts c.args.anchors.now (bounds_of c.args.config.now) c.args.now) c.args.group.now) c.in-Ok-validate_with_vc.ensures.target

pub returns-in-Ok-validate_with_vc-clause-letters : goal.returns-in-Ok-validate_with_vc-clause-letters
returns-in-Ok-validate_with_vc-clause-letters g c = ap (λ (v : Validated). v.signer) c.into_validated.ensures ∙ c.in-Ok-validate_with_vc.ensures.letters

pub returns-in-Ok-validate_with_vc-clause-sound : goal.returns-in-Ok-validate_with_vc-clause-sound
returns-in-Ok-validate_with_vc-clause-sound g c = sound_kept c.into_validated.result c.in-Ok.own c.args.group.now c.in-Ok-validate_with_vc.found.target c.in-Ok-validate_with_vc.found.told c.into_validated.ensures c.in-Ok.ensures
    (world_of g.V.Verifier.accepts c.args.anchors.now (bounds_of c.args.config.now) c.args.now) c.in-Ok-validate_with_vc.ensures.sound

pub returns-in-Ok-validate_with_vc-clause-told : goal.returns-in-Ok-validate_with_vc-clause-told
returns-in-Ok-validate_with_vc-clause-told g c =
    told_call (world_of g.V.Verifier.accepts c.args.anchors.now (bounds_of c.args.config.now) c.args.now) c.args.group.now (g.U.Upstream.table c.args.upstream.now)
    (record { held = g.C.Caches.held c.args.caches.now; lasting = g.C.Caches.lasting c.args.caches.now; asked = g.U.Upstream.asked c.args.upstream.now; faults = g.U.Upstream.faults c.args.upstream.now; heard = g.U.Upstream.heard c.args.upstream.now })
    (record { held = g.C.Caches.held c.validate_with_vc.new.caches; lasting = g.C.Caches.lasting c.validate_with_vc.new.caches; asked = g.U.Upstream.asked c.validate_with_vc.new.upstream; faults = g.U.Upstream.faults c.validate_with_vc.new.upstream; heard = g.U.Upstream.heard c.validate_with_vc.new.upstream })
    (Some (told_in c.into_validated.result))
    (call_kept c.into_validated.result c.in-Ok.own c.args.group.now c.in-Ok-validate_with_vc.found.target c.in-Ok-validate_with_vc.found.told c.into_validated.ensures c.in-Ok.ensures
    (world_of g.V.Verifier.accepts c.args.anchors.now (bounds_of c.args.config.now) c.args.now) (g.U.Upstream.table c.args.upstream.now)
    (record { held = g.C.Caches.held c.args.caches.now; lasting = g.C.Caches.lasting c.args.caches.now; asked = g.U.Upstream.asked c.args.upstream.now; faults = g.U.Upstream.faults c.args.upstream.now; heard = g.U.Upstream.heard c.args.upstream.now })
    (record { held = g.C.Caches.held c.validate_with_vc.new.caches; lasting = g.C.Caches.lasting c.validate_with_vc.new.caches; asked = g.U.Upstream.asked c.validate_with_vc.new.upstream; faults = g.U.Upstream.faults c.validate_with_vc.new.upstream; heard = g.U.Upstream.heard c.validate_with_vc.new.upstream })
    c.in-Ok-validate_with_vc.ensures.call)
