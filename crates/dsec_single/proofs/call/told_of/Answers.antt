use Rattle.std.proofs.Common.{◌≡◌, sym, ap, ◌∙◌}
use Rattle.std.specs.Option.{option_map}
use Rattle.dsec_spec.specs.Names.{place}
use Rattle.dsec_nodes.specs.Judging.{target_of}
use Rattle.dsec_walk.specs.Views.{world_in}
use Rattle.dsec_found.specs.Letters.{told_zone_for}
use Rattle.dsec_found.proofs.LetterLaws.{told_without_records, told_with_records}
use Rattle.dsec_by_node.proofs.GroundLaws.{if_ok}
use Rattle.dsec_single.proofs.WayLaws.{none_of, some_of, way_by_walk}
use Rattle.dsec_single.proofs.CallLaws.{unbegun_call}
use Rattle.dsec_single.proofs.ClosingLaws.{told_without_set, told_without_island, zone_without_set, zone_without_island}
use Rattle.dsec_single.proofs.call.told_of.Goals as goal

pub returns-in_default-clause-checks : goal.returns-in_default-clause-checks
returns-in_default-clause-checks g c =
    unbegun_call (world_in g.V.Verifier.accepts c.args.setting.now) c.args.group.now (g.U.Upstream.table c.args.upstream.now)
    (record { held = g.C.Caches.held c.args.caches.now; lasting = g.C.Caches.lasting c.args.caches.now; asked = g.U.Upstream.asked c.args.upstream.now; faults = g.U.Upstream.faults c.args.upstream.now; heard = g.U.Upstream.heard c.args.upstream.now }) c.args.steps.now

pub returns-then-is_empty-clause-checks : goal.returns-then-is_empty-clause-checks
returns-then-is_empty-clause-checks g c =
    (told_without_set (world_in g.V.Verifier.accepts c.args.setting.now) c.args.group.now (g.U.Upstream.table c.args.upstream.now)
    (record { held = g.C.Caches.held c.args.caches.now; lasting = g.C.Caches.lasting c.args.caches.now; asked = g.U.Upstream.asked c.args.upstream.now; faults = g.U.Upstream.faults c.args.upstream.now; heard = g.U.Upstream.heard c.args.upstream.now }) c.args.steps.now (place c.without_set.result.target) c.without_set.result.told
    (none_of c.rr_set.result.now c.args.group.now.records c.if-is_empty.ensures c.rr_set.ensures.records) c.without_set.ensures.told).checks

pub returns-then-is_empty-clause-sound : goal.returns-then-is_empty-clause-sound
returns-then-is_empty-clause-sound g c =
    (told_without_set (world_in g.V.Verifier.accepts c.args.setting.now) c.args.group.now (g.U.Upstream.table c.args.upstream.now)
    (record { held = g.C.Caches.held c.args.caches.now; lasting = g.C.Caches.lasting c.args.caches.now; asked = g.U.Upstream.asked c.args.upstream.now; faults = g.U.Upstream.faults c.args.upstream.now; heard = g.U.Upstream.heard c.args.upstream.now }) c.args.steps.now (place c.without_set.result.target) c.without_set.result.told
    (none_of c.rr_set.result.now c.args.group.now.records c.if-is_empty.ensures c.rr_set.ensures.records) c.without_set.ensures.told).sound

pub returns-then-is_empty-clause-justified : goal.returns-then-is_empty-clause-justified
returns-then-is_empty-clause-justified g c =
    (told_without_set (world_in g.V.Verifier.accepts c.args.setting.now) c.args.group.now (g.U.Upstream.table c.args.upstream.now)
    (record { held = g.C.Caches.held c.args.caches.now; lasting = g.C.Caches.lasting c.args.caches.now; asked = g.U.Upstream.asked c.args.upstream.now; faults = g.U.Upstream.faults c.args.upstream.now; heard = g.U.Upstream.heard c.args.upstream.now }) c.args.steps.now (place c.without_set.result.target) c.without_set.result.told
    (none_of c.rr_set.result.now c.args.group.now.records c.if-is_empty.ensures c.rr_set.ensures.records) c.without_set.ensures.told).justified

pub returns-then-is_empty-clause-target : goal.returns-then-is_empty-clause-target
returns-then-is_empty-clause-target g c =
    c.without_set.ensures.target ∙ zone_without_set (world_in g.V.Verifier.accepts c.args.setting.now) c.args.group.now
    (none_of c.rr_set.result.now c.args.group.now.records c.if-is_empty.ensures c.rr_set.ensures.records)

pub walked-requires-clause-has_records : goal.walked-requires-clause-has_records
walked-requires-clause-has_records g c =
    (some_of c.rr_set.result.now c.args.group.now.records c.if-is_empty.ensures c.rr_set.ensures.records)

pub walked-requires-clause-way : goal.walked-requires-clause-way
walked-requires-clause-way g c =
    way_by_walk (world_in g.V.Verifier.accepts c.args.setting.now) c.args.group.now (place c.in-Some.top) (some_of c.rr_set.result.now c.args.group.now.records c.if-is_empty.ensures c.rr_set.ensures.records)
    (sym c.in-Ok.ensures.island ∙ ap (option_map place) c.in-Some.is)

pub returns-in-None-clause-checks : goal.returns-in-None-clause-checks
returns-in-None-clause-checks g c =
    (told_without_island (world_in g.V.Verifier.accepts c.args.setting.now) c.args.group.now (g.U.Upstream.table c.args.upstream.now)
    (record { held = g.C.Caches.held c.args.caches.now; lasting = g.C.Caches.lasting c.args.caches.now; asked = g.U.Upstream.asked c.args.upstream.now; faults = g.U.Upstream.faults c.args.upstream.now; heard = g.U.Upstream.heard c.args.upstream.now }) c.args.steps.now (place c.without_island.result.target) c.without_island.result.told
    (some_of c.rr_set.result.now c.args.group.now.records c.if-is_empty.ensures c.rr_set.ensures.records) (sym c.in-Ok.ensures.island ∙ ap (option_map place) c.in-None.is) c.without_island.ensures.told).checks

pub returns-in-None-clause-sound : goal.returns-in-None-clause-sound
returns-in-None-clause-sound g c =
    (told_without_island (world_in g.V.Verifier.accepts c.args.setting.now) c.args.group.now (g.U.Upstream.table c.args.upstream.now)
    (record { held = g.C.Caches.held c.args.caches.now; lasting = g.C.Caches.lasting c.args.caches.now; asked = g.U.Upstream.asked c.args.upstream.now; faults = g.U.Upstream.faults c.args.upstream.now; heard = g.U.Upstream.heard c.args.upstream.now }) c.args.steps.now (place c.without_island.result.target) c.without_island.result.told
    (some_of c.rr_set.result.now c.args.group.now.records c.if-is_empty.ensures c.rr_set.ensures.records) (sym c.in-Ok.ensures.island ∙ ap (option_map place) c.in-None.is) c.without_island.ensures.told).sound

pub returns-in-None-clause-justified : goal.returns-in-None-clause-justified
returns-in-None-clause-justified g c =
    (told_without_island (world_in g.V.Verifier.accepts c.args.setting.now) c.args.group.now (g.U.Upstream.table c.args.upstream.now)
    (record { held = g.C.Caches.held c.args.caches.now; lasting = g.C.Caches.lasting c.args.caches.now; asked = g.U.Upstream.asked c.args.upstream.now; faults = g.U.Upstream.faults c.args.upstream.now; heard = g.U.Upstream.heard c.args.upstream.now }) c.args.steps.now (place c.without_island.result.target) c.without_island.result.told
    (some_of c.rr_set.result.now c.args.group.now.records c.if-is_empty.ensures c.rr_set.ensures.records) (sym c.in-Ok.ensures.island ∙ ap (option_map place) c.in-None.is) c.without_island.ensures.told).justified

pub returns-in-None-clause-target : goal.returns-in-None-clause-target
returns-in-None-clause-target g c =
    ap place c.without_island.ensures.target ∙ (c.in-Ok.ensures.zone ∙ (ap (target_of c.args.group.now) (sym c.in-Ok.ensures.island ∙ ap (option_map place) c.in-None.is)
    ∙ zone_without_island (world_in g.V.Verifier.accepts c.args.setting.now) c.args.group.now
    (some_of c.rr_set.result.now c.args.group.now.records c.if-is_empty.ensures c.rr_set.ensures.records) (sym c.in-Ok.ensures.island ∙ ap (option_map place) c.in-None.is)))

pub returns-then-is_empty-clause-letters : goal.returns-then-is_empty-clause-letters
returns-then-is_empty-clause-letters g c =
    c.without_set.ensures.letters ∙ told_without_records c.args.setting.now.anchors.now c.args.group.now
    (none_of c.rr_set.result.now c.args.group.now.records c.if-is_empty.ensures c.rr_set.ensures.records)

pub returns-in-Some-clause-letters : goal.returns-in-Some-clause-letters
returns-in-Some-clause-letters g c =
    if_ok _ (λ it. it.target ≡ told_zone_for c.args.setting.now.anchors.now c.args.group.now) c.walked.result
    (λ it e. e ∙ (c.in-Ok.ensures.letters ∙ told_with_records c.args.setting.now.anchors.now c.args.group.now
    (some_of c.rr_set.result.now c.args.group.now.records c.if-is_empty.ensures c.rr_set.ensures.records))) c.walked.ensures.letters

pub returns-in-None-clause-letters : goal.returns-in-None-clause-letters
returns-in-None-clause-letters g c =
    c.without_island.ensures.target ∙ (c.in-Ok.ensures.letters ∙ told_with_records c.args.setting.now.anchors.now c.args.group.now
    (some_of c.rr_set.result.now c.args.group.now.records c.if-is_empty.ensures c.rr_set.ensures.records))
