use Rattle.std.proofs.Common.{ap, ◌∙◌}
use Rattle.std.specs.Option.{option_map}
use Rattle.dsec_anchors.specs.Anchors.{told_island}
use Rattle.dsec_spec.specs.Islands.{island}
use Rattle.dsec_spec.specs.Names.{Labels, place}
use Rattle.dsec_found.proofs.TargetSteps.{below_top, told_zone_place, told_zone_is}
use Rattle.dsec_found.proofs.target.target_of.Goals as goal

pub returns-clause-letters : goal.returns-clause-letters
returns-clause-letters c =
    told_zone_is c.args.anchors.now c.args.group.now (option_map (λ top. place top.now) c.island_owner-owner.result) c.in_ok-from.from c.in_ok-zone.zone c.owner.result.now c.owner-2.result.now c.rtype.result c.rtype-2.result
    c.in_ok-zone.ensures c.island_owner-owner.ensures.island c.in_ok-from.ensures c.owner.ensures c.rtype.ensures c.owner-2.ensures c.rtype-2.ensures

pub returns-clause-zone : goal.returns-clause-zone
returns-clause-zone c = ap place (returns-clause-letters c) ∙ told_zone_place c.args.group.now (island c.args.anchors.now (place c.args.group.now.owner) c.args.group.now.rtype)

pub returns-clause-island_letters : goal.returns-clause-island_letters
returns-clause-island_letters c =
    c.in_ok-top.ensures.letters ∙ (c.island_owner-owner.ensures.letters
    ∙ (ap (λ (n : Labels). told_island c.args.anchors.now (place n) c.rtype.result) c.owner.ensures ∙ ap (told_island c.args.anchors.now (place c.args.group.now.owner)) c.rtype.ensures))

pub returns-clause-below : goal.returns-clause-below
returns-clause-below c =
    below_top c.args.anchors.now c.args.group.now c.in_ok-top.top (place c.in_ok-zone.zone)
    (c.in_ok-top.ensures.place ∙ (c.island_owner-owner.ensures.island
    ∙ (ap (λ (n : Labels). island c.args.anchors.now (place n) c.rtype.result) c.owner.ensures ∙ ap (island c.args.anchors.now (place c.args.group.now.owner)) c.rtype.ensures))) (returns-clause-zone c)
