use Rattle.std.proofs.Common.{◌-◌, arith, sym, ◌∙◌, ap, length, Some}
use Rattle.dsec_spec.specs.Names.{Labels, place, is_below}
use Rattle.dsec_spec.specs.Islands.{looked_for_at}
use Rattle.std.specs.Option.{option_map}
use Rattle.dsec_anchors.specs.Anchors.{longer_name}
use Rattle.dsec_anchors.proofs.IslandSteps.{one_longer, one_skipped, none_yet, island_place, island_first, placed}
use Rattle.dsec_anchors.proofs.island.island_owner.Goals as goal

pub loop-index-init : goal.loop-index-init
loop-index-init c = (none_yet c.args.anchors.now (looked_for_at (place c.args.name.now) c.args.rtype) (length c.args.anchors.now) (omega arith), omega arith)

pub loop-index-preserved-then-is_over_sets : goal.loop-index-preserved-then-is_over_sets
loop-index-preserved-then-is_over_sets c =
    let some = c.loop-index-test.true in
    let within = c.loop-index.invariant.1 in
    let yes_below = ap (λ (n : Labels). is_below (looked_for_at (place c.args.name.now) c.args.rtype) (place n)) (sym c.owner-owner.ensures) ∙ (sym c.is_over_sets.ensures ∙ c.if-is_over_sets.true) in
    let named = ap (λ (n : Labels). longer_name n (option_map (λ owner. owner.now) c.loop-index.best)) c.owner-owner.ensures in (
      ap (λ (n : Labels). Some n) (c.longer.ensures ∙ named)
          ∙ one_longer c.args.anchors.now (looked_for_at (place c.args.name.now) c.args.rtype) (c.loop-index.index - 1) c.loop-index.index c.index-anchors-index.result _ (omega (arith, some)) (omega (arith, some, within))
          c.index-anchors-index.is yes_below c.loop-index.invariant.0,
      omega (arith, within),
    )

pub loop-index-preserved : goal.loop-index-preserved
loop-index-preserved c =
    let some = c.loop-index-test.true in
    let within = c.loop-index.invariant.1 in
    let not_below = ap (λ (n : Labels). is_below (looked_for_at (place c.args.name.now) c.args.rtype) (place n)) (sym c.owner-owner.ensures) ∙ (sym c.is_over_sets.ensures ∙ c.if-is_over_sets.false) in (
      one_skipped c.args.anchors.now (looked_for_at (place c.args.name.now) c.args.rtype) (c.loop-index.index - 1) c.loop-index.index c.index-anchors-index.result _ (omega (arith, some)) (omega (arith, some, within))
          c.index-anchors-index.is not_below c.loop-index.invariant.0,
      omega (arith, within),
    )

pub returns-clause-island : goal.returns-clause-island
returns-clause-island c =
    let end = c.loop-index-test.false in
    placed (λ owner. owner.now) c.loop-index.best
    ∙ island_place c.args.anchors.now (place c.args.name.now) c.args.rtype c.loop-index.index (option_map (λ owner. owner.now) c.loop-index.best) (omega (arith, end)) c.loop-index.invariant.0

pub returns-clause-letters : goal.returns-clause-letters
returns-clause-letters c =
    let end = c.loop-index-test.false in
    island_first c.args.anchors.now (place c.args.name.now) c.args.rtype c.loop-index.index (option_map (λ owner. owner.now) c.loop-index.best) (omega (arith, end)) c.loop-index.invariant.0
