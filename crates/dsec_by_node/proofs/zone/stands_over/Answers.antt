use Rattle.std.proofs.Common.{true, false, sym, ap, ◌∙◌}
use Rattle.dsec_spec.specs.Names.{Labels, place, is_below, is_strictly_below}
use Rattle.dsec_by_node.proofs.DsLaws.{over_test}
use Rattle.dsec_by_node.proofs.zone.stands_over.Goals as goal

pub returns-then-is_ds_below_root : goal.returns-then-is_ds_below_root
returns-then-is_ds_below_root c =
    c.is_strictly_below.ensures ∙ (ap (λ (o : Labels). is_strictly_below (place o) (place c.args.name.now)) c.owner.ensures
    ∙ over_test (place c.args.group.now.owner) (place c.args.name.now) c.args.group.now.rtype true (sym c.is_ds_below_root.ensures ∙ c.if-is_ds_below_root.true))

pub returns-else-is_ds_below_root : goal.returns-else-is_ds_below_root
returns-else-is_ds_below_root c =
    c.is_below.ensures ∙ (ap (λ (o : Labels). is_below (place o) (place c.args.name.now)) c.owner-else-is_ds_below_root.ensures
    ∙ over_test (place c.args.group.now.owner) (place c.args.name.now) c.args.group.now.rtype false (sym c.is_ds_below_root.ensures ∙ c.if-is_ds_below_root.false))
