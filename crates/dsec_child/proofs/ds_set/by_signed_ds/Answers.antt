use Rattle.std.proofs.Common.{[], sym, ap, ◌∙◌}
use Rattle.dsec_spec.specs.Names.{place}
use Rattle.dsec_nodes.specs.ByDs.{made, asks}
use Rattle.dsec_node.specs.Views.{bounds_of, world_of}
use Rattle.dsec_child.proofs.BelowSteps.{by_unusable, by_usable, unsupported_kept, usable_in}
use Rattle.dsec_child.proofs.ds_set.by_signed_ds.Goals as goal

pub returns-then-has_usable : goal.returns-then-has_usable
returns-then-has_usable g c = λ p pair.
    let a = c.args in
    let w = world_of g.V.Verifier.accepts [] (bounds_of a.config.now) a.now in
    let some = sym (usable_in (place a.name.now) a.group.now c.rr_set.result.now c.requires.at c.rr_set.ensures.records c.rr_set.ensures.typed) ∙ (sym c.has_usable.ensures ∙ c.if-has_usable.true) in
    ap (λ it. asks it) (c.in_ok-it.ensures p pair) ∙ by_usable w a.zone.now a.keys.now (place a.name.now) a.group.now p some

pub insecure-requires-clause-kept : goal.insecure-requires-clause-kept
insecure-requires-clause-kept g c =
    let a = c.args in
    let w = world_of g.V.Verifier.accepts [] (bounds_of a.config.now) a.now in
    let none = sym (usable_in (place a.name.now) a.group.now c.rr_set.result.now c.requires.at c.rr_set.ensures.records c.rr_set.ensures.typed) ∙ (sym c.has_usable.ensures ∙ c.if-has_usable.false) in
    let it = c.requires.signed in (
      it.0,
      it.2,
      unsupported_kept w a.zone.now a.keys.now (place a.name.now) a.group.now it.0 c.requires.above c.requires.at it.1 it.3 none,
    )

pub returns : goal.returns
returns g c = λ p pair.
    let a = c.args in
    let w = world_of g.V.Verifier.accepts [] (bounds_of a.config.now) a.now in
    let none = sym (usable_in (place a.name.now) a.group.now c.rr_set.result.now c.requires.at c.rr_set.ensures.records c.rr_set.ensures.typed) ∙ (sym c.has_usable.ensures ∙ c.if-has_usable.false) in
    ap (λ n. made n) (c.in_ok-node.ensures p pair) ∙ by_unusable w a.zone.now a.keys.now (place a.name.now) a.group.now p none
