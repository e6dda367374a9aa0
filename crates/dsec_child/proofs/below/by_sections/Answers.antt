use Rattle.std.proofs.Common.{◌≡◌, [], Some, sym, ap, ◌∙◌, subst, Bor}
use Rattle.std.specs.Option.{option_map}
use Rattle.dsec_spec.specs.Groups.{Group}
use Rattle.dsec_spec.specs.Names.{place}
use Rattle.dsec_nodes.specs.ByDs.{by_ds_set, without_ds}
use Rattle.dsec_node.specs.Views.{bounds_of, world_of}
use Rattle.dsec_child.specs.Belows.{or_below}
use Rattle.dsec_child.proofs.below.by_sections.Goals as goal

pub returns-in-Some-found-clause-below : goal.returns-in-Some-found-clause-below
returns-in-Some-found-clause-below g c =
    let a = c.args in
    let w = world_of g.V.Verifier.accepts [] (bounds_of a.config.now) a.now in
    let name = place a.name.now in
    let first = sym (ap (option_map (λ (b : Bor Group). b.now)) c.in-Some.is) ∙ c.set_at.ensures.first in
    subst (λ o. or_below o (without_ds w a.zone.now a.keys.now name a.answers.now a.authorities.now) ≡ by_ds_set w a.zone.now a.keys.now name a.answers.now a.authorities.now (Some c.in-Some.group.now)) c.in-Some-found.is
    (c.in_ok-found.ensures.below a.answers.now a.authorities.now)
    ∙ ap (by_ds_set w a.zone.now a.keys.now name a.answers.now a.authorities.now) first
