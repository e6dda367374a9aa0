use Rattle.std.proofs.Common.{sym, ap, ◌∙◌, Some}
use Rattle.std.specs.Arc.{arc_value}
use Rattle.std.specs.Option.{option_map}
use Rattle.dsec_spec.specs.Names.{place}
use Rattle.dsec_node.specs.Caches.{Owned, held_in}
use Rattle.dsec_node.proofs.CacheLaws.{got}
use Rattle.dsec_node.proofs.caches.OwnedCaches.look_up.Goals as goal

pub returns-in-None : goal.returns-in-None
returns-in-None g c =
    sym (ap (λ entries. held_in entries (place c.args.name.now)) (sym (ap (λ (o : Owned). o.nodes) c.self.view_is))
    ∙ (got (λ a. arc_value a) c.args.name.now c.self.inside.nodes.entries ∙ ap (option_map (λ a. arc_value a)) (sym c.in-None.ensures.value)))

pub returns-in_ok-try_clone-in-Some : goal.returns-in_ok-try_clone-in-Some
returns-in_ok-try_clone-in-Some g c =
    ap Some c.in_ok-try_clone-in-Some.ensures
    ∙ (ap (option_map (λ a. arc_value a)) c.in-Some.ensures.value
    ∙ (sym (got (λ a. arc_value a) c.args.name.now c.self.inside.nodes.entries) ∙ ap (λ entries. held_in entries (place c.args.name.now)) (ap (λ (o : Owned). o.nodes) c.self.view_is)))
