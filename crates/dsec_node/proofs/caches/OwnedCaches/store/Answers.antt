use Rattle.std.proofs.Common.{ap, ◌∙◌}
use Rattle.std.specs.Arc.{arc_value}
use Rattle.dsec_spec.specs.Names.{place}
use Rattle.dsec_node.specs.Caches.{Owned, held_in, with_node}
use Rattle.dsec_node.proofs.CacheLaws.{put, seen}
use Rattle.dsec_node.proofs.caches.OwnedCaches.store.Goals as goal

pub returns-clause-ok : goal.returns-clause-ok
returns-clause-ok g c = λ p.
    ap (λ entries. held_in (seen (λ a. arc_value a) entries) p) c.in_ok-insert.ensures.entries
    ∙ (put (λ a. arc_value a) c.args.name c.args.node p c.self.inside.nodes.entries
    ∙ ap (λ entries. with_node (held_in entries) (place c.args.name) (arc_value c.args.node) p) (ap (λ (o : Owned). o.nodes) c.self.view_is))
