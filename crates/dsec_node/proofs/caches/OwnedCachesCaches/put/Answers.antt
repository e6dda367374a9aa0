use Rattle.std.specs.Arc.{arc_value}
use Rattle.dsec_spec.specs.Names.{place}
use Rattle.dsec_node.proofs.CacheLaws.{adds_put}
use Rattle.dsec_node.proofs.caches.OwnedCachesCaches.put.Goals as goal

pub returns-in-Ok-clause-adds : goal.returns-in-Ok-clause-adds
returns-in-Ok-clause-adds g c =
    adds_put c.args.self.now.nodes c.hold.new.self.nodes (place c.args.name) (arc_value c.args.node.now) c.in-Ok.ensures.ok
