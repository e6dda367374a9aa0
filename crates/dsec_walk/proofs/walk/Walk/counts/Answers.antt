use Rattle.std.proofs.Common.{◌↔◌, subst}
use Rattle.std.specs.Prelude.{IsTrue}
use Rattle.std.proofs.lemmas.Bool.Decides.{same_from_decides}
use Rattle.dsec_spec.specs.Names.{place}
use Rattle.dsec_nodes.specs.Taking.{Taken, counts}
use Rattle.dsec_nodes.specs.Walking.{Walking}
use Rattle.dsec_nodes.specs.World.{Bounds}
use Rattle.dsec_nodes.proofs.TakingLaws.{counts_decides}
use Rattle.dsec_node.specs.Views.{world_of}
use Rattle.dsec_walk.specs.Views.{world_in}
use Rattle.dsec_walk.proofs.walk.Walk.counts.Goals as goal

pub returns : goal.returns
returns g c =
    let accepts = g.V.Verifier.accepts in
    let it = c.args.setting.now in
    let s : Walking = c.args.self.now in
    let name = place c.args.name.now in
    let n = c.args.node.now in
    let w = world_in accepts it in
    let told = subst (λ (b : Bounds). IsTrue c.counts.result ↔ Taken (world_of accepts it.anchors.now b it.moment) (place c.self.inside.top) name n) c.bounds-bounds.ensures c.counts.ensures in
    let h = subst (λ (x : Walking). IsTrue c.counts.result ↔ Taken w x.top name n) c.self.view_is told in
    same_from_decides c.counts.result (counts w s.top name n) h (counts_decides w s.top name n)
