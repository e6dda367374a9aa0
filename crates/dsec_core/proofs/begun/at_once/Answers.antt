use Rattle.std.proofs.Common.{None, sym, ap, ◌∙◌, subst}
use Rattle.dsec_spec.specs.Names.{place}
use Rattle.dsec_nodes.specs.Judging.{Judged}
use Rattle.dsec_nodes.specs.Walk.{node_of}
use Rattle.dsec_nodes.specs.World.{Replies}
use Rattle.dsec_node.specs.Views.{bounds_of}
use Rattle.dsec_course.specs.Course.{at_once}
use Rattle.dsec_found.specs.Begun.{BeginsAs}
use Rattle.dsec_walk.specs.Views.{world_in}
use Rattle.dsec_core.proofs.WaySteps.{once_no_node, once_way}
use Rattle.dsec_core.proofs.begun.at_once.Goals as goal

pub unreachable-requires : goal.unreachable-requires
unreachable-requires g c =
    let it = c.args.setting.now in
    let w = world_in g.V.Verifier.accepts it in
    let replies : Replies = λ name rtype. None in
    let b = subst (BeginsAs w replies c.args.group) c.in-Walk.is (c.in_ok-judged.ensures (bounds_of it.config.now) it.moment replies) in
    once_no_node w c.args.group replies (node_of w replies (place c.in-Walk.field-1) (place c.in-Walk.field-2)) c.requires b.by_its_node

pub returns : goal.returns
returns g c =
    let it = c.args.setting.now in
    let w = world_in g.V.Verifier.accepts it in
    let replies : Replies = λ name rtype. None in
    let b = subst (BeginsAs w replies c.args.group) c.in-Judged.is (c.in_ok-judged.ensures (bounds_of it.config.now) it.moment replies) in
    once_way w c.args.group replies c.requires ∙ ap (λ (j : Judged). at_once j) (sym b)
