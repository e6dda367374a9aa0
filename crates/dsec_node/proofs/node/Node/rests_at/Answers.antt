use Rattle.std.proofs.Common.{sym, ap, ◌∙◌}
use Rattle.std.specs.Option.{option_map}
use Rattle.dsec_spec.specs.Names.{place}
use Rattle.dsec_node.proofs.CountingLaws.{has_anchor, has_none}
use Rattle.dsec_node.proofs.node.Node.rests_at.Goals as goal

pub returns-in-Some : goal.returns-in-Some
returns-in-Some g c =
    has_anchor c.is_at.result c.args.anchors.now (place c.args.top.now) c.args.self.now c.in-Some.anchor.now (sym (ap (option_map (λ one. one.now)) c.in-Some.is) ∙ c.anchor.ensures) c.is_at.ensures

pub returns-in-None : goal.returns-in-None
returns-in-None g c = has_none c.args.anchors.now (place c.args.top.now) c.args.self.now (sym (ap (option_map (λ one. one.now)) c.in-None.is) ∙ c.anchor.ensures)
