use Rattle.std.specs.Arc.{arc_value}
use Rattle.dsec_node.specs.Views.{bounds_of}
use Rattle.dsec_by_node.proofs.GroundLaws.{told_anyhow, shown_anyhow}
use Rattle.dsec_single.proofs.call.by_end.Goals as goal

pub returns-clause-answer : goal.returns-clause-answer
returns-clause-answer g c =
    told_anyhow g.V.Verifier.accepts c.args.setting.now.anchors.now (bounds_of c.args.setting.now.config.now) c.args.setting.now.moment c.args.group.now
    (arc_value c.args.node.now) c.in_ok-found.found.told.answer c.requires.tells c.in_ok-found.ensures.answer

pub returns-clause-shown : goal.returns-clause-shown
returns-clause-shown g c =
    shown_anyhow g.V.Verifier.accepts c.args.setting.now.anchors.now (bounds_of c.args.setting.now.config.now) c.args.setting.now.moment c.args.group.now
    (arc_value c.args.node.now) c.in_ok-found.found.told c.in_ok-found.ensures.shown
