use Rattle.std.proofs.Common.{ap, drop, ◌∙◌}
use Rattle.std.proofs.lemmas.List.{drop-drop}
use Rattle.dsec_link.proofs.bytes.encloser.Goals as goal

pub loop-preserved : goal.loop-preserved
loop-preserved c = c.in_ok-name-2.ensures ∙ ap (drop 1) c.loop.invariant ∙ drop-drop 1 c.loop.counter c.args.owner.now
