use Rattle.std.proofs.Common.{◌∙◌}
use Rattle.dsec_nodes.specs.World.{on_circle}
use Rattle.dsec_core.proofs.BoundedSteps.{any_so}
use Rattle.dsec_core.proofs.bounds.any_changed.Goals as goal

pub returns : goal.returns
returns g c = c.one_changed.ensures ∙ any_so (on_circle c.args.moment) c.args.groups.now
