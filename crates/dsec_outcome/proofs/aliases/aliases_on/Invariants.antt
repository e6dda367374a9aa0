use Rattle.std.proofs.Common.{◌≡◌, take}
use Rattle.dsec_outcome.specs.Aliases.{aliases_at}
use Rattle.dsec_outcome.proofs.aliases.aliases_on.Given as goal

abbrev pub invariant-loop-step : goal.invariant-loop-step
invariant-loop-step g l = l.aliases.items ≡ aliases_at l.answers (take l.step-index l.steps)
