use Rattle.std.proofs.Common.{◌≡◌, take}
use Rattle.dsec_outcome.specs.Aliases.{denials_at}
use Rattle.dsec_outcome.proofs.aliases.denials_on.Given as goal

abbrev pub invariant-loop-step : goal.invariant-loop-step
invariant-loop-step g l = l.beside.items ≡ denials_at l.authorities (take l.step-index l.steps)
