use Rattle.std.proofs.Common.{◌≡◌, ◌-◌}
use Rattle.dsec_spec.specs.Messages.{first_opt}
use Rattle.dsec_message.proofs.opt.first_opt.Given as goal

abbrev pub invariant-loop : goal.invariant-loop
invariant-loop l = first_opt l.message (l.count - l.counter) l.at ≡ first_opt l.message l.count l.start
