use Rattle.std.proofs.Common.{◌≡◌, drop}
use Rattle.dsec_group.specs.Spans.{least_from}
use Rattle.dsec_group.proofs.lasting.least_of.Given as goal

abbrev pub invariant-loop-one : goal.invariant-loop-one
invariant-loop-one l = least_from l.least (drop l.one-index l.others) ≡ least_from l.initial.least l.others
