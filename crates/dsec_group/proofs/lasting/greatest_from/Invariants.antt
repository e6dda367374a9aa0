use Rattle.std.proofs.Common.{◌≡◌, drop}
use Rattle.std.specs.Prelude.{max}
use Rattle.dsec_spec.specs.Lasting.{greatest_ttl}
use Rattle.dsec_group.proofs.lasting.greatest_from.Given as goal

abbrev pub invariant-loop-one : goal.invariant-loop-one
invariant-loop-one l = max l.greatest (greatest_ttl (drop l.one-index l.records)) ≡ max l.seconds (greatest_ttl l.records)
