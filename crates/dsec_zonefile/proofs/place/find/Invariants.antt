use Rattle.std.proofs.Common.{length, ◌-◌}
use Rattle.dsec_zonefile.specs.Places.{IsWithin, led}
use Rattle.dsec_zonefile.proofs.NextEntry.{Leads}
use Rattle.dsec_zonefile.proofs.place.find.Given as goal

abbrev pub invariant-loop-way : goal.invariant-loop-way
invariant-loop-way l = IsWithin l.text (led l.start l.way) × Leads l.text l.start (led l.start l.way)

abbrev pub decreases-loop-way : goal.decreases-loop-way
decreases-loop-way l = length l.text - l.way.at
