use Rattle.std.proofs.Common.{drop, map}
use Rattle.dsec_chain.specs.Views.{owner_view}
use Rattle.dsec_chain.proofs.Chained.{GoesOn}
use Rattle.dsec_chain.proofs.nsec.nsec_records.Given as goal

abbrev pub invariant-loop-i : goal.invariant-loop-i
invariant-loop-i l = GoesOn l.apex l.class l.ttl (map owner_view l.owners) (map owner_view (drop l.i l.owners)) l.nsecs.items
