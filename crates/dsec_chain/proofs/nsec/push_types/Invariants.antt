use Rattle.std.proofs.Common.{◌≡◌, ◌++◌, take, map}
use Rattle.std.specs.Prelude.{filter}
use Rattle.dsec_spec.specs.ZonesOfRecords.{is_own}
use Rattle.dsec_chain.proofs.nsec.push_types.Given as goal

abbrev pub invariant-loop-one : goal.invariant-loop-one
invariant-loop-one l = l.types.items ≡ l.fn.types.items ++ map (λ r. r.rtype) (filter (is_own l.owner.is_cut) (take l.one-index l.owner.records.now))
