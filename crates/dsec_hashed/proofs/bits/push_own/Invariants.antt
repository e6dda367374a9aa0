use Rattle.std.proofs.Common.{◌≡◌, ◌++◌, take}
use Rattle.dsec_hashed.specs.HashedTypes.{own_types}
use Rattle.dsec_hashed.proofs.bits.push_own.Given as goal

abbrev pub invariant-loop-one : goal.invariant-loop-one
invariant-loop-one l = l.types.items ≡ l.fn.types.items ++ own_types l.is_cut (take l.one-index l.records)
