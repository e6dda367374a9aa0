use Rattle.std.proofs.Common.{◌≡◌, ◌++◌, take}
use Rattle.dsec_group.proofs.group.push_copies.Given as goal

abbrev pub invariant-loop-one : goal.invariant-loop-one
invariant-loop-one l = l.extra.items ≡ l.fn.extra.items ++ take l.one-index l.records
