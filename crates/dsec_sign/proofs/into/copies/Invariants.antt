use Rattle.std.proofs.Common.{◌≡◌, take}
use Rattle.dsec_sign.proofs.into.copies.Given as goal

abbrev pub invariant-loop-one : goal.invariant-loop-one
invariant-loop-one l = l.all.items ≡ take l.one-index l.records
