use Rattle.std.proofs.Common.{◌≡◌, take}
use Rattle.dsec_rewrite.specs.Writing.{with_additionals}
use Rattle.dsec_rewrite.proofs.writing.push_additionals.Given as goal

abbrev pub invariant-loop-one : goal.invariant-loop-one
invariant-loop-one l = l.builder ≡ with_additionals l.fn.builder (take l.one-index l.additionals)
