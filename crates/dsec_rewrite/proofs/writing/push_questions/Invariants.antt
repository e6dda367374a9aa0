use Rattle.std.proofs.Common.{◌≡◌, take}
use Rattle.dsec_rewrite.specs.Writing.{with_questions}
use Rattle.dsec_rewrite.proofs.writing.push_questions.Given as goal

abbrev pub invariant-loop-one : goal.invariant-loop-one
invariant-loop-one l = l.builder ≡ with_questions l.fn.builder (take l.one-index l.questions)
