use Rattle.std.proofs.Common.{arith}
use Rattle.dsec_script.specs.Text.{is_blank}
use Rattle.dsec_spec.proofs.CutLaws.{cut_first, cut_nowhere}
use Rattle.dsec_script.proofs.text.cut_word.Goals as goal

pub returns-in-Some : goal.returns-in-Some
returns-in-Some c =
    let found = c.in-Some.ensures in
    rw (c.split_at.ensures.front, c.split_at.ensures.back)
    (cut_first is_blank c.in-Some.at c.args.line.now found.0.high (λ k h e. found.0.before k (omega arith) h e) found.1)

pub returns-in-None : goal.returns-in-None
returns-in-None c = cut_nowhere is_blank c.args.line.now (λ k h e. c.in-None.ensures k (omega arith) h e)
