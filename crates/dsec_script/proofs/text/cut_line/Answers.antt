use Rattle.std.proofs.Common.{arith}
use Rattle.dsec_script.specs.Text.{is_line_end}
use Rattle.dsec_spec.proofs.CutLaws.{cut_first, cut_nowhere}
use Rattle.dsec_script.proofs.text.cut_line.Goals as goal

pub returns-in-Some : goal.returns-in-Some
returns-in-Some c =
    let found = c.in-Some.ensures in
    rw (c.split_at.ensures.front, c.split_at.ensures.back)
    (cut_first is_line_end c.in-Some.at c.args.text.now found.0.high (λ k h e. found.0.before k (omega arith) h e) found.1)

pub returns-in-None : goal.returns-in-None
returns-in-None c = cut_nowhere is_line_end c.args.text.now (λ k h e. c.in-None.ensures k (omega arith) h e)
