use Rattle.std.proofs.Common.{ap, sym, ◌∙◌}
use Rattle.std.proofs.Math.Bool.{not}
use Rattle.dsec_script.specs.Text.{is_no_blank}
use Rattle.dsec_spec.proofs.CutLaws.{Cut, cut_found, cut_none, cut_on}
use Rattle.dsec_script.proofs.text.without_blanks.Goals as goal

pub returns-then-not-is_blank : goal.returns-then-not-is_blank
returns-then-not-is_blank c =
    c.split_at.ensures.back ∙ ap (λ (cut : Cut). cut.1) (cut_found is_no_blank c.loop-at.at c.args.line.now c.loop-at-test.true (ap not (sym c.is_blank.ensures ∙ c.if-not-is_blank.true)) c.loop-at.invariant)

pub loop-at-preserved : goal.loop-at-preserved
loop-at-preserved c = cut_on is_no_blank c.loop-at.at c.args.line.now c.loop-at-test.true (ap not (sym c.is_blank.ensures ∙ c.if-not-is_blank.false)) c.loop-at.invariant

pub returns : goal.returns
returns c = ap (λ (cut : Cut). cut.1) (cut_none is_no_blank c.loop-at.at c.args.line.now c.loop-at-test.false c.loop-at.invariant)
