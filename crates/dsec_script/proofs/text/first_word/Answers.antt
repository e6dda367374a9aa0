use Rattle.std.proofs.Common.{length, arith, sym, ◌<◌, ◌≤◌}
use Rattle.std.proofs.lemmas.Bool.{eqb-true, eqb-false}
use Rattle.dsec_script.proofs.TextLemmas.{first_cut, no_first, no_word, word_found}
use Rattle.dsec_script.proofs.text.first_word.Goals as goal

pub returns-then-is_empty-clause-words : goal.returns-then-is_empty-clause-words
returns-then-is_empty-clause-words c =
    let l : length c.without_blanks-rest.result.now ≤ 0 = omega (arith, eqb-true _ _ (sym c.if-is_empty.ensures)) in
    no_word c.args.line.now c.without_blanks-rest.result.now c.without_blanks-rest.ensures l

pub returns-then-is_empty-clause-cut : goal.returns-then-is_empty-clause-cut
returns-then-is_empty-clause-cut c =
    let l : length c.without_blanks-rest.result.now ≤ 0 = omega (arith, eqb-true _ _ (sym c.if-is_empty.ensures)) in
    no_first c.args.line.now c.without_blanks-rest.result.now c.without_blanks-rest.ensures l

pub returns-clause-words : goal.returns-clause-words
returns-clause-words c =
    let l : 0 < length c.without_blanks-rest.result.now = omega (arith, eqb-false _ _ (sym c.if-is_empty.ensures)) in
    word_found c.args.line.now c.without_blanks-rest.result.now _ _ c.without_blanks-rest.ensures l c.cut_word.ensures

pub returns-clause-cut : goal.returns-clause-cut
returns-clause-cut c =
    let l : 0 < length c.without_blanks-rest.result.now = omega (arith, eqb-false _ _ (sym c.if-is_empty.ensures)) in
    first_cut c.args.line.now c.without_blanks-rest.result.now _ _ c.without_blanks-rest.ensures l c.cut_word.ensures
