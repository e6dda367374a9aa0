use Rattle.std.proofs.Common.{◌+◌, ap, sym, ◌∙◌, subst, arith, ℕ, List}
use Rattle.dsec_text.specs.Finding.{IsSized, PassesLine}
use Rattle.dsec_text.specs.Lines.{begins_with_blank}
use Rattle.dsec_text.proofs.SpanLemmas.{HasNoWord, found_line, found_later}
use Rattle.dsec_text.proofs.TokenLemmas.{none_left, some_left}
use Rattle.dsec_text.proofs.line.first_line.Goals as goal

pub returns-then-not-is_empty-clause-found : goal.returns-then-not-is_empty-clause-found
returns-then-not-is_empty-clause-found c =
    let passed = subst (PassesLine c.loop-rest.rest.now) c.in-Some.is c.in_ok-passed.ensures.passed in
    let sized = subst (IsSized c.loop-rest.rest.now) c.in-Some.is c.in_ok-passed.ensures.sized in
    let begins = c.begins_with_blank.ensures ∙ ap begins_with_blank c.split_at.ensures.front in
    let some = some_left _ c.if-not-is_empty.true c.is_empty-in-loop-rest.ensures in
    let has = c.in-Some.passed.words.ok in
    found_line c.args.text.now c.loop-rest.rest.now c.loop-rest.start c.loop-rest.before c.in-Some.passed c.begins_with_blank.result c.loop-rest.invariant passed
    (omega (arith, some, has)) sized.1 begins

pub loop-rest-preserved : goal.loop-rest-preserved
loop-rest-preserved c =
    let passed = subst (PassesLine c.loop-rest.rest.now) c.in-Some.is c.in_ok-passed.ensures.passed in
    let sized = subst (IsSized c.loop-rest.rest.now) c.in-Some.is c.in_ok-passed.ensures.sized in
    let none = none_left _ c.if-not-is_empty.false c.is_empty-in-loop-rest.ensures in
    let has = c.in-Some.passed.words.ok in
    let later = found_later c.args.text.now c.loop-rest.rest.now c.loop-rest.start c.loop-rest.before c.in-Some.passed c.loop-rest.invariant passed
    (omega (arith, none, has)) sized.1 sized.2 in
    subst (λ (after : List ℕ). HasNoWord c.args.text.now after (c.loop-rest.start + c.in-Some.passed.octets) (c.loop-rest.before + c.in-Some.passed.line_ends)) (sym c.split_at.ensures.back) later
