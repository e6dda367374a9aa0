use Rattle.std.proofs.Common.{sym, ◌∙◌}
use Rattle.std.proofs.lemmas.Bool.{eqb-true, eqb-false}
use Rattle.dsec_message.proofs.SectionReading.{opt_unreadable, opt_found, opt_goes_on, opt_missing}
use Rattle.dsec_message.proofs.opt.first_opt.Goals as goal

pub returns-then-eq : goal.returns-then-eq
returns-then-eq c =
    sym (opt_found c.args.message.now c.args.count c.loop.counter c.loop.at (c.in-Ok.record, c.in-Ok.after) _ c.loop-test.true c.in-Ok.ensures.exact (sym c.rtype.ensures ∙ eqb-true _ _ (sym c.eq.ensures ∙ c.if-eq.true)) c.loop.invariant)

pub returns-in-Err-ParseError : goal.returns-in-Err-ParseError
returns-in-Err-ParseError c = sym (opt_unreadable c.args.message.now c.args.count c.loop.counter c.loop.at _ c.loop-test.true (rw c.in-Err-ParseError.field-0-is at c.in-Err-ParseError.ensures.exact) c.loop.invariant)

pub loop-preserved : goal.loop-preserved
loop-preserved c =
    opt_goes_on c.args.message.now c.args.count c.loop.counter c.loop.at (c.in-Ok.record, c.in-Ok.after) _ c.loop-test.true c.in-Ok.ensures.exact (λ e. eqb-false _ _ (sym c.eq.ensures ∙ c.if-eq.false) (c.rtype.ensures ∙ e)) c.loop.invariant

pub returns : goal.returns
returns c = sym (opt_missing c.args.message.now c.args.count c.loop.counter c.loop.at _ c.loop-test.false c.loop.invariant)
