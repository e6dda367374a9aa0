use Rattle.std.proofs.Common.{◌+◌, ◌-◌, ap, ◌∙◌, length, refl, ℕ, Option, Ok, subst}
use Rattle.std.proofs.lemmas.Result.{err_from_is_err_and}
use Rattle.dsec_zonefile.specs.Places.{IsSized, Steps, before_in, behind_record, led, reader_at}
use Rattle.dsec_zonefile.specs.declared.entry.Entry.{Entry}
use Rattle.dsec_zonefile.specs.declared.step.Ahead.{Ahead}
use Rattle.dsec_zonefile.proofs.NextEntry.{finds_end, finds_entry, finds_error, goes_on, within_next}
use Rattle.dsec_zonefile.proofs.place.find.Goals as goal

pub returns-in_err-step-clause-found : goal.returns-in_err-step-clause-found
returns-in_err-step-clause-found c =
    let p = err_from_is_err_and c.from_residual.result c.from_residual.ensures.1 in
    rw (p.1, p.2) (finds_error c.in_err-step.field-0.0 c.args.text.now c.args.start.now (led c.args.start.now c.loop-way.way) c.in_err-step.ensures.exact c.loop-way.invariant.1)

pub returns-in-Some-clause-found : goal.returns-in-Some-clause-found
returns-in-Some-clause-found c =
    let text = c.args.text.now in
    let place = led c.args.start.now c.loop-way.way in
    let next = led c.args.start.now c.in_ok-next-in-Step.next in
    let says = subst (λ (it : Ahead). Steps (reader_at text place) (Ok it)) c.in-Step.is c.in_ok-step.ensures.exact in
    let there = c.in_ok-next-in-Step.ensures.place ∙ ap (λ (it : Option Entry). behind_record next (before_in it)) c.in-Some.is in
    finds_entry text c.args.start.now place _ c.in-Step.step c.in_ok-next-in-Step.entry c.in-Some.entry says there c.in_ok-next-in-Step.ensures.entry c.in-Some.is c.loop-way.invariant.1

pub loop-way-preserved : goal.loop-way-preserved
loop-way-preserved c =
    let text = c.args.text.now in
    let place = led c.args.start.now c.loop-way.way in
    let next = led c.args.start.now c.in_ok-next-in-Step.next in
    let says = subst (λ (it : Ahead). Steps (reader_at text place) (Ok it)) c.in-Step.is c.in_ok-step.ensures.exact in
    let sized = subst (IsSized (length text - place.at)) c.in-Step.is c.in_ok-step.ensures.sized in
    let there = c.in_ok-next-in-Step.ensures.place ∙ ap (λ (it : Option Entry). behind_record next (before_in it)) c.in_default.is in (
      within_next text place next c.in-Step.step sized there c.loop-way.invariant.0,
      goes_on text c.args.start.now place next c.in-Step.step c.in_ok-next-in-Step.entry says there c.in_ok-next-in-Step.ensures.entry c.in_default.is c.loop-way.invariant.1,
    )

pub returns-in-End-clause-found : goal.returns-in-End-clause-found
returns-in-End-clause-found c =
    let text = c.args.text.now in
    let place = led c.args.start.now c.loop-way.way in
    let says = subst (λ (it : Ahead). Steps (reader_at text place) (Ok it)) c.in-End.is c.in_ok-step.ensures.exact in
    finds_end text c.args.start.now place _ _ says.0 refl (ap (λ (n : ℕ). place.lines + n) says.1) c.loop-way.invariant.1
