use Rattle.std.proofs.Common.{◌≡◌, arith, sym, ◌∙◌, []}
use Rattle.std.proofs.lemmas.Result.{err_from_is_err_and}
use Rattle.std.proofs.lemmas.List.{nil_from_length}
use Rattle.std.proofs.lemmas.Bool.{eqb-true}
use Rattle.dsec_script.specs.Script.{parts_view}
use Rattle.dsec_script.proofs.ScriptLemmas.{at_first, ends, ends_early, ends_late, goes_on_with, stops_reading}
use Rattle.dsec_script.proofs.script.read_lines.Goals as goal

pub loop-rest-init : goal.loop-rest-init
loop-rest-init c = (at_first (parts_view c.new-parts.result) c.args.text.now c.new-parts.ensures, omega arith)

pub returns-in_err-said : goal.returns-in_err-said
returns-in_err-said c =
    let p = err_from_is_err_and c.from_residual.result c.from_residual.ensures.1 in
    rw (p.1, p.2) (stops_reading (parts_view c.loop-rest.parts) c.loop-rest.number c.loop-rest.place c.in_err-said.field-0.0 c.loop-rest.rest.now _ _ _ c.first_line.ensures.line c.in_err-said.ensures c.loop-rest.invariant.0)

pub loop-rest-preserved : goal.loop-rest-preserved
loop-rest-preserved c = (
  goes_on_with (parts_view c.loop-rest.parts) (parts_view c.add.new.self) c.loop-rest.number c.loop-rest.place c.after-next.result c.in_ok-said.said c.loop-rest.rest.now _ _ _
      c.first_line.ensures.line c.in_ok-said.ensures c.in_ok-add.ensures c.after-next.ensures c.loop-rest.invariant.0,
  omega (arith, c.loop-rest.invariant.1, c.first_line.ensures.shorter),
)

pub returns-in-Start : goal.returns-in-Start
returns-in-Start c =
    let none : c.loop-rest.rest.now ≡ [] = nil_from_length _ (eqb-true _ _ (sym c.loop-rest-test.ensures)) in
    ends_early (parts_view c.loop-rest.parts) c.loop-rest.number c.loop-rest.place c.loop-rest.rest.now _ c.refused.result none c.in-Start.is c.refused.ensures c.loop-rest.invariant.0

pub returns-in-Head : goal.returns-in-Head
returns-in-Head c =
    let none : c.loop-rest.rest.now ≡ [] = nil_from_length _ (eqb-true _ _ (sym c.loop-rest-test.ensures)) in
    ends (parts_view c.loop-rest.parts) c.loop-rest.number c.loop-rest.place c.loop-rest.rest.now _ none c.loop-rest.invariant.0 ∙ ends_late (parts_view c.loop-rest.parts) c.loop-rest.number c.loop-rest.place c.in-Head.is
