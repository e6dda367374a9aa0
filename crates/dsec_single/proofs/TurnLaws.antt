-- One step of a walk in code: it leads on, or there was no memory.
use Rattle.std.proofs.Common.{◌≡◌, ◌<◌, ◌≤◌, ℕ, ◌+◌, ◌*◌, Option, Result, Ok, Err, IfOk, sym, ap, ◌∙◌, arith}
use Rattle.dsec_spec.specs.Names.{Place, IsAtOrBelow}
use Rattle.dsec_spec.specs.Outside.{Table}
use Rattle.dsec_nodes.specs.World.{World}
use Rattle.dsec_nodes.specs.Machine as machine
use Rattle.dsec_nodes.specs.Machine.{Walking, Input, advanced, begin, started}
use Rattle.dsec_course.specs.Ending.{steps_ahead}
use Rattle.dsec_walk.specs.declared.steps.Step.{Step}
use Rattle.dsec_walk.specs.Checks.{most_checked_by}
use Rattle.dsec_walk.specs.Views.{step_view}
use Rattle.dsec_walk.proofs.UnderWayLaws.{begins_so, shorter_so}
use Rattle.dsec_lookup.specs.Outside.{Outside}
use Rattle.dsec_single.specs.Trips.{first_trip, IsTrip}
use Rattle.dsec_single.specs.Progress.{IsWalkServed, IsOn, IsStuck}
use Rattle.dsec_single.specs.Turns.{ComesOn}
use Rattle.dsec_single.proofs.StepLaws.{on_goes, on_nearer, on_stuck}
use Rattle.dsec_single.proofs.ServeLaws.{trip_first}

module _ {V E : Type 0} (w : World) (table : Option Table) (before now next : Outside) (top target : Place) (s r : Walking) (x : machine.Step) (i : Input)
    (from reached : ℕ) (on : IsOn w table before now top target s x from reached) (served : IsWalkServed w.accepts table now next x i) where
  -- a step that was served
  pub turned : (to : ℕ) (result : Result (Step V) E) → IfOk result (λ z. (r, step_view z) ≡ advanced w s i)
      → to ≤ reached + most_checked_by i s.phase s.reached * w.bounds.room → ComesOn w table before next top target r from to result
  turned to (Ok z) e more = on_goes w table before now next top target s x from reached on i served to more r (step_view z) e
  turned to (Err e) h more = on_stuck w table before now next top target s x from reached on i served to more

  -- is nearer to the end
  pub turned_nearer : (result : Result (Step V) E) → IfOk result (λ z. (r, step_view z) ≡ advanced w s i) → IfOk result (λ z. steps_ahead r < steps_ahead s)
  turned_nearer (Ok z) e = on_nearer w table before now next top target s x from reached on i served r (step_view z) e
  turned_nearer (Err e) h = tt

-- a walk sets out, for which nothing was checked
module _ (w : World) (table : Option Table) (before : Outside) (top target : Place) (below : IsAtOrBelow target top) (from to : ℕ) (none : to ≤ from) where
  first : IsTrip w table before before top target 0 (first_trip w top target)
  first = trip_first w table before top target (begins_so target top below) (shorter_so target top below)

  pub set_out : (s r : Walking) (x : machine.Step) → s ≡ started top target → (r, x) ≡ advanced w s begin
      → IsOn w table before before top target r x from to
  set_out s r x is e =
      let same : advanced w (started top target) begin ≡ (r, x) = ap (λ (q : Walking). advanced w q begin) (sym is) ∙ sym e in
      (first_trip w top target, ap (λ (p : Walking × machine.Step). p.0) same, ap (λ (p : Walking × machine.Step). p.1) same, first, omega (arith, none))

  -- or there is no memory to begin with
  pub not_set_out : IsStuck w table before before top target from to
  not_set_out = (first_trip w top target, 0, omega arith, first, omega (arith, none))
