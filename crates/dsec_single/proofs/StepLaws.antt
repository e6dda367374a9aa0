-- One step of a walk leads on, or the call ends.
use Rattle.std.proofs.Common.{◌≡◌, ◌<◌, ◌≤◌, ℕ, ◌+◌, ◌*◌, List, Option, sym, ap, ◌∙◌, subst, arith}
use Rattle.std.specs.List.{sum_by}
use Rattle.dsec_spec.specs.Names.{Place}
use Rattle.dsec_spec.specs.Outside.{Table, risen}
use Rattle.dsec_nodes.specs.World.{World}
use Rattle.dsec_nodes.specs.Machine.{Question as Asked, Walking, Step, node_get, node_put, ask, done, Input, begin, node, stored, reply, Answers, advanced}
use Rattle.dsec_course.specs.Ending.{steps_ahead}
use Rattle.dsec_course.proofs.EndingLaws.{walk_nearer}
use Rattle.dsec_course.proofs.WalkSteps.{WalkAwaits}
use Rattle.dsec_walk.specs.Checks.{most_checked_by, sets_in}
use Rattle.dsec_walk.proofs.CheckLaws.{spent}
use Rattle.dsec_walk.specs.UnderWay.{IsUnderWay}
use Rattle.dsec_lookup.specs.Outside.{Outside, WasHeld}
use Rattle.dsec_single.specs.Trips.{Trip, trip_on, IsTrip}
use Rattle.dsec_single.specs.Progress.{IsAsking, IsWalkServed, AreFew, IsOn, IsStuck}
use Rattle.dsec_single.proofs.ChecksLaws.{walk_sets}
use Rattle.dsec_single.proofs.ServeLaws.{asked_is, trip_holds, trip_gets, trip_puts, trip_hears, trip_lost}

module _ (w : World) (table : Option Table) (before now next : Outside) (top target : Place) where
  -- what serves a step answers what is waited for
  served_answers : (s : Walking) (x : Step) (i : Input) → WalkAwaits x s → IsWalkServed w.accepts table now next x i → Answers s.phase i
  served_answers s (node_get name) (node o) a y = a o
  served_answers s (node_put name n) stored a y = a
  served_answers s (ask name rtype) (reply octets) a y = a.0 octets
  served_answers s (node_get name) begin a y = absurd y
  served_answers s (node_get name) stored a y = absurd y
  served_answers s (node_get name) (reply octets) a y = absurd y
  served_answers s (node_put name n) begin a y = absurd y
  served_answers s (node_put name n) (node o) a y = absurd y
  served_answers s (node_put name n) (reply octets) a y = absurd y
  served_answers s (ask name rtype) begin a y = absurd y
  served_answers s (ask name rtype) (node o) a y = absurd y
  served_answers s (ask name rtype) stored a y = absurd y
  served_answers s (done n) i a y = absurd y

  -- a step that is served takes a walk on
  served_on : (t : Trip) → IsTrip w table before now top target 0 t → (x : Step) (i : Input) → t.step ≡ x → IsWalkServed w.accepts table now next x i
      → IsTrip w table before next top target 0 (trip_on w t i)
  served_on t s (node_get name) (node o) e y = trip_gets w table before now next top target t s name o e y
  served_on t s (node_put name n) stored e y = trip_puts w table before now next top target t s name n e y
  served_on t s (ask name rtype) (reply octets) e y = trip_hears w table before now next top target t s name rtype octets e y
  served_on t s (node_get name) begin e y = absurd y
  served_on t s (node_get name) stored e y = absurd y
  served_on t s (node_get name) (reply octets) e y = absurd y
  served_on t s (node_put name n) begin e y = absurd y
  served_on t s (node_put name n) (node o) e y = absurd y
  served_on t s (node_put name n) (reply octets) e y = absurd y
  served_on t s (ask name rtype) begin e y = absurd y
  served_on t s (ask name rtype) (node o) e y = absurd y
  served_on t s (ask name rtype) stored e y = absurd y
  served_on t s (done n) i e y = absurd y

  -- and no more sets are checked for it than are more in what was asked
  few_on : (t : Trip) → IsTrip w table before now top target 0 t → (i : Input) (from reached to : ℕ) → Answers t.walk.phase i → AreFew w t.walk from reached
      → to ≤ reached + most_checked_by i t.walk.phase t.walk.reached * w.bounds.room → AreFew w (trip_on w t i).walk from to
  few_on t h i from reached to a few more =
      let asked = ap (λ (qs : List Asked). sum_by sets_in qs)
      (asked_is w (WasHeld w.accepts before.held) top target t i (trip_holds w table before now top target 0 t h) a) in
      spent (most_checked_by i t.walk.phase t.walk.reached) (sum_by sets_in t.walk.asked) (sum_by sets_in (trip_on w t i).walk.asked) w.bounds.room
      from reached to (omega (arith, asked, walk_sets t.walk i)) few more

  module _ (s : Walking) (x : Step) (from reached : ℕ) (on : IsOn w table before now top target s x from reached) where
    -- a walk that has come to a step is sound and can be taken on
    pub on_under_way : IsUnderWay w s
    on_under_way = subst (IsUnderWay w) on.1 (trip_holds w table before now top target 0 on.0 on.3).under_way

    module _ (i : Input) (served : IsWalkServed w.accepts table now next x i) where
      its_answers : Answers on.0.walk.phase i
      its_answers =
          let awaits = (trip_holds w table before now top target 0 on.0 on.3).awaits in
          served_answers on.0.walk x i (subst (λ (z : Step). WalkAwaits z on.0.walk) on.2 awaits) served

      -- it waits for what serves it
      pub on_answers : Answers s.phase i
      on_answers = subst (λ (z : Walking). Answers z.phase i) on.1 its_answers

      -- nearer to its end
      pub on_nearer : (r : Walking) (z : Step) → (r, z) ≡ advanced w s i → steps_ahead r < steps_ahead s
      on_nearer r z e =
          subst (λ (q : Walking). steps_ahead q < steps_ahead s) (ap (λ (p : Walking × Step). p.0) (sym e)) (walk_nearer w s i on_under_way.is_sound on_answers)

      module _ (to : ℕ) (more : to ≤ reached + most_checked_by i s.phase s.reached * w.bounds.room) where
        its_few : AreFew w (trip_on w on.0 i).walk from to
        its_few = few_on on.0 on.3 i from reached to its_answers on.4
            (subst (λ (z : Walking). to ≤ reached + most_checked_by i z.phase z.reached * w.bounds.room) (sym on.1) more)

        -- and it goes on
        pub on_goes : (r : Walking) (z : Step) → (r, z) ≡ advanced w s i → IsOn w table before next top target r z from to
        on_goes r z e =
            let same : advanced w on.0.walk i ≡ (r, z) = ap (λ (q : Walking). advanced w q i) on.1 ∙ sym e in
            (trip_on w on.0 i, ap (λ (p : Walking × Step). p.0) same, ap (λ (p : Walking × Step). p.1) same, served_on on.0 on.3 x i on.2 served, its_few)

        -- where there is no memory for the next step
        pub on_stuck : IsStuck w table before next top target from to
        on_stuck = (trip_on w on.0 i, 0, omega arith, served_on on.0 on.3 x i on.2 served, its_few)

  -- where a question finds no memory
  pub on_lost : (s : Walking) (x : Step) (from reached : ℕ) → IsOn w table before now top target s x from reached → IsAsking x → next.held ≡ now.held
      → next.lasting ≡ now.lasting → next.asked ≡ risen now.asked → next.faults ≡ now.faults → next.heard ≡ now.heard → IsStuck w table before next top target from reached
  on_lost s (ask name rtype) from reached (t, at, its, h, few) asking same lasts a f heard =
      (t, 1, omega arith, trip_lost w table before now next top target t h name rtype its same lasts a f heard, few)
  on_lost s (node_get name) from reached on asking same lasts a f heard = absurd asking
  on_lost s (node_put name n) from reached on asking same lasts a f heard = absurd asking
  on_lost s (done n) from reached on asking same lasts a f heard = absurd asking

-- what follows by one world and table follows by the same
pub carried : (P Q : World → Option Table → Type 0) (w : World) (s t : Option Table) → s ≡ t → (P w s → Q w s) → P w t → Q w t
carried P Q w s t f h p = subst (Q w) f (h (subst (P w) (sym f) p))
