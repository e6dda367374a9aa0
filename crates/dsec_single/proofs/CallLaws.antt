-- What a call promises where a group is judged at once, or its walk ends.
use Rattle.std.proofs.Common.{◌≡◌, ℕ, ◌+◌, ◌*◌, ◌≤◌, [], ◌++◌, length, Option, Some, None, IfSome, refl, sym, ap, ◌∙◌, subst, arith}
use Rattle.std.specs.List.{sum_by}
use Rattle.dsec_spec.specs.Names.{Place}
use Rattle.dsec_spec.specs.Outside.{Table}
use Rattle.dsec_spec.specs.Groups.{Group}
use Rattle.dsec_nodes.specs.World.{World, Replies, moment}
use Rattle.dsec_nodes.specs.Nodes.{Node}
use Rattle.dsec_nodes.specs.Walk.{node_of}
use Rattle.dsec_nodes.specs.Machine.{started}
use Rattle.dsec_nodes.specs.Likeness.{but_for_times, Alike}
use Rattle.dsec_nodes.specs.InStep.{AskedOf, GotOf, StepIs}
use Rattle.dsec_nodes.specs.Judging.{Judged, by_node, target_of, judged_of}
use Rattle.dsec_course.specs.Course.{Way, at_once, by_walk, way_of}
use Rattle.dsec_course.specs.Hearing.{IsOfTable}
use Rattle.dsec_course.proofs.AgreeingLaws.{target_below}
use Rattle.dsec_course.proofs.GroupLaws.{NeedsWalk, WayIs, way_is, by_its_node}
use Rattle.dsec_lookup.specs.Outside.{Outside, WasHeld, HoldsTable, replies_of}
use Rattle.dsec_lookup.proofs.CountLaws.{counted_none}
use Rattle.dsec_lookup.proofs.HoldingLaws.{more_none, held_of_table, holds_after}
use Rattle.dsec_lookup.proofs.FindingLaws.{stored_none}
use Rattle.dsec_by_node.specs.Answers.{answer_by, Told}
use Rattle.dsec_by_node.specs.WithNode.{IsShownBy}
use Rattle.dsec_single.specs.Trips.{Trip, put_in, first_trip, IsTrip}
use Rattle.dsec_single.specs.Progress.{IsStuck, IsEnded}
use Rattle.dsec_single.specs.Calls.{Tells, TellsAt, ShowsOn, WasJudged, IsWanting, zone_on, zone_for, most_by, AgreesOn, IsSingleCall}
use Rattle.dsec_walk.specs.Checks.{sets_in}
use Rattle.dsec_single.specs.Checked.{IsSingleCallWithin}
use Rattle.dsec_single.proofs.ChecksLaws.{one_more}
use Rattle.dsec_single.proofs.EndLaws.{needs_walk}
use Rattle.dsec_single.proofs.ShownLaws.{shown_alike}
use Rattle.dsec_course.proofs.TraceLaws.{got_of}
use Rattle.dsec_single.proofs.TripLaws.{HoldsTrip}
use Rattle.dsec_single.proofs.ServeLaws.{trip_holds, trip_listed, trip_first}

module _ (w : World) (group : Group) (table : Option Table) (before after : Outside) where
  -- what is told where a walk ends is what the recursion tells by each table of which it is, and shown by the recursion's node
  told_by : (top : Place) (lost : ℕ) (t : Trip) (told : Option Told) (replies : Replies) → NeedsWalk w group top
      → IsTrip w table before after top (target_of group (Some top)) lost t → TellsAt w group t.step told → HoldsTable w replies before.held
      → AskedOf replies t.walk.asked → Tells (answer_by group (moment w) (judged_of w replies group).finding) told × ShowsOn w replies group told (by_walk top)
  told_by top lost t None replies needs s tells h asked = (tt, tt)
  told_by top lost t (Some a) replies needs s (n, e, f, shows) h asked =
      let target : Place = target_of group (Some top) in
      let held : Node → Type 0 = WasHeld w.accepts before.held in
      let holds : HoldsTrip w held top target t = trip_holds w table before after top target lost t s in
      let of : (m : Node) → held m → IsOfTable but_for_times w replies m = held_of_table but_for_times w replies before.held h in
      let got : GotOf but_for_times w replies t.walk.top t.walk.got = got_of but_for_times w replies held t.puts t.walk of (holds.of_table but_for_times replies of asked) holds.given in
      let is : Alike but_for_times (node_of w replies t.walk.top t.walk.target) n = subst (StepIs but_for_times w replies t.walk) e (holds.goes.says but_for_times replies asked got) in
      let there : Alike but_for_times (node_of w replies top target) n = subst (λ (p : Place). Alike but_for_times (node_of w replies p target) n) holds.same_top
      (subst (λ (p : Place). Alike but_for_times (node_of w replies t.walk.top p) n) holds.same_target is) in
      let same : judged_of w replies group ≡ by_node w group n = by_its_node but_for_times w replies group (started top target) n
      (record { has_records = needs.has_records; from_island = needs.from_island; to_signer = refl }) there in
      (f ∙ ap (λ (j : Judged). answer_by group (moment w) j.finding) (sym same), shown_alike w group (node_of w replies top target) n a there shows)

  -- a walk that has come so far
  pub walked_call : (top : Place) (lost : ℕ) (t : Trip) (told : Option Told) (from to : ℕ) → way_of w group ≡ by_walk top
      → IsTrip w table before after top (target_of group (Some top)) lost t → IsWanting told lost → TellsAt w group t.step told
      → to ≤ from + (sum_by sets_in t.walk.asked + 1) * w.bounds.room → IsSingleCallWithin w group table before after told from to
  walked_call top lost t told from to way s wanting tells checks =
      let call : IsSingleCall w group table before after told = record {
        asked = t.walk.asked;
        lost = lost;
        counted = s.counted;
        few = subst (λ (x : Way). length t.walk.asked + lost ≤ most_by group x) (sym way) s.few;
        puts = s.stored;
        holds_more = s.holds_more;
        stores = s.lasts;
        wanting = wanting;
        judged = subst (WasJudged w group (WasHeld w.accepts before.held) before.lasting after.lasting t.walk.asked s.stored told) (sym way) (record {
          inputs = s.inputs;
          given = s.given;
          found = s.found;
          are = ap (λ (x : Trip). x.walk.asked) (sym s.comes_to);
          puts_are = subst (λ (x : Trip). s.stored ++ put_in x.step ≡ x.puts) (sym s.comes_to) (sym s.puts_are);
          tells = subst (λ (x : Trip). TellsAt w group x.step told) (sym s.comes_to) tells;
        });
        agrees = λ replies h asked.
            let target : Place = target_of group (Some top) in
            let of : (m : Node) → WasHeld w.accepts before.held m → IsOfTable but_for_times w replies m = held_of_table but_for_times w replies before.held h in
            let is = told_by top lost t told replies (needs_walk w group top way) s tells h asked in
            record {
              tells = is.0;
              shows = subst (ShowsOn w replies group told) (sym way) is.1;
              holds = holds_after but_for_times w replies before.held after.held s.stored s.holds_more h (λ n there.
                  (trip_holds w table before after top target lost t s).of_table but_for_times replies of asked n
                  (trip_listed w table before after top target lost t s n there));
            };
        stays = λ like replies h asked. holds_after like w replies before.held after.held s.stored s.holds_more h (λ n there.
            (trip_holds w table before after top (target_of group (Some top)) lost t s).of_table like replies (held_of_table like w replies before.held h) asked n
            (trip_listed w table before after top (target_of group (Some top)) lost t s n there));
      } in
      record { call = call; few = checks }

  -- a walk that has come to its end
  pub ended_call : (top : Place) (n : Node) (told : Told) (from reached to : ℕ) → way_of w group ≡ by_walk top
      → IsEnded w table before after top (target_of group (Some top)) n from reached → to ≤ reached + w.bounds.room
      → told.answer ≡ answer_by group (moment w) (by_node w group n).finding → IsShownBy w group n told
      → IsSingleCallWithin w group table before after (Some told) from to
  ended_call top n told from reached to way (t, e, s, few) more f shows =
      walked_call top 0 t (Some told) from to way s refl (n, e, f, shows) (one_more (sum_by sets_in t.walk.asked) w.bounds.room from reached to few more)

  -- or to its end, and there is no memory for what is told
  pub ended_without : (top : Place) (n : Node) (from reached to : ℕ) → way_of w group ≡ by_walk top
      → IsEnded w table before after top (target_of group (Some top)) n from reached → to ≤ reached + w.bounds.room
      → IsSingleCallWithin w group table before after None from to
  ended_without top n from reached to way (t, e, s, few) more =
      walked_call top 0 t None from to way s (omega arith) tt (one_more (sum_by sets_in t.walk.asked) w.bounds.room from reached to few more)

  -- or no further
  pub stuck_call : (top : Place) (from to : ℕ) → way_of w group ≡ by_walk top → IsStuck w table before after top (target_of group (Some top)) from to
      → IsSingleCallWithin w group table before after None from to
  stuck_call top from to way (t, lost, one, s, few) =
      walked_call top lost t None from to way s one tt (one_more (sum_by sets_in t.walk.asked) w.bounds.room from to to few (omega arith))

  -- by a table that is told
  pub told_call : (told : Option Told) → IsSingleCall w group table before after told
      → IfSome table (λ t. HoldsTable w (replies_of t) before.held → AgreesOn w group after told (replies_of t))
  told_call told c = by table c.counted.told
    where
      by : (o : Option Table) → IfSome o (λ t. AskedOf (replies_of t) c.asked)
          → IfSome o (λ t. HoldsTable w (replies_of t) before.held → AgreesOn w group after told (replies_of t))
      by None asked = tt
      by (Some t) asked = λ h. c.agrees (replies_of t) h asked

module _ (w : World) (group : Group) (table : Option Table) (before : Outside) (from : ℕ) where
  -- nothing shows a group that is judged at once
  unshown : (replies : Replies) (j : Judged) (told : Option Told) → IfSome told (λ it. it.shown ≡ None) → ShowsOn w replies group told (at_once j)
  unshown replies j None bare = tt
  unshown replies j (Some told) bare = bare

  -- a group that is judged at once
  pub once_call : (j : Judged) (told : Option Told) → way_of w group ≡ at_once j → IsWanting told 0
      → Tells (answer_by group (moment w) j.finding) told → IfSome told (λ it. it.shown ≡ None) → IsSingleCallWithin w group table before before told from from
  once_call j told way wanting tells bare =
      let once = subst (WayIs w group) way (way_is w group) in
      let call : IsSingleCall w group table before before told = record {
        asked = [];
        lost = 0;
        counted = counted_none table before;
        few = omega arith;
        puts = [];
        holds_more = more_none before.held;
        stores = stored_none before.lasting;
        wanting = wanting;
        judged = subst (WasJudged w group (WasHeld w.accepts before.held) before.lasting before.lasting [] [] told) (sym way) (refl, refl, refl, tells, bare);
        agrees = λ replies h asked. record {
          tells = subst (λ (x : Judged). Tells (answer_by group (moment w) x.finding) told) (sym (once.same replies)) tells;
          shows = subst (ShowsOn w replies group told) (sym way) (unshown replies j told bare);
          holds = h;
        };
        stays = λ like replies h asked. h;
      } in
      record { call = call; few = omega arith }

  -- there is no memory to begin with
  pub unbegun_call : IsSingleCallWithin w group table before before None from from
  unbegun_call = by (way_of w group) refl
    where
      by : (x : Way) → way_of w group ≡ x → IsSingleCallWithin w group table before before None from from
      by (at_once j) e = once_call j None e (omega arith) tt tt
      by (by_walk top) e =
          let needs = needs_walk w group top e in
          let f = target_below w group top needs.from_island in
          walked_call w group table before before top 0 (first_trip w top (target_of group (Some top))) None from from e
          (trip_first w table before top (target_of group (Some top)) f.below f.shorter) (omega arith) tt (omega arith)

module _ (w : World) (group : Group) where
  -- the zone that is to have signed a group
  pub zone_is : (x : Way) → way_of w group ≡ x → zone_for w group ≡ zone_on group x
  zone_is x e = ap (zone_on group) e
