-- A call by other limits, or from no anchor in common, leaves all that is held of a table.
use Rattle.std.proofs.Common.{◌≡◌, List, Option, Some, refl, subst}
use Rattle.std.specs.Prelude.{Contains}
use Rattle.dsec_spec.specs.Names.{Place}
use Rattle.dsec_spec.specs.Outside.{Table}
use Rattle.dsec_spec.specs.Groups.{Group}
use Rattle.dsec_spec.proofs.Members.{in_front, not_in_none}
use Rattle.dsec_nodes.specs.World.{World, Replies}
use Rattle.dsec_nodes.specs.Nodes.{Node}
use Rattle.dsec_nodes.specs.Machine.{Question as Asked}
use Rattle.dsec_nodes.specs.Likeness.{Likeness}
use Rattle.dsec_nodes.specs.Judging.{target_of}
use Rattle.dsec_course.specs.Course.{Way, at_once, by_walk, way_of}
use Rattle.dsec_course.specs.Hearing.{CountsAt}
use Rattle.dsec_course.proofs.AgreeingLaws.{target_below}
use Rattle.dsec_lookup.specs.Outside.{Outside, WasHeld, HoldsAlike, AreApart}
use Rattle.dsec_node.specs.Caches.{Lasting}
use Rattle.dsec_lookup.proofs.HoldingLaws.{apart_holds}
use Rattle.dsec_by_node.specs.Answers.{Told}
use Rattle.dsec_single.specs.Trips.{put_in, first_trip, after_given}
use Rattle.dsec_single.specs.Calls.{WasJudged, IsSingleCall}
use Rattle.dsec_single.proofs.EndLaws.{needs_walk}
use Rattle.dsec_single.proofs.TripLaws.{given_holds, trip_begins}

-- what a group's walk has put counts where it was judged
judged_counting : (w : World) (group : Group) (table : Option Table) (before : Outside) (first last : Option Lasting) (asked : List Asked) (puts : List Node) (told : Option Told) (x : Way)
    → way_of w group ≡ x → WasJudged w group (WasHeld w.accepts before.held) first last asked puts told x → (n : Node) → Contains puts n
    → (top : Place) × CountsAt w n top
judged_counting w group table before first last asked puts told (at_once j) e h n there = absurd (not_in_none n (subst (λ (ns : List Node). Contains ns n) h.1 there))
judged_counting w group table before first last asked puts told (by_walk top) e h n there =
    let target : Place = target_of group (Some top) in
    let held : Node → Type 0 = WasHeld w.accepts before.held in
    let below = target_below w group top (needs_walk w group top e).from_island in
    (given_holds w held top target h.inputs (first_trip w top target) (λ m x. x.0) (trip_begins w held top target (λ m x. x.0) below.below below.shorter) h.given).counting n
    (subst (λ (ns : List Node). Contains ns n) h.puts_are (in_front n puts (put_in (after_given w (first_trip w top target) h.inputs).step) there))

-- What such a call puts may not count here, so that nothing is asked of it
pub single_apart : (like : Likeness) (w u : World) (replies : Replies) (group : Group) (table : Option Table) (before after : Outside) (told : Option Told)
    → AreApart w u → IsSingleCall u group table before after told → HoldsAlike like w replies before.held → HoldsAlike like w replies after.held
single_apart like w u replies group table before after told apart c =
    apart_holds like w u replies before.held after.held c.puts apart c.holds_more (judged_counting u group table before before.lasting after.lasting c.asked c.puts told (way_of u group) refl c.judged)
