-- The node with which a walk for a group ends: it tells something of the group, and what is found by it is so.
use Rattle.std.proofs.Common.{◌≡◌, ℕ, ◌+◌, ◌≤◌, ◌&&◌, Bool, true, List, length, Option, Some, None, sym, ap, ◌∙◌, subst}
use Rattle.std.specs.Prelude.{nat_le}
use Rattle.std.proofs.lemmas.Bool.{le-leb}
use Rattle.dsec_spec.specs.Names.{Place, place, IsAtOrBelow}
use Rattle.dsec_spec.specs.Groups.{Group}
use Rattle.dsec_spec.specs.Islands.{looked_for_at, island}
use Rattle.dsec_spec.specs.Outside.{Table}
use Rattle.dsec_spec.proofs.IslandLemmas.{island_is, one_looked_for}
use Rattle.dsec_spec.proofs.NamesBelow.{below_trans}
use Rattle.dsec_spec.proofs.SignedTests.{below_decides}
use Rattle.dsec_nodes.specs.World.{World}
use Rattle.dsec_nodes.specs.Nodes.{Node, apex, Kept}
use Rattle.dsec_nodes.specs.Walk.{Reached, goes_on_at}
use Rattle.dsec_nodes.specs.Taking.{Rests, is_in_time}
use Rattle.dsec_nodes.specs.Machine.{Walking, Step, done}
use Rattle.dsec_nodes.specs.SoundSteps.{OnTheWay, SoundAt, StepKept}
use Rattle.dsec_nodes.specs.Judging.{by_node, target_of}
use Rattle.dsec_nodes.proofs.ShownLaws.{target_between}
use Rattle.dsec_course.specs.Course.{by_walk, way_of}
use Rattle.dsec_course.specs.Justified.{IsFound}
use Rattle.dsec_course.proofs.FoundLaws.{found_is}
use Rattle.dsec_course.proofs.GroupLaws.{NeedsWalk, WayIs, way_is}
use Rattle.dsec_course.proofs.WalkSteps.{HasReached}
use Rattle.dsec_lookup.specs.Outside.{Outside, WasHeld}
use Rattle.dsec_single.specs.Progress.{IsEnded}
use Rattle.dsec_by_node.specs.WithNode.{is_over, tells_of}
use Rattle.dsec_by_node.proofs.GroundLaws.{zone_named}
use Rattle.dsec_single.proofs.NameLaws.{EndsAtTarget}
use Rattle.dsec_single.proofs.TripLaws.{HoldsTrip}
use Rattle.dsec_single.proofs.ServeLaws.{trip_holds}

-- What is known of the node with which a walk from an island ends, for a group under it
pub record IsEndOf (w : World) (group : Group) (top : Place) (n : Node) : Type 0 where
  pub from_island : island w.anchors (place group.owner) group.rtype ≡ Some top
  pub tells : tells_of w group n ≡ true
  pub rests : Rests w.anchors top n
  pub is_found : IsFound w (by_node w group n)
  pub its_zone : (keys : List (List ℕ)) → n.standing ≡ apex keys → n.signer ≡ target_of group (Some top)

-- a group whose way is a walk
pub needs_walk : (w : World) (group : Group) (top : Place) → way_of w group ≡ by_walk top → NeedsWalk w group top
needs_walk w group top e = subst (WayIs w group) e (way_is w group)

-- a walk that ends has reached a node that counts
at_end : (w : World) (s : Walking) (o : Option Reached) (n : Node) → SoundAt w s o → HasReached (done n) o
    → (labels : ℕ) × (r : Reached) × (r.node ≡ n) × OnTheWay w s.top s.target labels r
at_end w s None n f (r, e, is) = absurd (let clash : None ≡ Some r = e in cc)
at_end w s (Some q) n f (r, e, is) = (length s.top + f.0, q, ap (λ (x : Reached). x.node) (let same : q ≡ r = cc in same) ∙ is, f.3)

-- the node with which a walk for a group ends
pub end_of : (w : World) (table : Option Table) (before now : Outside) (group : Group) (top : Place) (n : Node) (a b : ℕ) → way_of w group ≡ by_walk top
    → IsEnded w table before now top (target_of group (Some top)) n a b → IsEndOf w group top n
end_of w table before now group top n a b way (t, e, s, few) = record {
  from_island = needs.from_island;
  tells = ap (λ (b : Bool). b && is_over n group) in_time ∙ (below_decides (looked_for_at (place group.owner) group.rtype) n.name).1 over;
  rests = subst (Rests w.anchors top) same on.node_rests;
  is_found = subst (λ (x : Node). IsFound w (by_node w group x)) same (found_is w group top at.0 at.1 needs.has_records needs.from_island on);
  its_zone = zone;
}
  where
    target : Place
    target = target_of group (Some top)

    needs : NeedsWalk w group top
    needs = needs_walk w group top way

    h : HoldsTrip w (WasHeld w.accepts before.held) top target t
    h = trip_holds w table before now top target 0 t s

    kept : Kept w.accepts n
    kept = (subst (StepKept w t.walk.top) e h.step_kept).0

    at : (labels : ℕ) × (r : Reached) × (r.node ≡ n) × OnTheWay w t.walk.top t.walk.target labels r
    at = at_end w t.walk t.walk.reached n h.under_way.is_sound.on_way (subst (λ (x : Step). HasReached x t.walk.reached) e h.reached)

    on : OnTheWay w top target at.0 at.1
    on = subst (λ (p : Place). OnTheWay w p target at.0 at.1) h.same_top (subst (λ (p : Place). OnTheWay w t.walk.top p at.0 at.1) h.same_target at.3)

    same : at.1.node ≡ n
    same = at.2

    from : n.made ≤ w.now
    from = subst (λ (x : Node). x.made ≤ w.now) same on.from

    to : w.now ≤ n.made + n.valid_for
    to = subst (λ (x : Node). w.now ≤ x.made + x.valid_for) same on.to

    in_time : is_in_time w n ≡ true
    in_time = ap (λ (b : Bool). b && nat_le w.now (n.made + n.valid_for)) (le-leb n.made w.now from) ∙ le-leb w.now (n.made + n.valid_for) to

    over : IsAtOrBelow (looked_for_at (place group.owner) group.rtype) n.name
    over =
        let i = island_is w.anchors (place group.owner) group.rtype top needs.from_island in
        let from_is = one_looked_for (place group.owner) group.rtype i.from i.looked_for in
        let named = subst (λ (x : Node). IsAtOrBelow target x.name) same on.over in
        subst (λ (p : Place). IsAtOrBelow p n.name) from_is (below_trans i.from target n.name (target_between group top i.from from_is i.above).1 named)

    zone : (keys : List (List ℕ)) → n.standing ≡ apex keys → n.signer ≡ target
    zone keys f =
        let named : n.name ≡ t.walk.target = (subst (EndsAtTarget t.walk) e h.at_end) (ap (goes_on_at n.name) f) in
        sym (zone_named w n keys kept f from to) ∙ (named ∙ h.same_target)
