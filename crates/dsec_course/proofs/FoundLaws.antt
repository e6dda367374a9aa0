-- What is found of a group by a node that is kept, counts, and has an anchor of its island's, is so.
use Rattle.std.proofs.Common.{◌≡◌, ℕ, ◌==◌, false, List, length, Some, refl, ap, subst, inl}
use Rattle.std.proofs.lemmas.Bool.{eqb-false}
use Rattle.dsec_spec.specs.Names.{Place, place, IsAtOrBelow}
use Rattle.dsec_spec.specs.Records.{Record, Key}
use Rattle.dsec_spec.specs.Groups.{Group}
use Rattle.dsec_spec.specs.Islands.{island}
use Rattle.dsec_spec.specs.Trying.{Tried, good, nothing, all_bad, too_many_bad}
use Rattle.dsec_nodes.specs.World.{World, moment}
use Rattle.dsec_nodes.specs.Nodes.{Node, Standing, apex, within, insecure, bogus, IsBogus, HoldsAt}
use Rattle.dsec_nodes.specs.Signing.{under_keys}
use Rattle.dsec_nodes.specs.Walk.{Reached}
use Rattle.dsec_nodes.specs.SoundSteps.{OnTheWay}
use Rattle.dsec_nodes.specs.Judging.{found_by, found_at, by_node, target_of}
use Rattle.dsec_nodes.proofs.Signs.{from_under}
use Rattle.dsec_nodes.proofs.KeptLaws.{held}
use Rattle.dsec_nodes.proofs.ShownLaws.{ZoneOver, shown_by}
use Rattle.dsec_nodes.proofs.UnsignedLaws.{insecure_by_node}
use Rattle.dsec_nodes.proofs.LeadingLaws.{zone_leads, within_leads}
use Rattle.dsec_course.specs.Justified.{Justifies, IsFound}

-- a node of a zone on the way to a name is held, from an anchor of the island's, and at or above the name
zone_on_way : (w : World) (top name : Place) (labels : ℕ) (r : Reached) (keys : List (List ℕ)) → OnTheWay w top name labels r
    → r.node.standing ≡ apex keys → ZoneOver w top name r.node keys
zone_on_way w top name labels r keys o e =
    let sure : IsBogus r.node.standing ≡ false = ap IsBogus e in
    let kept = o.node_kept sure in
    let now : HoldsAt w.accepts r.node.bounds kept.0 r.node.name r.node.signer r.node.links (apex keys) (moment w) =
    subst (λ (x : Standing). HoldsAt w.accepts r.node.bounds kept.0 r.node.name r.node.signer r.node.links x (moment w)) e (kept.2 w.now o.from o.to) in
    record {
      zone_held = held w r.node keys o.node_kept e o.from o.to;
      zone_rests = o.node_rests sure;
      over = subst (IsAtOrBelow name) now.0 o.over;
    }

-- what is found of a group by a node on the way from its island to the zone that is to have signed it is so (RFC 4033 5, RFC 4035 5)
pub found_is : (w : World) (group : Group) (top : Place) (labels : ℕ) (r : Reached) → (length group.records == 0) ≡ false
    → island w.anchors (place group.owner) group.rtype ≡ Some top → OnTheWay w top (target_of group (Some top)) labels r
    → IsFound w (by_node w group r.node)
found_is w group top labels r some f o = by r.node.standing refl
  where
    n : Node
    n = r.node

    by_tried : (keys : List (List ℕ)) → n.standing ≡ apex keys → (t : Tried (Record × Key)) → under_keys w n.signer keys group ≡ t
        → Justifies w (record { group = group; signer = n.signer; finding = found_by group n keys t }) (found_by group n keys t)
    by_tried keys e (good p) g =
        shown_by w top group n keys p (eqb-false (length group.records) 0 some) f (zone_on_way w top (target_of group (Some top)) labels r keys o e) (from_under w n.signer keys group p g)
    by_tried keys e nothing g = zone_leads w top (target_of group (Some top)) labels r o keys e
    by_tried keys e all_bad g = zone_leads w top (target_of group (Some top)) labels r o keys e
    by_tried keys e too_many_bad g = zone_leads w top (target_of group (Some top)) labels r o keys e

    by : (s : Standing) → n.standing ≡ s
        → Justifies w (record { group = group; signer = n.signer; finding = found_at w group n s }) (found_at w group n s)
    by (apex keys) e = by_tried keys e (under_keys w n.signer keys group) refl
    by (within last) e = within_leads w top (target_of group (Some top)) labels r o last e
    by (insecure cause signed) e = insecure_by_node w group top labels r cause signed f o e
    by (bogus cause) e = inl refl
