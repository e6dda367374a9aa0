-- How judging a group begins: at once, or by the node of a zone (RFC 4033 2, RFC 4035 4.3).
use Rattle.std.specs.Prelude.{◌≡◌, Some}
use Rattle.dsec_spec.specs.Names.{Labels, place, IsAtOrBelow}
use Rattle.dsec_spec.specs.Groups.{Group}
use Rattle.dsec_spec.specs.Islands.{island}
use Rattle.dsec_nodes.specs.World.{World, Replies}
use Rattle.dsec_nodes.specs.Walk.{node_of}
use Rattle.dsec_nodes.specs.Judging.{by_node, judged_of, target_of}
use Rattle.dsec_anchors.specs.Anchors.{told_island}
use Rattle.dsec_found.specs.Letters.{told_zone}
use Rattle.dsec_found.specs.declared.begun.Begun.{Begun}
use Rattle.dsec_found.specs.declared.begun.Begun.TheVariants.{Judged, Walk}

-- the group is judged by the node of the zone that is to have signed it, which is at or below its island, the first name, each in the letters in which it
-- came (RFC 4033 2, RFC 4035 5.3.1)
pub record NeedsNode (w : World) (replies : Replies) (group own : Group) (top zone : Labels) : Type 0 where
  pub same : own ≡ group
  pub is_island : island w.anchors (place group.owner) group.rtype ≡ Some (place top)
  pub is_zone : place zone ≡ target_of group (Some (place top))
  pub island_letters : told_island w.anchors (place group.owner) group.rtype ≡ Some top
  pub zone_letters : zone ≡ told_zone group (Some (place top))
  pub below : IsAtOrBelow (place zone) (place top)
  pub by_its_node : judged_of w replies group ≡ by_node w group (node_of w replies (place top) (place zone))

-- the group is judged, or it is by the node of a zone
abbrev pub BeginsAs : {V : Type 0} → World → Replies → Group → Begun V → Type 0
BeginsAs w replies group (Judged judged) = judged ≡ judged_of w replies group
BeginsAs w replies group (Walk own top zone) = NeedsNode w replies group own top zone
