-- An admission by an anchor, as a node comes of it (RFC 4035 5).
use Rattle.std.specs.Prelude.{◌≡◌}
use Rattle.dsec_spec.specs.Groups.{Group}
use Rattle.dsec_spec.specs.Records.{Record}
use Rattle.dsec_spec.specs.Trying.{good}
use Rattle.dsec_nodes.specs.Admission.{Admitted, anchor_search, tried_by}
use Rattle.dsec_nodes.specs.World.{World}
use Rattle.dsec_child.specs.Admissions.{StandsAt}
use Rattle.dsec_child.specs.declared.admit.Admission.{Admission}

-- the anchor, key and signature at these indexes are those that trying came to
pub record HoldsBy (w : World) (group : Group) (it : Admission) : Type 0 where
  pub pair : Record × Admitted Record
  pub is_good : tried_by w group (anchor_search w.bounds.max_keys_for_ds group) w.anchors ≡ good pair
  pub stands : StandsAt w.anchors group it pair
