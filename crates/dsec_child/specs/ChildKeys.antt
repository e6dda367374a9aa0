-- DS data as they are read, and an admission by them, as a node comes of it (RFC 4035 5.2).
use Rattle.std.specs.Prelude.{◌≡◌, ℕ, List, map, Some}
use Rattle.dsec_spec.specs.Groups.{Group}
use Rattle.dsec_spec.specs.Records.{Record, Ds, ds_of, ds_octets}
use Rattle.dsec_spec.specs.Trying.{good}
use Rattle.dsec_nodes.specs.Admission.{Admitted, ds_search, tried_by}
use Rattle.dsec_nodes.specs.ByDs.{Pending, ways}
use Rattle.dsec_nodes.specs.World.{World}
use Rattle.dsec_child.specs.Admissions.{StandsAt}
use Rattle.dsec_child.specs.declared.admit.Admission.{Admission}

-- the data say these DS records, in order, and are their octets (RFC 4034 5.1)
pub record AreDs (datas : List (List ℕ)) (all : List Ds) : Type 0 where
  pub say : map (λ ds. Some ds) all ≡ map ds_of datas
  pub are : map ds_octets all ≡ datas

-- the DS data, key and signature at these indexes are those that trying came to
pub record HoldsByDs (w : World) (pending : Pending) (group : Group) (it : Admission) : Type 0 where
  pub pair : Record × Admitted (List ℕ)
  pub is_good : tried_by w group (ds_search w.bounds.max_keys_for_ds group) (ways w pending) ≡ good pair
  pub stands : StandsAt pending.link.records.datas group it pair
