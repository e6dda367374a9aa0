-- Good pairs of a signature and a key, by indexes (RFC 4035 5.2, 5.3.1).
use Rattle.std.specs.Prelude.{◌≡◌, ℕ, List, slice_get, Some}
use Rattle.dsec_spec.specs.Records.{Record}
use Rattle.dsec_spec.specs.Groups.{Group}
use Rattle.dsec_nodes.specs.World.{World}
use Rattle.dsec_nodes.specs.Admission.{Admitted}
use Rattle.dsec_nodes.specs.ByDs.{Pending, ways}
use Rattle.dsec_nodes.specs.Held.{GoodByAnchor, GoodByDs}

-- the signature stands at the one index of the set, the record that says the key at the other, and this admits the key
pub record IsPair {A : Type 0} (group : Group) (way : A) (key signature : ℕ) (p : Record × Admitted A) : Type 0 where
  pub stands : slice_get group.signatures signature ≡ Some p.0
  pub by_way : p.1.way ≡ way
  pub key_record : Record
  pub key_stands : slice_get group.records key ≡ Some key_record
  pub says : p.1.rdata ≡ key_record.rdata

-- such a pair is good by the DS set that is pending (RFC 4035 5.2)
pub record IsGoodAt (w : World) (pending : Pending) (group : Group) (via : List ℕ) (key signature : ℕ) : Type 0 where
  pub pair : Record × Admitted (List ℕ)
  pub is_pair : IsPair group via key signature pair
  pub is_good : GoodByDs w group (ways w pending) pair

-- such a pair is good by an anchor (RFC 4035 5)
pub record IsGoodByAnchorAt (w : World) (group : Group) (anchor : Record) (key signature : ℕ) : Type 0 where
  pub pair : Record × Admitted Record
  pub is_pair : IsPair group anchor key signature pair
  pub is_good : GoodByAnchor w group pair
