-- How the sets that are signed are found, owner by owner.
use Rattle.std.specs.Prelude.{◌≡◌, ◌≤◌, ◌++◌, List, Bool, false, All, AllPairs, Contains, filter, map}
use Rattle.dsec_spec.specs.Names.{place}
use Rattle.dsec_spec.specs.Records.{Record}
use Rattle.dsec_spec.specs.SignedZones.{of_one_set}
use Rattle.dsec_sign.specs.Places.{IsFound, set_at}
use Rattle.dsec_sign.specs.Runs.{AreRuns, joined}
use Rattle.dsec_sign.specs.declared.zone_sets.SetAt.{SetAt}

-- records of one owner and class, in the order of their types
pub record IsOwner (records : List Record) : Type 0 where
  pub one : (r s : Record) → Contains records r → Contains records s → (place r.owner ≡ place s.owner) × (r.class ≡ s.class)
  pub rise : AllPairs (λ r s. r.rtype ≤ s.rtype) records

-- of the records that were passed the sets that are signed were added; no record that is left is of a set of theirs
pub record Pushed (records : List Record) (is_signed : Record → Bool) (done rest : List Record) (old new : List SetAt) : Type 0 where
  pub added : List SetAt
  pub is : new ≡ old ++ added
  pub flat : joined (map (set_at records) added) ≡ filter is_signed done
  pub runs : AreRuns (map (set_at records) added)
  pub found : All (IsFound records) added
  pub later : (r q : Record) → Contains done r → Contains rest q → of_one_set r q ≡ false
