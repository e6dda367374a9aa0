-- Sets among records, by their places.
use Rattle.std.specs.Prelude.{◌≡◌, ◌+◌, ◌<◌, ◌≤◌, List, length, take, drop, false}
use Rattle.dsec_spec.specs.Records.{Record}
use Rattle.dsec_spec.specs.CanonicalRecords.{IsCanonical}
use Rattle.dsec_sorted.specs.Sets.{AreOfOneSet, differ_in_ttl}
use Rattle.dsec_sign.specs.declared.zone_sets.SetAt.{SetAt}

-- the records of the set
abbrev pub set_at : List Record → SetAt → List Record
set_at records it = take it.size (drop it.start records)

-- the set has a record, and all its records stand among these
pub record IsFound (records : List Record) (it : SetAt) : Type 0 where
  pub some : 0 < it.size
  pub within : it.start + it.size ≤ length records

-- the set can be signed as it is: it is one, in canonical order, and of one TTL
pub record IsSignable (records : List Record) (it : SetAt) : Type 0 where
  pub found : IsFound records it
  pub one : AreOfOneSet (set_at records it)
  pub canonical : IsCanonical (set_at records it)
  pub ttls : differ_in_ttl (set_at records it) ≡ false
