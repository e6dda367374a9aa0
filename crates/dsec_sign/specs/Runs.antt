-- Runs of records, each of one set and no two of the same.
use Rattle.std.specs.Prelude.{◌≡◌, ◌∷◌, List, All, AllPairs, Contains, true, false}
use Rattle.std.specs.List.{flat_map}
use Rattle.dsec_spec.specs.Records.{Record}
use Rattle.dsec_spec.specs.SignedZones.{of_one_set}

-- the records of lists, one after the other
abbrev pub joined : List (List Record) → List Record
joined runs = flat_map (λ (run : List Record). run) runs

-- a run has a record, and all of it are of one set
pub record IsRun (run : List Record) : Type 0 where
  pub first : Record
  pub others : List Record
  pub is : run ≡ first ∷ others
  pub one : (r : Record) → Contains run r → of_one_set first r ≡ true

-- no record of one is of one set with one of the other
abbrev pub AreApart : List Record → List Record → Type 0
AreApart s t = (r q : Record) → Contains s r → Contains t q → of_one_set r q ≡ false

-- runs, no two of one set
pub record AreRuns (runs : List (List Record)) : Type 0 where
  pub each : All IsRun runs
  pub apart : AllPairs AreApart runs
