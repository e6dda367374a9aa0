-- Records with their canonical data, as they are sorted.
use Rattle.std.specs.Prelude.{◌≡◌, ℕ, List, map, IsPermutation}
use Rattle.dsec_spec.specs.Records.{Record}
use Rattle.dsec_spec.specs.SignedBytes.{ascending}
use Rattle.dsec_link.specs.Sets.{canonical_record}
use Rattle.dsec_link.specs.declared.signing.Keyed.{Keyed}

-- a record with its canonical data
abbrev pub keyed_of : Record → Keyed
keyed_of r = record { canonical = canonical_record r; whole = r }

-- their canonical data
abbrev pub canonicals : List Keyed → List (List ℕ)
canonicals all = map (λ one. one.canonical) all

-- the records
abbrev pub wholes : List Keyed → List Record
wholes all = map (λ one. one.whole) all

-- these are the records in the order of their canonical data
pub record IsInOrder (records : List Record) (all : List Keyed) : Type 0 where
  pub same : IsPermutation records (wholes all)
  pub theirs : canonicals all ≡ map canonical_record (wholes all)
  pub ordered : canonicals all ≡ ascending (map canonical_record records)
