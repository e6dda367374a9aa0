-- The owners inside the zone that records make, and those of a zone, in canonical order (RFC 4034 4, 6.1).
use Rattle.std.specs.Prelude.{◌≡◌, ◌≢◌, ℕ, List, [], map, filter, find, Bool, Some, All, AllPairs, Contains}
use Rattle.std.specs.List.{flat_map}
use Rattle.dsec_spec.specs.Names.{Labels, Place, place, same_place, Before}
use Rattle.dsec_spec.specs.Records.{Record}
use Rattle.dsec_spec.specs.Zones.{Zone, each_type}
use Rattle.dsec_spec.specs.ZonesOfRecords.{is_inside, is_delegation, is_own}

-- the name has its letters as the first of the records that stand there
pub record IsWritten (records : List Record) (name : Labels) : Type 0 where
  pub first : Record
  pub found : find (λ r. same_place (place r.owner) (place name)) records ≡ Some first
  pub is : name ≡ first.owner

-- an owner inside a zone: all its records, and whether another zone begins there
pub record Inside : Type 0 where
  pub name : Labels
  pub records : List Record
  pub cut : Bool

-- these are all owners inside the zone, in canonical order, each with its records
pub record AreInside (apex : Place) (records : List Record) (all : List Inside) : Type 0 where
  pub kept : filter (λ r. is_inside apex records (place r.owner)) records ≡ flat_map (λ (o : Inside). o.records) all
  pub rise : AllPairs (λ (o p : Inside). Before (place o.name) (place p.name)) all
  pub each : All (λ (o : Inside). (o.cut ≡ is_delegation apex records (place o.name)) × ((r : Record) → Contains o.records r → place r.owner ≡ place o.name)) all
  pub written : All (λ (o : Inside). IsWritten records o.name) all

-- an owner of a zone, and the types that stand there, at least one
pub record Owner : Type 0 where
  pub name : Labels
  pub types : List ℕ

-- where the owner stands
abbrev pub owner_place : Owner → Place
owner_place o = place o.name

-- the owner's sets
abbrev pub owner_sets : Owner → List (Place × ℕ)
owner_sets o = each_type o.types (owner_place o)

-- these are the zone's owners in canonical order, each with its types
pub record AreOwners (z : Zone) (owners : List Owner) : Type 0 where
  pub sets : z.sets ≡ flat_map owner_sets owners
  pub rise : AllPairs (λ o p. Before (owner_place o) (owner_place p)) owners
  pub typed : All (λ (o : Owner). o.types ≢ []) owners

-- the types that stand at an owner inside, by its records
abbrev pub types_inside : Inside → List ℕ
types_inside o = map (λ r. r.rtype) (filter (is_own o.cut) o.records)
