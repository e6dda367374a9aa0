-- What stands at a name that is hashed, and the types that its NSEC3 record names.
use Rattle.std.specs.Prelude.{ℕ, ◌&&◌, List, [], ◌∷◌, ◌++◌, map, filter, Bool, false, if◌then◌else◌}
use Rattle.std.specs.List.{list_any}
use Rattle.dsec_spec.specs.Names.{Place, place, same_place}
use Rattle.dsec_spec.specs.Numbers.{RRSIG, NSEC3PARAM}
use Rattle.dsec_spec.specs.Records.{Record}
use Rattle.dsec_spec.specs.RecordViews.{Hashing}
use Rattle.dsec_spec.specs.OwnersInside.{Inside}
use Rattle.dsec_spec.specs.DenyingRecords.{hash_by}
use Rattle.dsec_spec.specs.SetsToSign.{is_signed}
use Rattle.dsec_spec.specs.ZonesOfRecords.{is_own}

-- a name's hash, its records, and whether another zone begins there
pub record Standing : Type 0 where
  pub hash : List ℕ
  pub records : List Record
  pub cut : Bool

-- an owner or an empty non-terminal, hashed
abbrev pub hashed_as : Hashing → Inside → Standing
hashed_as how o = record { hash = hash_by how (place o.name); records = o.records; cut = o.cut }

-- the types that stand there
abbrev pub own_types : Bool → List Record → List ℕ
own_types cut records = map (λ r. r.rtype) (filter (is_own cut) records)

-- whether a set there is signed
abbrev pub has_signed : Place → Bool → List Record → Bool
has_signed apex cut records = list_any (λ r. is_own cut r && is_signed apex cut r) records

-- whether the records of an owner stand at the apex
abbrev pub is_at : Place → List Record → Bool
is_at apex [] = false
is_at apex (r ∷ records) = same_place (place r.owner) apex

-- the types that the name's NSEC3 record names
abbrev pub hashed_types : Place → Standing → List ℕ
hashed_types apex one =
    (own_types one.cut one.records ++ (if has_signed apex one.cut one.records then RRSIG ∷ [] else []))
    ++ (if is_at apex one.records then NSEC3PARAM ∷ [] else [])
