-- The owners inside a zone, as the code has them.
use Rattle.std.specs.Prelude.{◌≡◌, ◌≢◌, ◌+◌, ◌≤◌, [], Bool, true, false, List, length, take, drop, Option, Some, None}
use Rattle.std.specs.List.{list_any}
use Rattle.dsec_spec.specs.Names.{Labels, Place, place}
use Rattle.dsec_spec.specs.Records.{Record}
use Rattle.dsec_spec.specs.OwnersInside.{Inside, Owner, types_inside}
use Rattle.dsec_spec.specs.ZonesOfRecords.{is_own}
use Rattle.dsec_chain.specs.declared.owners.InsideOwner.{InsideOwner}

-- where the last delegation stands, if there was one
abbrev pub cut_place : Bool → Labels → Option Place
cut_place false cut = None
cut_place true cut = Some (place cut)

-- an owner with its records
abbrev pub inside_view : InsideOwner → Inside
inside_view it = record { name = it.name.now; records = it.records.now; cut = it.is_cut }

-- an owner, and the types that stand there
abbrev pub owner_view : InsideOwner → Owner
owner_view it = record { name = it.name.now; types = types_inside (inside_view it) }

-- whether a type stands there
abbrev pub is_typed : InsideOwner → Bool
is_typed it = list_any (is_own it.is_cut) it.records.now

-- a record stands there, one at least
abbrev pub HasRecords : InsideOwner → Type 0
HasRecords it = it.records.now ≢ []

-- the owner's records stand among these, behind as many as it says
pub record IsPlaced (records : List Record) (it : InsideOwner) : Type 0 where
  pub within : it.start + length it.records.now ≤ length records
  pub is : it.records.now ≡ take (length it.records.now) (drop it.start records)
