-- The names that a zone hashes, one after the other, as the code makes them: each owner, and the names above it that are new.
use Rattle.std.specs.Prelude.{◌==◌, ◌&&◌, List, [], ◌∷◌, ◌++◌, map, Bool, false, if◌then◌else◌}
use Rattle.std.proofs.Math.Bool.{not}
use Rattle.std.specs.List.{list_any}
use Rattle.dsec_spec.specs.Names.{Labels, Place, place, is_below, is_strictly_below}
use Rattle.dsec_spec.specs.Numbers.{DS}
use Rattle.dsec_spec.specs.Records.{Record}
use Rattle.dsec_spec.specs.OwnersInside.{Inside}
use Rattle.dsec_spec.specs.ZonesOfRecords.{is_own}

-- whether an owner with these records owes an NSEC3 record
abbrev pub is_kept : Bool → Bool → List Record → Bool
is_kept opt_out cut records = list_any (is_own cut) records && not ((opt_out && cut) && not (list_any (λ r. r.rtype == DS) records))

-- an empty non-terminal: nothing stands there
abbrev pub empty_at : Labels → Inside
empty_at name = record { name = name; records = []; cut = false }

-- whether a name above an owner is below the apex, and not above the owner before
abbrev pub is_new : Place → Place → Place → Bool
is_new apex before n = is_strictly_below n apex && not (is_below before n)

-- the new names above a name, from the nearest on, up to the first that isn't new
unfoldable pub new_above : Place → Place → Labels → List Labels
new_above apex before [] = []
new_above apex before (label ∷ name) = if is_new apex before (place name) then name ∷ new_above apex before name else []

-- owners, one after the other, with the empty non-terminals above each
unfoldable pub names_of : Place → Place → List Inside → List Inside
names_of apex before [] = []
names_of apex before (o ∷ owners) = (o ∷ map empty_at (new_above apex before o.name)) ++ names_of apex (place o.name) owners
