-- Names beside a name.
use Rattle.std.specs.Prelude.{Option, Some, None, [], ◌∷◌, Bool}
use Rattle.dsec_spec.specs.Names.{Labels, place, same_place}

-- the name without its leftmost label; the root has none
abbrev pub parent_of : Labels → Option Labels
parent_of [] = None
parent_of (label ∷ name) = Some name

-- whether two names stand at one place: ASCII case aside (RFC 4343 3)
abbrev pub same_name : Labels → Labels → Bool
same_name x y = same_place (place x) (place y)
