-- What is left of data as signatures take them (RFC 4034 6.2).
use Rattle.std.specs.Prelude.{ℕ, ◌+◌, Bool, true, false, List, [], ◌++◌, length, map, Option, unwrap_or}
use Rattle.std.specs.Char.{to_ascii_lowercase}
use Rattle.std.specs.Option.{option_map}
use Rattle.dsec_wire.specs.declared.signed_octets.SignedOctets.{SignedOctets}
use Rattle.dsec_wire.specs.Canonical.{canonical_in}
use Rattle.dsec_wire.specs.Fields.{field_view}

-- octets of a name in lower case, others as they came
abbrev pub in_case : Bool → List ℕ → List ℕ
in_case true x = map to_ascii_lowercase x
in_case false x = x

-- what is left, where it can be read
abbrev pub octets_left : SignedOctets → Option (List ℕ)
octets_left it = option_map (λ x. in_case it.is_lowered it.part.now ++ x) (canonical_in (map field_view it.fields.now) it.rest.now)

-- the same as octets
abbrev pub left_of : SignedOctets → List ℕ
left_of it = unwrap_or (octets_left it) []

-- how many octets that is
abbrev pub room_left : SignedOctets → ℕ
room_left it = length it.part.now + length it.rest.now
