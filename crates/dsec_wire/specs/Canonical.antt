-- Data as they are signed, field by field (RFC 4034 6.2).
use Rattle.std.specs.Prelude.{ℕ, List, Option, map}
use Rattle.std.specs.List.{flat_map}
use Rattle.std.specs.Option.{option_map}
use Rattle.std.specs.Char.{to_ascii_lowercase}
use Rattle.dsec_spec.specs.Layouts.{Field, lowered_name}
use Rattle.dsec_spec.specs.RecordData.{canonical_part, parts_in}

-- the octets that a field takes, as they are signed
abbrev pub canonical_piece : Field → List ℕ → List ℕ
canonical_piece lowered_name x = map to_ascii_lowercase x
canonical_piece _ x = x

-- what fields take, as it is signed
abbrev pub canonical_in : List Field → List ℕ → Option (List ℕ)
canonical_in fields x = option_map (flat_map canonical_part) (parts_in fields x)
