-- A record's data in a message, added part by part to octets.
use Rattle.std.specs.Prelude.{ℕ, List, ◌++◌, nat_lt, Option, Some, None, if◌then◌else◌}
use Rattle.dsec_spec.specs.Layouts.{Field}
use Rattle.dsec_spec.specs.Messages.{part_at}
use Rattle.dsec_spec.specs.Reading.{◌>>=◌}
use Rattle.dsec_spec.specs.RecordData.{part_octets}
use Rattle.dsec_wire.specs.NameOctets.{name_octets}

-- octets with what was added, and the place after it in the message
abbrev pub Pushed : Type 0
Pushed = List ℕ × ℕ

-- octets with the name at a place added, where it stands before the end
abbrev pub pushed_name : List ℕ → List ℕ → ℕ → ℕ → Option Pushed
pushed_name front message at end = name_octets message at >>= λ name. if nat_lt end name.1 then None else Some (front ++ name.0, name.1)

-- octets with a field's part at a place added
abbrev pub pushed_part : List ℕ → Field → List ℕ → ℕ → ℕ → Option Pushed
pushed_part front field message at end = part_at field message at end >>= λ part. Some (front ++ part_octets part.0, part.1)
