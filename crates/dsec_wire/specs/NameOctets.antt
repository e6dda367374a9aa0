-- Names in messages, as the octets that they have uncompressed.
use Rattle.std.specs.Prelude.{ℕ, List, Option}
use Rattle.std.specs.Option.{option_map}
use Rattle.arrayvec.specs.ArrayVec.{ArrayVec}
use Rattle.dsec_spec.specs.Names.{wire_octets}
use Rattle.dsec_spec.specs.WireNames.{NameRead, name_at}

-- octets, and the place after those that they were read from
abbrev pub OctetsRead : Type 0
OctetsRead = List ℕ × ℕ

-- octets that the code has read
abbrev pub octets_read : ArrayVec ℕ × ℕ → OctetsRead
octets_read read = (read.0.items, read.1)

-- a name that was read, as octets
abbrev pub uncompressed : NameRead → OctetsRead
uncompressed name = (wire_octets name.0, name.1)

-- the octets of the name at a place, and the place after it
abbrev pub name_octets : List ℕ → ℕ → Option OctetsRead
name_octets message at = option_map uncompressed (name_at message at)
