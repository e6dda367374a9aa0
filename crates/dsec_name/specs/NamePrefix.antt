-- A name at the front of octets, by how many octets its labels have.
use Rattle.std.specs.Prelude.{ℕ, List, length, Option, Some}
use Rattle.dsec_spec.specs.Reading.{◌>>=◌}
use Rattle.dsec_spec.specs.RecordData.{name_in}
use Rattle.dsec_name.specs.Keys.{labels_octets}

-- how many octets the labels of the name at the front have, without the root's
abbrev pub labels_size_in : List ℕ → Option ℕ
labels_size_in x = name_in x >>= λ name. Some (length (labels_octets name.0))
