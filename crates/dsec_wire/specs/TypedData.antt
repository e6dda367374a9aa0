-- A record's data with their type.
use Rattle.std.specs.Prelude.{ℕ, List}
use Rattle.dsec_spec.specs.Records.{Record}

-- octets, and the type that they are read by
pub record TypedData : Type 0 where
  pub rtype : ℕ
  pub octets : List ℕ

-- a record's data
abbrev pub data_of : Record → TypedData
data_of it = record { rtype = it.rtype; octets = it.rdata }
