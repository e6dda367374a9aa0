-- What is signed, record by record (RFC 4034 3.1.8.1).
use Rattle.std.specs.Prelude.{◌≡◌, ◌++◌, ℕ, List, [], ◌∷◌, length, map}
use Rattle.std.specs.Int.{w16, w32, to_be_bytes}
use Rattle.dsec_spec.specs.Names.{canonical_octets}
use Rattle.dsec_spec.specs.Records.{Record}
use Rattle.dsec_spec.specs.SignedBytes.{ascending}
use Rattle.dsec_link.specs.Sets.{canonical_record}

-- what stands before the data of each record of the set of the first
abbrev pub front_octets : Record → List ℕ
front_octets first = canonical_octets first.owner ++ to_be_bytes w16 first.rtype ++ to_be_bytes w16 first.class ++ to_be_bytes w32 first.ttl

-- a record's data with their length
abbrev pub data_octets : Record → List ℕ
data_octets r = to_be_bytes w16 (length (canonical_record r)) ++ canonical_record r

-- a record of the set of the first, as it is signed
abbrev pub piece : Record → Record → List ℕ
piece first r = front_octets first ++ data_octets r

-- the records are those of a set in the order of their canonical data
abbrev pub AreInOrder : List Record → List Record → Type 0
AreInOrder set records = map canonical_record records ≡ ascending (map canonical_record set)

-- the type of the first of the records
abbrev pub first_type : List Record → ℕ
first_type [] = 0
first_type (first ∷ others) = first.rtype
