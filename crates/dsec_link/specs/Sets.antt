-- The data of records with their type, as sets keep them.
use Rattle.std.specs.Prelude.{◌≡◌, ℕ, List, [], ◌∷◌, map, All}
use Rattle.std.specs.Borrow.{Bor}
use Rattle.dsec_spec.specs.RecordData.{canonical_data}
use Rattle.dsec_spec.specs.Records.{Record}
use Rattle.dsec_wire.specs.TypedData.{TypedData}

-- data without their types
abbrev pub octets_of : List TypedData → List (List ℕ)
octets_of datas = map (λ one. one.octets) datas

-- data of one type
abbrev pub AreOf : ℕ → List TypedData → Type 0
AreOf rtype datas = All (λ one. one.rtype ≡ rtype) datas

-- records of one type
abbrev pub AreRecordsOf : ℕ → List Record → Type 0
AreRecordsOf rtype records = All (λ r. r.rtype ≡ rtype) records

-- records of one type, if any
abbrev pub OfOneType : List Record → Type 0
OfOneType [] = Unit {0}
OfOneType (first ∷ others) = AreRecordsOf first.rtype others

-- data as they are signed (RFC 4034 6.2)
abbrev pub canonical_of : TypedData → List ℕ
canonical_of one = canonical_data one.rtype one.octets

-- a record's data as they are signed
abbrev pub canonical_record : Record → List ℕ
canonical_record r = canonical_data r.rtype r.rdata

-- borrowed data as they are signed
abbrev pub canonicals_in : List (Bor TypedData) → List (List ℕ)
canonicals_in all = map (λ one. canonical_of one.now) all
