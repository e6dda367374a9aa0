-- Records' data in sets: their types, their octets, and what they are signed as.
use Rattle.std.proofs.Common.{◌≡◌, ◌≢◌, ℕ, zero, suc, ◌<◌, List, [], ◌∷◌, get_or, length, map, refl, sym, ap, arith, ◌∙◌}
use Rattle.std.specs.Prelude.{Contains}
use Rattle.std.proofs.lemmas.List.Elements.{All-cons, All-head, All-tail, All-map}
use Rattle.dsec_spec.proofs.CanonicalDataLemmas.{length-canonical_data}
use Rattle.dsec_spec.specs.RecordData.{canonical_data}
use Rattle.dsec_spec.specs.Records.{Record}
use Rattle.dsec_wire.specs.TypedData.{TypedData, data_of}
use Rattle.dsec_link.specs.Sets.{octets_of, AreOf, AreRecordsOf, canonical_record}

-- records of one type are signed by that type
pub canonical_records : (rtype : ℕ) (records : List Record) → AreRecordsOf rtype records → map canonical_record records ≡ map (canonical_data rtype) (map (λ (r : Record). r.rdata) records)
canonical_records rtype [] typed = refl
canonical_records rtype (one ∷ records) typed =
    let first : one.rtype ≡ rtype = All-head (λ (r : Record). r.rtype ≡ rtype) one records typed in
    let others = canonical_records rtype records (All-tail (λ (r : Record). r.rtype ≡ rtype) one records typed) in
    rw (first, others) refl

-- records of one type have data of it
pub datas_typed : (first : Record) (others : List Record) → AreRecordsOf first.rtype others → AreOf first.rtype (data_of first ∷ map data_of others)
datas_typed first others same =
    All-cons (λ (d : TypedData). d.rtype ≡ first.rtype) (data_of first) (map data_of others) refl
    (All-map (λ (d : TypedData). d.rtype ≡ first.rtype) data_of others same)

-- records' data, without their types
pub octets_of-data_of : (records : List Record) → octets_of (map data_of records) ≡ map (λ (r : Record). r.rdata) records
octets_of-data_of [] = refl
octets_of-data_of (r ∷ records) = ap (λ (datas : List (List ℕ)). r.rdata ∷ datas) (octets_of-data_of records)

further : (x first : List ℕ) (xs : List (List ℕ)) → Contains xs x → Contains (first ∷ xs) x
further x first xs (k, below, is) = (suc k, omega (arith, below), is)

-- the octets of a set's data are in it
pub has_octets : (datas : List TypedData) (k : ℕ) (one : TypedData) (x : List ℕ) → k < length datas → one ≡ get_or datas k one → one.octets ≡ x → Contains (octets_of datas) x
has_octets [] k one x below is same = absurd (omega arith)
has_octets (first ∷ datas) zero one x below is same = (0, omega arith, sym (ap (λ (d : TypedData). d.octets) is) ∙ same)
has_octets (first ∷ datas) (suc k) one x below is same = further x first.octets (octets_of datas) (has_octets datas k one x (omega (arith, below)) is same)

at_octets : (datas : List TypedData) (k : ℕ) (d : TypedData) (x : List ℕ) → k < length datas → get_or (octets_of datas) k x ≡ (get_or datas k d).octets
at_octets [] k d x below = absurd (omega arith)
at_octets (first ∷ datas) zero d x below = refl
at_octets (first ∷ datas) (suc k) d x below = at_octets datas k d x (omega (arith, below))

length_octets : (datas : List TypedData) → length (octets_of datas) ≡ length datas
length_octets [] = refl
length_octets (first ∷ datas) = ap suc (length_octets datas)

-- octets that none of a set's data has aren't in it
pub has_no_octets : (datas : List TypedData) (x : List ℕ) → ((k : ℕ) (d : TypedData) → k < length datas → (get_or datas k d).octets ≢ x) → Contains (octets_of datas) x → ⊥
has_no_octets datas x none (k, below, is) =
    let within : k < length datas = omega (arith, length_octets datas, below) in
    let d : TypedData = record { rtype = 0; octets = [] } in
    none k d within (sym (at_octets datas k d x within) ∙ is)

-- data are as long when they are signed
pub data_as_long : (rtype : ℕ) (octets : List ℕ) → length (canonical_data rtype octets) ≡ length octets
data_as_long = length-canonical_data
