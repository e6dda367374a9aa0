-- The canonical order of records (RFC 4034 6).
use Rattle.std.specs.Prelude.{◌≡◌, List, AllPairs, find, Some}
use Rattle.std.specs.Cmp.Lexicographic.{slice_cmp}
use Rattle.std.specs.Ordering.{nat_cmp, on, then_cmp}
use Rattle.std.specs.declared.cmp.Ordering.{Ordering}
use Rattle.std.specs.declared.cmp.Ordering.TheVariants.{Less}
use Rattle.dsec_spec.specs.Names.{place, name_cmp, Before}
use Rattle.dsec_spec.specs.RecordData.{canonical_data}
use Rattle.dsec_spec.specs.Records.{Record}
use Rattle.dsec_spec.specs.Groups.{are_duplicates}

-- the canonical order of records: by class, owner, type and canonical data (RFC 4034 6.1, 6.3)
abbrev pub record_cmp : Record → Record → Ordering
record_cmp =
    then_cmp (on (λ (r : Record). r.class) nat_cmp) (then_cmp (on (λ (r : Record). r.owner) name_cmp)
    (then_cmp (on (λ (r : Record). r.rtype) nat_cmp) (on (λ (r : Record). canonical_data r.rtype r.rdata) (slice_cmp nat_cmp))))

-- in canonical order, without duplicates
abbrev pub IsCanonical : List Record → Type 0
IsCanonical records = AllPairs (λ r s. record_cmp r s ≡ Less) records

-- no record's owner is before that of an earlier one
abbrev pub AreOrdered : List Record → Type 0
AreOrdered records = AllPairs (λ r s. Before (place s.owner) (place r.owner) → ⊥) records

-- all of one class
abbrev pub AreOfOneClass : List Record → Type 0
AreOfOneClass records = AllPairs (λ r s. r.class ≡ s.class) records

-- the record is the first of its duplicates among these
abbrev pub IsFirst : List Record → Record → Type 0
IsFirst records r = find (are_duplicates r) records ≡ Some r
