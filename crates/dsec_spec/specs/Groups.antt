-- Records in groups: a set with its signatures, by owner, class and type (RFC 2181 5, RFC 4035 2.2).
use Rattle.std.specs.Prelude.{ℕ, ◌==◌, ◌&&◌, nat_eq, List, [], ◌∷◌, length, map, filter, Bool, nat_lt, unwrap_or, if◌then◌else◌}
use Rattle.std.proofs.Math.Bool.{not}
use Rattle.std.specs.Str.{bytes_eq}
use Rattle.dsec_spec.specs.Reading.{u16_at}
use Rattle.dsec_spec.specs.Names.{Labels, place, same_place}
use Rattle.dsec_spec.specs.Numbers.{RRSIG}
use Rattle.dsec_spec.specs.RecordData.{canonical_data}
use Rattle.dsec_spec.specs.Records.{Record, RecordSet}

-- whether the record is a signature
abbrev pub is_signature : Record → Bool
is_signature r = r.rtype == RRSIG

-- the type that a record of readable data is grouped by: of a signature the type that it covers (RFC 4034 3.1.1)
abbrev pub grouped_type : Record → ℕ
grouped_type r = if is_signature r then unwrap_or (u16_at r.rdata 0) 0 else r.rtype

-- whether two records are of one group: of one owner and class, and grouped by one type
abbrev pub of_one_group : Record → Record → Bool
of_one_group r s = same_place (place r.owner) (place s.owner) && (r.class == s.class) && (grouped_type r == grouped_type s)

-- whether two records are duplicates: of one owner, class and type, with equal canonical data (RFC 2181 5, RFC 4034 6.3)
abbrev pub are_duplicates : Record → Record → Bool
are_duplicates r s =
    same_place (place r.owner) (place s.owner) && (r.class == s.class) && (r.rtype == s.rtype)
    && bytes_eq (canonical_data r.rtype r.rdata) (canonical_data s.rtype s.rdata)

-- the first of the things that a test calls alike, in order of arrival
unfoldable pub firsts : {A : Type 0} → (A → A → Bool) → List A → List A
firsts alike [] = []
firsts alike (x ∷ xs) = x ∷ filter (λ y. not (alike x y)) (firsts alike xs)

-- a group: the owner of its first record, or of its first signature where it has no record; its class; the type of its records, or
-- RRSIG where it has none; its records and its signatures, without duplicates and in order of arrival; the CNAME records that follow
-- from its DNAME record and stood apart from it (RFC 6672 3.1); and whether there were duplicates
pub record Group : Type 0 where
  pub owner : Labels
  pub class : ℕ
  pub rtype : ℕ
  pub records : List Record
  pub signatures : List Record
  pub extra : List Record
  pub had_duplicate : Bool

-- the members that are no signatures
abbrev pub plain_records : List Record → List Record
plain_records members = filter (λ r. not (is_signature r)) members

-- the owner of the first of these records, or of the member given where there is none
abbrev pub owner_among : Record → List Record → Labels
owner_among first [] = first.owner
owner_among first (r ∷ rs) = r.owner

-- the group that these records make, the first of which is given
abbrev pub group_of : Record → List Record → Group
group_of first members = let kept = firsts are_duplicates members in record {
  owner = owner_among first (plain_records kept);
  class = first.class;
  rtype = if nat_eq (length (plain_records kept)) 0 then RRSIG else grouped_type first;
  records = plain_records kept;
  signatures = filter is_signature kept;
  extra = [];
  had_duplicate = nat_lt (length kept) (length members);
}

-- the groups of a section, in the order of their first records
abbrev pub groups_of : List Record → List Group
groups_of section = map (λ first. group_of first (filter (of_one_group first) section)) (firsts of_one_group section)

-- the group's records as a set
abbrev pub set_in : Group → RecordSet
set_in g = record { owner = g.owner; class = g.class; rtype = g.rtype; datas = map (λ r. r.rdata) g.records }
