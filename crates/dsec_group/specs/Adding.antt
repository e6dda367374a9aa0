-- A record added to groups: what the groups of a section become by one more record (RFC 2181 5, RFC 4035 2.2).
use Rattle.std.specs.Prelude.{◌≡◌, ℕ, ◌+◌, ◌<◌, length, All, List, [], ◌∷◌, ◌++◌, map, Bool, true, false, ◌||◌, Option, Some, None, if◌then◌else◌}
use Rattle.std.specs.List.{list_any}
use Rattle.std.specs.Str.{bytes_eq}
use Rattle.dsec_spec.specs.Names.{Labels}
use Rattle.dsec_spec.specs.Numbers.{RRSIG}
use Rattle.dsec_spec.specs.RecordData.{canonical_data}
use Rattle.dsec_spec.specs.Records.{Record}
use Rattle.dsec_spec.specs.Groups.{Group, is_signature, of_one_group}

-- a record's data as they are signed (RFC 4034 6.2)
abbrev pub canonical_of : Record → List ℕ
canonical_of r = canonical_data r.rtype r.rdata

-- whether one of the records has these canonical data
abbrev pub has_data : List ℕ → List Record → Bool
has_data octets records = list_any (λ x. bytes_eq x octets) (map canonical_of records)

-- the records and one more, which is dropped where one of them has its data
abbrev pub with_record : Record → List Record → List Record
with_record r records = if has_data (canonical_of r) records then records else records ++ r ∷ []

-- the canonical data that are known are those of the records, once they are
abbrev pub AreKnown : Bool → (List ℕ → Bool) → List Record → Type 0
AreKnown true known records = (octets : List ℕ) → known octets ≡ has_data octets records
AreKnown false known records = Unit {0}

-- the first of a group's records, or of its signatures where it has no record
abbrev pub leader_in : List Record → List Record → Option Record
leader_in (r ∷ rs) signatures = Some r
leader_in [] (s ∷ ss) = Some s
leader_in [] [] = None

-- the owner of that first one
abbrev pub owner_in : List Record → List Record → Labels
owner_in (r ∷ rs) signatures = r.owner
owner_in [] (s ∷ ss) = s.owner
owner_in [] [] = []

-- the class of that first one
abbrev pub class_in : List Record → List Record → ℕ
class_in (r ∷ rs) signatures = r.class
class_in [] (s ∷ ss) = s.class
class_in [] [] = 0

-- the type of the records, and RRSIG where there is none
abbrev pub type_in : List Record → ℕ
type_in [] = RRSIG
type_in (r ∷ rs) = r.rtype

-- records of one type, which isn't RRSIG
abbrev pub AreAlike : List Record → Type 0
AreAlike records = All (λ r. (r.rtype ≡ type_in records) × (is_signature r ≡ false)) records

-- records that are signatures
abbrev pub AreSignatures : List Record → Type 0
AreSignatures records = All (λ r. r.rtype ≡ RRSIG) records

-- whether a record is of one group with the first of these
abbrev pub led : Record → List Record → List Record → Bool
led r (first ∷ rs) signatures = of_one_group first r
led r [] (first ∷ ss) = of_one_group first r
led r [] [] = false

-- records and signatures that belong together: each is of one group with the first of them (RFC 2181 5, RFC 4035 2.2)
abbrev pub AreTogether : List Record → List Record → Type 0
AreTogether records signatures = All (λ r. led r records signatures ≡ true) records × All (λ r. led r records signatures ≡ true) signatures

-- records and signatures that may be a group's
abbrev pub AreGrouped : List Record → List Record → Type 0
AreGrouped records signatures = (0 < length records + length signatures) × AreTogether records signatures × AreAlike records × AreSignatures signatures

-- the group of these records and signatures, with these extra records
abbrev pub group_with : List Record → List Record → List Record → Bool → Group
group_with records signatures extra had_duplicate = record {
  owner = owner_in records signatures;
  class = class_in records signatures;
  rtype = type_in records;
  records = records;
  signatures = signatures;
  extra = extra;
  had_duplicate = had_duplicate;
}

-- the same, without extra records
abbrev pub group_from : List Record → List Record → Bool → Group
group_from records signatures had_duplicate = group_with records signatures [] had_duplicate

-- whether a record belongs to a group
abbrev pub belongs_to : Record → Group → Bool
belongs_to r g = led r g.records g.signatures

-- the group and one more record
abbrev pub put_in : Record → Group → Group
put_in r g =
    if is_signature r then group_with g.records (with_record r g.signatures) g.extra (g.had_duplicate || has_data (canonical_of r) g.signatures)
    else group_with (with_record r g.records) g.signatures g.extra (g.had_duplicate || has_data (canonical_of r) g.records)

-- the group of one record
abbrev pub new_group : Record → Group
new_group r = if is_signature r then group_from [] (r ∷ []) false else group_from (r ∷ []) [] false

-- the groups and one more record: it goes to the first group that it belongs to, and otherwise makes a group at the end
unfoldable pub placed : Record → List Group → List Group
placed r [] = new_group r ∷ []
placed r (g ∷ gs) = if belongs_to r g then put_in r g ∷ gs else g ∷ placed r gs
