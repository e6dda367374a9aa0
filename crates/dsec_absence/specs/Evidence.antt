-- The groups of a reply that may deny, and the NSEC records among them that count (RFC 4035 5.3, 5.4).
use Rattle.std.specs.Prelude.{◌≡◌, ◌<◌, ℕ, ◌==◌, ◌&&◌, List, [], ◌∷◌, slice_get, Bool, true, false, Option, Some, None, if◌then◌else◌}
use Rattle.dsec_spec.specs.Names.{Labels, Place, same_place}
use Rattle.dsec_spec.specs.Numbers.{NSEC}
use Rattle.dsec_spec.specs.Records.{Record}
use Rattle.dsec_spec.specs.RecordViews.{Nsec, nsec_of}
use Rattle.dsec_spec.specs.Groups.{Group}
use Rattle.dsec_spec.specs.DenyingRecords.{NsecAt}
use Rattle.dsec_absence.specs.Denials.{Denial, no_type, no_name, no_type_by_wildcard, no_closer, IsDenial}

-- a group of the authority section, as far as a denial asks: the zone that is to have signed it, whether links show it, and whether as a
-- wildcard's expansion (RFC 4035 5.3)
pub record Evidence : Type 0 where
  pub group : Group
  pub signer : Place
  pub is_secure : Bool
  pub is_expanded : Bool

-- The group is one NSEC record of the class, and this record: Secure, signed by the zone, and no expansion of a wildcard (RFC 4034 4,
-- RFC 4035 5.3, 5.4)
pub record Counts (class : ℕ) (signer : Place) (e : Evidence) (r : NsecAt) : Type 0 where
  pub of_type : e.group.rtype ≡ NSEC
  pub of_class : e.group.class ≡ class
  pub only : Record
  pub alone : e.group.records ≡ only ∷ []
  pub at_owner : r.owner ≡ e.group.owner
  pub says : nsec_of only.rdata ≡ Some r.says
  pub secure : e.is_secure ≡ true
  pub signed_by : e.signer ≡ signer
  pub no_expansion : e.is_expanded ≡ false

-- the group at the index counts, as this record
pub record CountsAt (class : ℕ) (signer : Place) (groups : List Evidence) (index : ℕ) (r : NsecAt) : Type 0 where
  pub evidence : Evidence
  pub stands : slice_get groups index ≡ Some evidence
  pub counts : Counts class signer evidence r

-- the groups at the indexes count, as the records in the same places of the same denial
pub data AreReadOf (class : ℕ) (signer : Place) (groups : List Evidence) : Denial ℕ → Denial NsecAt → Type 0 where
  type_read : {i : ℕ} {r : NsecAt} → CountsAt class signer groups i r → AreReadOf class signer groups (no_type i) (no_type r)
  name_read : {c : Place} {i j : ℕ} {r w : NsecAt} → CountsAt class signer groups i r → CountsAt class signer groups j w
      → AreReadOf class signer groups (no_name c i j) (no_name c r w)
  wildcard_read : {c : Place} {i j : ℕ} {r w : NsecAt} → CountsAt class signer groups i r → CountsAt class signer groups j w
      → AreReadOf class signer groups (no_type_by_wildcard c i j) (no_type_by_wildcard c r w)
  closer_read : {c : Place} {i : ℕ} {r : NsecAt} → CountsAt class signer groups i r → AreReadOf class signer groups (no_closer c i) (no_closer c r)

-- the groups at the indexes count, and their records deny what is denied of a type of 16 bits: each is of its place, and each zone with the
-- signer as apex of which they are true owns nothing of it (RFC 1035 3.2.3, RFC 4035 5.4)
pub record IsProof (class : ℕ) (signer : Place) (groups : List Evidence) (n : Place) (q : ℕ) (d : Denial ℕ) : Type 0 where
  pub records : Denial NsecAt
  pub read : AreReadOf class signer groups d records
  pub denial : q < 65536 → IsDenial signer n q records

-- what a group is to a denial
pub data Sighting : Type 0 where
  -- it doesn't count
  passed : Sighting
  -- it would count, but is a wildcard's expansion
  expanded : Sighting
  -- it counts, as this record
  counts : NsecAt → Sighting

-- the data of the one NSEC record: of several none counts, since a name has one (RFC 4034 4)
abbrev pub only_nsec : List Record → Option Nsec
only_nsec (only ∷ []) = nsec_of only.rdata
only_nsec _ = None

-- by these data
abbrev pub sighting_by : Bool → Labels → Option Nsec → Sighting
sighting_by is_expanded owner None = passed
sighting_by is_expanded owner (Some nsec) = if is_expanded then expanded else counts (record { owner = owner; says = nsec })

-- what a group is to a denial of this class that this zone signed
abbrev pub sighting : ℕ → Place → Evidence → Sighting
sighting class signer e =
    if (e.group.rtype == NSEC) && (e.group.class == class) && e.is_secure && same_place e.signer signer
    then sighting_by e.is_expanded e.group.owner (only_nsec e.group.records) else passed
