-- The groups of a reply that may deny by hashes, and the NSEC3 records among them that count (RFC 5155 3, 8.1, 8.2, RFC 9276 3.2).
use Rattle.std.specs.Prelude.{◌≡◌, ◌≤◌, ◌<◌, ℕ, ◌==◌, ◌&&◌, nat_lt, nat_le, List, [], ◌∷◌, length, slice_get, map, Bool, true, false, Option, Some, None, if◌then◌else◌}
use Rattle.std.proofs.Math.Bool.{not}
use Rattle.dsec_spec.specs.Names.{Labels, Place, place, same_place}
use Rattle.dsec_spec.specs.Numbers.{NSEC3}
use Rattle.dsec_spec.specs.Records.{Record}
use Rattle.dsec_spec.specs.RecordViews.{Hashing, Nsec3, nsec3_of}
use Rattle.dsec_spec.specs.Base32hex.{octets_in_base32hex}
use Rattle.dsec_spec.specs.DenyingRecords.{Nsec3At}
use Rattle.dsec_absence.specs.Evidence.{Evidence}
use Rattle.dsec_absence.specs.Answers.{Source}

-- how far hashes are followed (RFC 5155 10.3, RFC 9276 3.2)
pub record HashLimits : Type 0 where
  -- above how many iterations a record leaves a name insecure
  pub iterations_insecure : ℕ
  -- above how many it makes a name bogus
  pub iterations_bogus : ℕ
  -- how many hashes are made at most to find a closest encloser
  pub most_hashes : ℕ

-- The group is one NSEC3 record of the class, with these data: Secure, signed by the zone, no expansion of a wildcard, its owner a label
-- above the zone's name, its hash algorithm 1 and its flags 0 or 1 (RFC 5155 3, 3.1.2, 8.1, 8.2)
pub record IsNsec3Of (class : ℕ) (signer : Place) (e : Evidence) (says : Nsec3) : Type 0 where
  pub of_type : e.group.rtype ≡ NSEC3
  pub of_class : e.group.class ≡ class
  pub only : Record
  pub alone : e.group.records ≡ only ∷ []
  pub reads : nsec3_of only.rdata ≡ Some says
  pub secure : e.is_secure ≡ true
  pub signed_by : e.signer ≡ signer
  pub no_expansion : e.is_expanded ≡ false
  pub label : List ℕ
  pub rest : Labels
  pub owner : e.group.owner ≡ label ∷ rest
  pub of_zone : place rest ≡ signer
  pub algorithm : says.hashing.hash_algorithm ≡ 1
  pub flags : says.hashing.flags ≤ 1

-- It counts as this record: its label writes the hash, it has no more iterations than either limit, and its next hash is as long as its own
-- (RFC 5155 3.1.7, 3.3, RFC 9276 3.2)
pub record Counts (limits : HashLimits) (class : ℕ) (signer : Place) (e : Evidence) (r : Nsec3At) : Type 0 where
  pub is_nsec3 : IsNsec3Of class signer e r.says
  pub zone : r.zone ≡ signer
  pub few : r.says.hashing.iterations ≤ limits.iterations_insecure
  pub not_many : r.says.hashing.iterations ≤ limits.iterations_bogus
  pub writes : octets_in_base32hex is_nsec3.label ≡ Some r.owner_hash
  pub as_long : length r.owner_hash ≡ length r.says.next_owner

-- the group at the index counts, as this record
pub record CountsAt (limits : HashLimits) (class : ℕ) (signer : Place) (groups : List Evidence) (index : ℕ) (r : Nsec3At) : Type 0 where
  pub evidence : Evidence
  pub stands : slice_get groups index ≡ Some evidence
  pub counts : Counts limits class signer evidence r

-- why a group ends a call (RFC 5155 8.1, RFC 9276 3.2)
pub data End : Type 0 where
  -- its iterations are above the bogus limit
  too_many_iterations : End
  -- they are above the insecure limit, and not above the bogus one
  many_iterations : End
  -- its first label writes no hash
  bad_owner_hash : End

-- the group ends a call for this reason
abbrev pub Ends : HashLimits → Nsec3 → List ℕ → End → Type 0
Ends limits says label too_many_iterations = limits.iterations_bogus < says.hashing.iterations
Ends limits says label many_iterations =
    (limits.iterations_insecure < says.hashing.iterations) × (says.hashing.iterations ≤ limits.iterations_bogus)
Ends limits says label bad_owner_hash = octets_in_base32hex label ≡ None

-- the group at the index ends a call, as an NSEC3 record of the zone
pub record EndsAt (limits : HashLimits) (class : ℕ) (signer : Place) (groups : List Evidence) (index : ℕ) (why : End) : Type 0 where
  pub evidence : Evidence
  pub stands : slice_get groups index ≡ Some evidence
  pub says : Nsec3
  pub is_nsec3 : IsNsec3Of class signer evidence says
  pub ends : Ends limits says is_nsec3.label why

-- what a group is to a denial by hashes
pub data HashedSighting : Type 0 where
  -- it doesn't count
  ignored : HashedSighting
  -- it ends the call
  stops : End → HashedSighting
  -- it counts, as this record
  hashed : Nsec3At → HashedSighting

-- whether the hash algorithm and the flags are known ones (RFC 5155 8.1, 8.2)
abbrev pub is_known : Hashing → Bool
is_known how = (how.hash_algorithm == 1) && nat_le how.flags 1

-- by the hash that its label writes: the next hash is to be as long (RFC 5155 3.1.7)
abbrev pub by_hash : Place → Nsec3 → Option (List ℕ) → HashedSighting
by_hash zone says None = stops bad_owner_hash
by_hash zone says (Some hash) =
    if length hash == length says.next_owner then hashed (record { zone = zone; owner_hash = hash; says = says }) else ignored

-- by its data, and by its label above the zone (RFC 5155 8.1, 8.2, RFC 9276 3.2)
abbrev pub by_label : HashLimits → Place → List ℕ → Nsec3 → HashedSighting
by_label limits zone label says =
    if not (is_known says.hashing) then ignored else
    if nat_lt limits.iterations_bogus says.hashing.iterations then stops too_many_iterations else
    if nat_lt limits.iterations_insecure says.hashing.iterations then stops many_iterations else
    by_hash zone says (octets_in_base32hex label)

-- by its owner, which is to be a label above the zone's name (RFC 5155 3)
abbrev pub by_owner : HashLimits → Place → Labels → Option Nsec3 → HashedSighting
by_owner limits zone owner None = ignored
by_owner limits zone [] (Some says) = ignored
by_owner limits zone (label ∷ rest) (Some says) = if same_place (place rest) zone then by_label limits zone label says else ignored

-- the data of the one NSEC3 record: of several none counts, since a hash has one (RFC 5155 7.1)
abbrev pub only_nsec3 : List Record → Option Nsec3
only_nsec3 (only ∷ []) = nsec3_of only.rdata
only_nsec3 _ = None

-- whether a group may count: an NSEC3 group of the class, Secure, signed by the zone, and no expansion of a wildcard (RFC 5155 8.2)
abbrev pub may_count : ℕ → Place → Evidence → Bool
may_count class signer e = (e.group.rtype == NSEC3) && (e.group.class == class) && e.is_secure && same_place e.signer signer && not e.is_expanded

-- what a group is to a denial of this class that this zone signed
abbrev pub hashed_sighting : HashLimits → ℕ → Place → Evidence → HashedSighting
hashed_sighting limits class signer e =
    if may_count class signer e then by_owner limits signer e.group.owner (only_nsec3 e.group.records) else ignored

abbrev pub hashed_sightings : HashLimits → Source → List HashedSighting
hashed_sightings limits s = map (hashed_sighting limits s.class s.signer) s.groups
