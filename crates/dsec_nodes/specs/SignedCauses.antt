-- By which signed records a name is known to have no chain (RFC 4035 5.2, RFC 5155 8.9, RFC 6840 4.4, RFC 9276 3.2).
use Rattle.std.specs.Prelude.{◌≡◌, ℕ, ◌≤◌, ◌<◌, List, [], ◌∷◌, Contains, Some, true, false}
use Rattle.dsec_spec.specs.Names.{Labels, Place, place, IsStrictlyBelow}
use Rattle.dsec_spec.specs.Numbers.{IN, NS, SOA, DS, NSEC, NSEC3}
use Rattle.dsec_spec.specs.Records.{Record, RecordSet, Ds, ds_of, Rrsig, rrsig_of}
use Rattle.dsec_spec.specs.RecordViews.{Nsec, nsec_of, Nsec3, nsec3_of}
use Rattle.dsec_spec.specs.Base32hex.{octets_in_base32hex}
use Rattle.dsec_spec.specs.DenyingRecords.{NsecAt, Matches, has, Nsec3At, MatchesHash, CoversHash, has_hashed, opts_out}
use Rattle.dsec_spec.specs.Accepts.{Accepts}
use Rattle.dsec_spec.specs.SignedBytes.{IsExpansion}
use Rattle.dsec_spec.specs.DelegationSigner.{IsSupported}
use Rattle.dsec_spec.specs.Chain.{Link, Holds}
use Rattle.dsec_nodes.specs.World.{Bounds}

-- which of five records shows that no chain leads to a name (RFC 4035 5.2, RFC 5155 8.9, RFC 9276 3.2)
pub data Ground : Type 0 where
  -- an NSEC record at a delegation without DS (RFC 4035 5.2)
  nsec_without_ds : Ground
  -- an NSEC3 record that matches a delegation without DS (RFC 5155 8.9)
  nsec3_without_ds : Ground
  -- an NSEC3 record with Opt-Out that covers the name (RFC 5155 8.9)
  nsec3_opts_out : Ground
  -- an NSEC3 record with more iterations than are followed (RFC 9276 3.2)
  nsec3_iterates : Ground
  -- a DS set without a record of a known algorithm and digest (RFC 4035 5.2)
  ds_not_supported : Ground

-- a signed cause: which record it is, and its links, of which the last is its own (RFC 4035 5.2)
pub record SignedCause : Type 0 where
  pub basis : Ground
  pub links : List Link

-- DS data that can't be used: they say no record of a known algorithm and digest (RFC 4035 5.2)
abbrev pub IsUnsupported : List ℕ → Type 0
IsUnsupported data_of_ds = (ds : Ds) → ds_of data_of_ds ≡ Some ds → IsSupported ds → ⊥

-- what NSEC data say at the owner of a set (RFC 4034 4)
abbrev pub nsec_at : RecordSet → Nsec → NsecAt
nsec_at set nsec = record { owner = set.owner; says = nsec }

-- one NSEC record, the name's own, with NS, and without DS and SOA (RFC 4035 5.2, RFC 6840 4.4)
pub record HasNoDs (c : Place) (set : RecordSet) : Type 0 where
  pub of_type : set.rtype ≡ NSEC
  pub rdata : List ℕ
  pub alone : set.datas ≡ rdata ∷ []
  pub nsec : Nsec
  pub reads : nsec_of rdata ≡ Some nsec
  pub matches : Matches (nsec_at set nsec) c
  pub delegates : has (nsec_at set nsec) NS ≡ true
  pub no_ds : has (nsec_at set nsec) DS ≡ false
  pub no_apex : has (nsec_at set nsec) SOA ≡ false

-- a DS set at the name in which no record can be used (RFC 4035 5.2)
pub record IsUnusable (c : Place) (set : RecordSet) : Type 0 where
  pub of_type : set.rtype ≡ DS
  pub at : place set.owner ≡ c
  pub none : (x : List ℕ) → Contains set.datas x → IsUnsupported x

-- one NSEC3 record of the zone, whose owner is a label before the zone's name, with hash algorithm 1 and flags 0 or 1 (RFC 5155 3, 3.1.2,
-- 8.1, 8.2)
pub record IsNsec3 (zone : Place) (set : RecordSet) : Type 0 where
  pub of_type : set.rtype ≡ NSEC3
  pub rdata : List ℕ
  pub alone : set.datas ≡ rdata ∷ []
  pub nsec3 : Nsec3
  pub reads : nsec3_of rdata ≡ Some nsec3
  pub label : List ℕ
  pub rest : Labels
  pub owner : set.owner ≡ label ∷ rest
  pub of_zone : place rest ≡ zone
  pub algorithm : nsec3.hashing.hash_algorithm ≡ 1
  pub flags : nsec3.hashing.flags ≤ 1

-- and the hash that its label writes (RFC 5155 3.3)
pub record IsHashed (zone : Place) (set : RecordSet) : Type 0 where
  pub is_nsec3 : IsNsec3 zone set
  pub owner_hash : List ℕ
  pub hash_is : octets_in_base32hex is_nsec3.label ≡ Some owner_hash

-- such a record as one that denies (RFC 5155 1.3)
abbrev pub nsec3_at : (zone : Place) (set : RecordSet) → IsHashed zone set → Nsec3At
nsec3_at zone set hashed = record { zone = zone; owner_hash = hashed.owner_hash; says = hashed.is_nsec3.nsec3 }

-- an NSEC3 record that matches the name, with NS, and without DS and SOA (RFC 5155 8.9, RFC 6840 4.4)
pub record HasNoDsByHash (c zone : Place) (set : RecordSet) : Type 0 where
  pub hashed : IsHashed zone set
  pub matches : MatchesHash (nsec3_at zone set hashed) c
  pub delegates : has_hashed (nsec3_at zone set hashed) NS ≡ true
  pub no_ds : has_hashed (nsec3_at zone set hashed) DS ≡ false
  pub no_apex : has_hashed (nsec3_at zone set hashed) SOA ≡ false

-- an NSEC3 record with Opt-Out that covers the name (RFC 5155 6, 8.9)
pub record OptsOut (c zone : Place) (set : RecordSet) : Type 0 where
  pub hashed : IsHashed zone set
  pub covers : CoversHash (nsec3_at zone set hashed) c
  pub with_opt_out : opts_out (nsec3_at zone set hashed) ≡ true

-- an NSEC3 record of more iterations than are followed, and not of so many that it is bogus (RFC 9276 3.2)
pub record Iterates (bounds : Bounds) (zone : Place) (set : RecordSet) : Type 0 where
  pub is_nsec3 : IsNsec3 zone set
  pub many : bounds.iterations_insecure < is_nsec3.nsec3.hashing.iterations
  pub not_too_many : is_nsec3.nsec3.hashing.iterations ≤ bounds.iterations_bogus

-- what a set of a zone shows of a name, by which of the five it is (RFC 4035 5.2, RFC 5155 8.9, RFC 9276 3.2)
abbrev pub Shows : Bounds → Ground → Place → Place → RecordSet → Type 0
Shows bounds nsec_without_ds c zone set = HasNoDs c set
Shows bounds nsec3_without_ds c zone set = HasNoDsByHash c zone set
Shows bounds nsec3_opts_out c zone set = OptsOut c zone set
Shows bounds nsec3_iterates c zone set = Iterates bounds zone set
Shows bounds ds_not_supported c zone set = IsUnusable c set

-- a set of class IN, to which a chain from the anchor leads and which is no expansion of a wildcard, shows that no chain leads to the
-- name, which is strictly below the zone that signed the set (RFC 4035 2.4, 5.2, 5.3.4)
pub record IsSignedCause (accepts : Accepts) (bounds : Bounds) (anchor : Record) (c : Place) (cause : SignedCause) (t : ℕ) : Type 0 where
  pub set : RecordSet
  pub holds : Holds accepts (anchor ∷ []) cause.links set t
  pub below : IsStrictlyBelow c holds.zone
  pub of_class : set.class ≡ IN
  pub signature : Rrsig
  pub reads : rrsig_of holds.last.rrsig ≡ Some signature
  pub no_expansion : IsExpansion signature.labels set.owner → ⊥
  pub shows : Shows bounds cause.basis c holds.zone set
