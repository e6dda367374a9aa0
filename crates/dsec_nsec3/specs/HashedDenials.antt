-- What is denied, and by which NSEC3 records, each in its place (RFC 5155 8.3 to 8.8).
use Rattle.std.specs.Prelude.{◌≡◌, ◌⊎◌, ℕ, true, false, List, [], ◌∷◌, Option, Some, None}
use Rattle.dsec_spec.specs.Names.{Place, IsAtOrBelow, IsStrictlyBelow}
use Rattle.dsec_spec.specs.Numbers.{NS, SOA, DNAME}
use Rattle.dsec_spec.specs.Zones.{Zone, IsZone, Stands, Exists, IsNextCloser, wildcard}
use Rattle.dsec_spec.specs.DenyingRecords.{Nsec3At, has_hashed, opts_out, MatchesHash, CoversHash}
use Rattle.dsec_spec.specs.DenialTruth.{IsNsec3True, IsFree}
use Rattle.dsec_absence.specs.Owning.{OwnsNoType, OwnsNoName, OwnsNoTypeByWildcard, OwnsNoCloser}

-- What is denied of a name, with what fills each place: an NSEC3 record, or the index of the group that it was read of. One record may
-- fill two places. A closest encloser that is the zone's apex needs no record, since the apex exists (RFC 5155 8.3)
pub data HashedDenial (R : Type 0) : Type 0 where
  -- that a set of the type stands at the name (8.5, 8.6): the record that matches the name
  type_gone : (own : R) → HashedDenial R
  -- that the name exists, or the wildcard that could stand for it (8.4): the closest encloser and the record that matches it, one that
  -- covers the next closer name, and one that covers the wildcard
  name_gone : (encloser : Place) (at_encloser : Option R) (around around_wildcard : R) → HashedDenial R
  -- that the name exists, and that the type stands at the wildcard that stands for it (8.7): the closest encloser and the record that matches
  -- it, one that covers the next closer name, and one that matches the wildcard
  wildcard_type_gone : (encloser : Place) (at_encloser : Option R) (around of_wildcard : R) → HashedDenial R
  -- that the next closer name exists, and so the name, for which the wildcard under this encloser stands (8.8): one that covers it
  closer_gone : (encloser : Place) (around : R) → HashedDenial R

-- what fills a place that may be left empty
abbrev pub filling : {R : Type 0} → Option R → List R
filling None = []
filling (Some r) = r ∷ []

-- what fills the places, in this order
abbrev pub hashed_used_in : {R : Type 0} → HashedDenial R → List R
hashed_used_in (type_gone own) = own ∷ []
hashed_used_in (name_gone c None around around_wildcard) = around ∷ around_wildcard ∷ []
hashed_used_in (name_gone c (Some at_encloser) around around_wildcard) = at_encloser ∷ around ∷ around_wildcard ∷ []
hashed_used_in (wildcard_type_gone c None around of_wildcard) = around ∷ of_wildcard ∷ []
hashed_used_in (wildcard_type_gone c (Some at_encloser) around of_wildcard) = at_encloser ∷ around ∷ of_wildcard ∷ []
hashed_used_in (closer_gone c around) = around ∷ []

-- the zone has neither the name nor the one next to c towards it; and where a set stands at the wildcard under c, no other can stand for the
-- name (RFC 4592 3.3.1, RFC 5155 8.8)
pub record OwnsNoNext (z : Zone) (n c : Place) : Type 0 where
  pub no_name : Exists z n → ⊥
  pub no_next : (m : Place) → IsNextCloser n c m → Exists z m → ⊥
  pub by_wildcard : Stands z (wildcard c) → OwnsNoCloser z n c

-- the zone owns nothing of what is denied of the name and the type
abbrev pub HashedOwnsNothing : {R : Type 0} → Zone → Place → ℕ → HashedDenial R → Type 0
HashedOwnsNothing z n q (type_gone own) = OwnsNoType z n q
HashedOwnsNothing z n q (name_gone c at_encloser around around_wildcard) = OwnsNoName z n
HashedOwnsNothing z n q (wildcard_type_gone c at_encloser around of_wildcard) = OwnsNoTypeByWildcard z n q
HashedOwnsNothing z n q (closer_gone c around) = OwnsNoNext z n c

-- a record without Opt-Out covers the name (RFC 5155 8.4)
pub record IsCovered (r : Nsec3At) (n : Place) : Type 0 where
  pub covers : CoversHash r n
  pub closed : opts_out r ≡ false

-- it covers the next closer name of a name with this encloser (RFC 5155 8.3)
pub record IsAroundNext (r : Nsec3At) (n c : Place) : Type 0 where
  pub next : Place
  pub closer : IsNextCloser n c next
  pub covered : IsCovered r next

-- names below the record's own may be denied beside it: it has no DNAME, and NS with SOA alone (RFC 5155 8.3, RFC 6840 4.1)
pub record IsPlain (r : Nsec3At) : Type 0 where
  pub no_dname : has_hashed r DNAME ≡ false
  pub no_cut : has_hashed r NS ≡ true → has_hashed r SOA ≡ true

-- it isn't one with DNAME that is the signer's own, which says nothing of names below (RFC 6840 4.1)
abbrev pub IsNoOwnDname : Place → Nsec3At → Type 0
IsNoOwnDname signer r = has_hashed r DNAME ≡ true → MatchesHash r signer → ⊥

-- the encloser is the zone's apex, or is below it and matched by the record (RFC 5155 8.3)
abbrev pub IsAtEncloser : Place → Place → Option Nsec3At → Type 0
IsAtEncloser signer c None = c ≡ signer
IsAtEncloser signer c (Some r) = IsStrictlyBelow c signer × MatchesHash r c

-- names below the encloser may be denied: its record lets them be; where it is the apex, which needs none, the record around the next closer name
-- isn't its own with DNAME (RFC 5155 8.3, RFC 6840 4.1)
abbrev pub IsPlainEncloser : Place → Option Nsec3At → Nsec3At → Type 0
IsPlainEncloser signer None around = IsNoOwnDname signer around
IsPlainEncloser signer (Some r) around = IsPlain r

-- the closest encloser proof (RFC 5155 8.3)
pub record IsEncloserProof (signer : Place) (at_encloser : Option Nsec3At) (around : Nsec3At) (n c : Place) : Type 0 where
  pub encloser : IsAtEncloser signer c at_encloser
  pub plain : IsPlainEncloser signer at_encloser around
  pub next : IsAroundNext around n c

-- and a record around the wildcard (RFC 5155 8.4)
pub record AreAroundBoth (signer : Place) (at_encloser : Option Nsec3At) (around around_wildcard : Nsec3At) (n c : Place) : Type 0 where
  pub proof : IsEncloserProof signer at_encloser around n c
  pub wildcard_covered : IsCovered around_wildcard (wildcard c)
  pub no_own : IsNoOwnDname signer around_wildcard

-- or one that matches it (RFC 5155 8.7)
pub record AreAroundAndOf (signer : Place) (at_encloser : Option Nsec3At) (around of_wildcard : Nsec3At) (n c : Place) : Type 0 where
  pub proof : IsEncloserProof signer at_encloser around n c
  pub wildcard_matched : MatchesHash of_wildcard (wildcard c)

-- a record around the next closer name, where the closest encloser is known by an answer from the wildcard under it (RFC 5155 8.8)
pub record IsAroundCloser (signer : Place) (around : Nsec3At) (n c : Place) : Type 0 where
  pub next : IsAroundNext around n c
  pub no_own : IsNoOwnDname signer around

-- each record is of its place (RFC 5155 8.3 to 8.8)
abbrev pub AreHashedInPlace : Place → Place → HashedDenial Nsec3At → Type 0
AreHashedInPlace signer n (type_gone own) = MatchesHash own n
AreHashedInPlace signer n (name_gone c at_encloser around around_wildcard) = AreAroundBoth signer at_encloser around around_wildcard n c
AreHashedInPlace signer n (wildcard_type_gone c at_encloser around of_wildcard) = AreAroundAndOf signer at_encloser around of_wildcard n c
AreHashedInPlace signer n (closer_gone c around) = IsAroundCloser signer around n c

-- the record is true of the zone, and with its parameters no two of the names that exist there and of those concerned share a hash
pub record IsTrueAndFree (z : Zone) (Concerned : Place → Type 0) (r : Nsec3At) : Type 0 where
  pub is_true : IsNsec3True z r
  pub free : IsFree r.says.hashing z Concerned

-- a place that is left empty asks for nothing
abbrev pub IsTrueIfThere : Zone → (Place → Type 0) → Option Nsec3At → Type 0
IsTrueIfThere z Concerned None = Unit {0}
IsTrueIfThere z Concerned (Some r) = IsTrueAndFree z Concerned r

-- the names whose hashes are to differ: the name, those above it, and the wildcard under its closest encloser
abbrev pub IsConcerned : Place → Place → Place → Type 0
IsConcerned n c m = IsAtOrBelow n m ⊎ (m ≡ wildcard c)

-- the records are true of the zone; where one matches a name, hashes tell names apart (RFC 5155 3, 8)
abbrev pub AreHashedTrue : Zone → Place → HashedDenial Nsec3At → Type 0
AreHashedTrue z n (type_gone own) = IsTrueAndFree z (λ m. IsAtOrBelow n m) own
AreHashedTrue z n (name_gone c at_encloser around around_wildcard) =
    IsTrueIfThere z (IsConcerned n c) at_encloser × IsNsec3True z around × IsNsec3True z around_wildcard
AreHashedTrue z n (wildcard_type_gone c at_encloser around of_wildcard) =
    IsTrueIfThere z (IsConcerned n c) at_encloser × IsNsec3True z around × IsTrueAndFree z (IsConcerned n c) of_wildcard
AreHashedTrue z n (closer_gone c around) = IsNsec3True z around

-- each zone with this apex of which the records are true owns nothing of what is denied (RFC 5155 8)
abbrev pub HashedDenies : Place → Place → ℕ → HashedDenial Nsec3At → Type 0
HashedDenies signer n q d = (z : Zone) → IsZone z → z.apex ≡ signer → AreHashedTrue z n d → HashedOwnsNothing z n q d

-- the records are of their places, and deny what is denied of the name and the type in the signer's zone (RFC 5155 8)
pub record IsHashedDenial (signer n : Place) (q : ℕ) (d : HashedDenial Nsec3At) : Type 0 where
  pub in_place : AreHashedInPlace signer n d
  pub denies : HashedDenies signer n q d
