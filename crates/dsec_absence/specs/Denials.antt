-- What is denied, and by which NSEC records, each in its place (RFC 4034 4, RFC 4035 3.1.3, 5.4).
use Rattle.std.specs.Prelude.{◌≡◌, ◌⊎◌, ℕ, List, [], ◌∷◌}
use Rattle.dsec_spec.specs.Names.{Place, IsAtOrBelow, IsStrictlyBelow}
use Rattle.dsec_spec.specs.Zones.{Zone, IsZone, wildcard}
use Rattle.dsec_spec.specs.DenyingRecords.{NsecAt, owner_of, next_of, Matches, Covers}
use Rattle.dsec_spec.specs.DenialTruth.{IsNsecTrue}
use Rattle.dsec_absence.specs.Owning.{OwnsNoType, OwnsNoName, OwnsNoTypeByWildcard, OwnsNoCloser}

-- What is denied of a name, with what fills each place: an NSEC record, or the index of the group that it was read of. One record may
-- fill two places (RFC 4035 3.1.3.2)
pub data Denial (R : Type 0) : Type 0 where
  -- that a set of the type stands at the name (RFC 4035 3.1.3.1): a record of the name
  no_type : (own : R) → Denial R
  -- that the name exists, or the wildcard that could stand for it (3.1.3.2): the closest encloser, a record around the name, and one
  -- around the wildcard
  no_name : (encloser : Place) (around around_wildcard : R) → Denial R
  -- that the name exists, and that the type stands at the wildcard that stands for it (3.1.3.4): the closest encloser, a record around
  -- the name, and one of the wildcard
  no_type_by_wildcard : (encloser : Place) (around of_wildcard : R) → Denial R
  -- that the name exists, for which the wildcard under this name stands (3.1.3.3): a record around the name
  no_closer : (encloser : Place) (around : R) → Denial R

-- what fills the places, in this order
abbrev pub used_in : {R : Type 0} → Denial R → List R
used_in (no_type own) = own ∷ []
used_in (no_name encloser around around_wildcard) = around ∷ around_wildcard ∷ []
used_in (no_type_by_wildcard encloser around of_wildcard) = around ∷ of_wildcard ∷ []
used_in (no_closer encloser around) = around ∷ []

-- the zone owns nothing of what is denied of the name and the type
abbrev pub OwnsNothing : {R : Type 0} → Zone → Place → ℕ → Denial R → Type 0
OwnsNothing z n q (no_type own) = OwnsNoType z n q
OwnsNothing z n q (no_name encloser around around_wildcard) = OwnsNoName z n
OwnsNothing z n q (no_type_by_wildcard encloser around of_wildcard) = OwnsNoTypeByWildcard z n q
OwnsNothing z n q (no_closer encloser around) = OwnsNoCloser z n encloser

-- the record is the name's own; or the name is in its gap, and its next name is under the name, which so has no set and names under it
-- (RFC 4034 4.1, RFC 4592 2.2.2)
abbrev pub IsRecordOf : NsecAt → Place → Type 0
IsRecordOf r n = Matches r n ⊎ (Covers r n × IsAtOrBelow (next_of r) n)

-- c is the longest name that the name is under and that the record's owner or next name is, or is under: since both stand, and nothing
-- between them, the closest encloser (RFC 4592 3.3.1)
pub record IsEncloserBy (r : NsecAt) (n c : Place) : Type 0 where
  pub above : IsStrictlyBelow n c
  pub seen : IsAtOrBelow (owner_of r) c ⊎ IsAtOrBelow (next_of r) c
  pub longest : (m : Place) → IsAtOrBelow n m → IsAtOrBelow (owner_of r) m ⊎ IsAtOrBelow (next_of r) m → IsAtOrBelow c m

-- the name is in the record's gap, by which c is its closest encloser (RFC 4034 4.1.1, RFC 4592 3.3.1)
pub record IsAround (r : NsecAt) (n c : Place) : Type 0 where
  pub covers : Covers r n
  pub encloser : IsEncloserBy r n c

-- a record around the name, and one around the wildcard of the closest encloser that the first shows (RFC 4035 3.1.3.2)
pub record AreAroundBoth (r w : NsecAt) (n c : Place) : Type 0 where
  pub around : IsAround r n c
  pub around_wildcard : Covers w (wildcard c)

-- a record around the name, and one of the wildcard of the closest encloser that the first shows (RFC 4035 3.1.3.4)
pub record AreAroundAndOf (r w : NsecAt) (n c : Place) : Type 0 where
  pub around : IsAround r n c
  pub of_wildcard : IsRecordOf w (wildcard c)

-- each record is of its place (RFC 4035 3.1.3)
abbrev pub AreInPlace : Place → Denial NsecAt → Type 0
AreInPlace n (no_type own) = IsRecordOf own n
AreInPlace n (no_name c around around_wildcard) = AreAroundBoth around around_wildcard n c
AreInPlace n (no_type_by_wildcard c around of_wildcard) = AreAroundAndOf around of_wildcard n c
AreInPlace n (no_closer c around) = IsAround around n c

-- the records are true of the zone (RFC 4034 4)
abbrev pub AreTrue : Zone → Denial NsecAt → Type 0
AreTrue z (no_type own) = IsNsecTrue z own
AreTrue z (no_name c around around_wildcard) = IsNsecTrue z around × IsNsecTrue z around_wildcard
AreTrue z (no_type_by_wildcard c around of_wildcard) = IsNsecTrue z around × IsNsecTrue z of_wildcard
AreTrue z (no_closer c around) = IsNsecTrue z around

-- each zone with this apex of which the records are true owns nothing of what is denied (RFC 4035 5.4)
abbrev pub Denies : Place → Place → ℕ → Denial NsecAt → Type 0
Denies signer n q d = (z : Zone) → IsZone z → z.apex ≡ signer → AreTrue z d → OwnsNothing z n q d

-- the records are of their places, and deny what is denied of the name and the type in the signer's zone (RFC 4035 5.4)
pub record IsDenial (signer n : Place) (q : ℕ) (d : Denial NsecAt) : Type 0 where
  pub in_place : AreInPlace n d
  pub denies : Denies signer n q d
