-- By which SOA set a message denies, and what is denied by NSEC records of its authority section (RFC 2308 2, RFC 4033 2, RFC 4035 5.4).
use Rattle.std.specs.Prelude.{◌≡◌, ◌<◌, ℕ, List, slice_get, Some}
use Rattle.dsec_spec.specs.Names.{Place, place, IsAtOrBelow, IsStrictlyBelow}
use Rattle.dsec_spec.specs.Numbers.{SOA}
use Rattle.dsec_spec.specs.Messages.{Question}
use Rattle.dsec_spec.specs.Groups.{Group}
use Rattle.dsec_spec.specs.AtQuestion.{IsLookedForAt, IsIsland}
use Rattle.dsec_spec.specs.DenyingRecords.{NsecAt}
use Rattle.dsec_absence.specs.Denials.{Denial, no_type, no_name, no_type_by_wildcard, no_closer, IsDenial}
use Rattle.dsec_absence.specs.Evidence.{Counts}
use Rattle.dsec_nodes.specs.World.{World}
use Rattle.dsec_nodes.specs.Outcomes.{Used}
use Rattle.dsec_nodes.specs.ByDenial.{evidence_of}
use Rattle.dsec_nodes.specs.SoundFindings.{IsShownItself}

-- the group is the SOA set of a zone that a set of the question's name and type may be in, and that may be trusted from its island: of the
-- question's class, at or above where the set is looked for, so strictly above the name for DS, and not above the island (RFC 2308 2.1,
-- RFC 4033 2, RFC 4035 2.4)
pub record IsSoaFor (w : World) (question : Question) (group : Group) : Type 0 where
  pub of_type : group.rtype ≡ SOA
  pub of_class : group.class ≡ question.class
  pub from : Place
  pub looked_for : IsLookedForAt (place question.name) question.rtype from
  pub over : IsAtOrBelow from (place group.owner)
  pub in_island : (top : Place) → IsIsland w.anchors (place question.name) question.rtype top → IsStrictlyBelow top (place group.owner) → ⊥

-- A group that a denial uses, as this record: the authority section's at this index, one NSEC record of the class, which the zone has
-- signed; links show it, no expansion of a wildcard, from an anchor of its island to that zone (RFC 4034 4, RFC 4035 5.3, 5.4)
pub record IsUsed (w : World) (authorities : List Group) (class : ℕ) (signer : Place) (u : Used) (r : NsecAt) : Type 0 where
  pub stands : slice_get authorities u.index ≡ Some u.judged.group
  pub counts : Counts class signer (evidence_of u.judged) r
  pub itself : IsShownItself w u.judged

-- the groups that a denial uses are so, as the records in the same places
pub data AreUsed (w : World) (authorities : List Group) (class : ℕ) (signer : Place) : Denial Used → Denial NsecAt → Type 0 where
  type_used : {u : Used} {r : NsecAt} → IsUsed w authorities class signer u r → AreUsed w authorities class signer (no_type u) (no_type r)
  name_used : {c : Place} {u v : Used} {r s : NsecAt} → IsUsed w authorities class signer u r → IsUsed w authorities class signer v s
      → AreUsed w authorities class signer (no_name c u v) (no_name c r s)
  wildcard_used : {c : Place} {u v : Used} {r s : NsecAt} → IsUsed w authorities class signer u r → IsUsed w authorities class signer v s
      → AreUsed w authorities class signer (no_type_by_wildcard c u v) (no_type_by_wildcard c r s)
  closer_used : {c : Place} {u : Used} {r : NsecAt} → IsUsed w authorities class signer u r → AreUsed w authorities class signer (no_closer c u) (no_closer c r)

-- What is denied of the question's name and type by NSEC records: by these groups of the authority section, which the zone has signed; and for a type of 16
-- bits, as each in a message of octets has, each zone with that apex of which their records are true owns nothing of it (RFC 1035 3.2.3,
-- RFC 4035 5.4)
pub record IsNsecDenied (w : World) (authorities : List Group) (question : Question) (signer : Place) (denial : Denial Used) : Type 0 where
  pub records : Denial NsecAt
  pub used : AreUsed w authorities question.class signer denial records
  pub denies : question.rtype < 65536 → IsDenial signer (place question.name) question.rtype records
