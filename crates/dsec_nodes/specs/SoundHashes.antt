-- What is denied, or left open, by NSEC3 records of a message's authority section (RFC 4033 2, RFC 5155 8, RFC 9276 3.2).
use Rattle.std.specs.Prelude.{◌≡◌, ◌<◌, ℕ, List, slice_get, Option, Some, None}
use Rattle.dsec_spec.specs.Names.{Place, place, IsAtOrBelow}
use Rattle.dsec_spec.specs.Messages.{Question}
use Rattle.dsec_spec.specs.Groups.{Group}
use Rattle.dsec_spec.specs.DenyingRecords.{Nsec3At}
use Rattle.dsec_nsec3.specs.Counting.{Counts}
use Rattle.dsec_nsec3.specs.HashedDenials.{HashedDenial, type_gone, name_gone, wildcard_type_gone, closer_gone, IsHashedDenial}
use Rattle.dsec_nsec3.specs.Openings.{OpensTold}
use Rattle.dsec_nodes.specs.World.{World, limits_of}
use Rattle.dsec_nodes.specs.Causes.{Cause}
use Rattle.dsec_nodes.specs.Outcomes.{Used}
use Rattle.dsec_nodes.specs.ByDenial.{evidence_of}
use Rattle.dsec_nodes.specs.SoundFindings.{IsShownItself}

-- A group that a denial uses, as this record: the authority section's at this index, one NSEC3 record of the class, which the zone has signed and
-- whose owner is a label above the zone's name; links show it, no expansion of a wildcard, from an anchor of its island to that zone (RFC 5155 3,
-- RFC 4035 5.3)
pub record IsHashUsed (w : World) (authorities : List Group) (class : ℕ) (signer : Place) (u : Used) (r : Nsec3At) : Type 0 where
  pub stands : slice_get authorities u.index ≡ Some u.judged.group
  pub counts : Counts (limits_of w.bounds) class signer (evidence_of u.judged) r
  pub itself : IsShownItself w u.judged

-- the same of a place that may be left empty
pub data IsUsedIfThere (w : World) (authorities : List Group) (class : ℕ) (signer : Place) : Option Used → Option Nsec3At → Type 0 where
  is_left_empty : IsUsedIfThere w authorities class signer None None
  is_used : {u : Used} {r : Nsec3At} → IsHashUsed w authorities class signer u r → IsUsedIfThere w authorities class signer (Some u) (Some r)

-- the groups that a denial uses are so, as the records in the same places
pub data AreHashUsed (w : World) (authorities : List Group) (class : ℕ) (signer : Place) : HashedDenial Used → HashedDenial Nsec3At → Type 0 where
  hash_type_used : {u : Used} {r : Nsec3At} → IsHashUsed w authorities class signer u r
      → AreHashUsed w authorities class signer (type_gone u) (type_gone r)
  hash_name_used : {c : Place} {t : Option Used} {e : Option Nsec3At} {u v : Used} {r s : Nsec3At} → IsUsedIfThere w authorities class signer t e
      → IsHashUsed w authorities class signer u r → IsHashUsed w authorities class signer v s
      → AreHashUsed w authorities class signer (name_gone c t u v) (name_gone c e r s)
  hash_wildcard_used : {c : Place} {t : Option Used} {e : Option Nsec3At} {u v : Used} {r s : Nsec3At} → IsUsedIfThere w authorities class signer t e
      → IsHashUsed w authorities class signer u r → IsHashUsed w authorities class signer v s
      → AreHashUsed w authorities class signer (wildcard_type_gone c t u v) (wildcard_type_gone c e r s)
  hash_closer_used : {c : Place} {u : Used} {r : Nsec3At} → IsHashUsed w authorities class signer u r
      → AreHashUsed w authorities class signer (closer_gone c u) (closer_gone c r)

-- What is denied of the question's name and type by NSEC3 records: by these groups of the authority section, which the zone has signed; and for a
-- type of 16 bits, each zone with that apex of which their records are true, and in which hashes tell names apart, owns nothing of it
-- (RFC 1035 3.2.3, RFC 5155 8)
pub record IsHashDenied (w : World) (authorities : List Group) (question : Question) (signer : Place) (denial : HashedDenial Used) : Type 0 where
  pub records : HashedDenial Nsec3At
  pub used : AreHashUsed w authorities question.class signer denial records
  pub denies : question.rtype < 65536 → IsHashedDenial signer (place question.name) question.rtype records

-- What is asked of the question's name, which is at or below the zone's apex, is left open by this group of the authority section, which the zone
-- has signed, and which links show as above: an NSEC3 record with more iterations than are followed, and not so many that it is bogus; or with
-- Opt-Out, covering the name, one above it, or the wildcard under one above it; a cause that is told is the record's (RFC 5155 6, RFC 8914 4,
-- RFC 9276 3.2)
pub record IsLeftOpenBy (w : World) (authorities : List Group) (question : Question) (signer : Place) (u : Used) (cause : Option Cause) : Type 0 where
  pub within : IsAtOrBelow (place question.name) signer
  pub stands : slice_get authorities u.index ≡ Some u.judged.group
  pub opens : OpensTold (limits_of w.bounds) question.class signer cause (place question.name) (evidence_of u.judged)
  pub itself : IsShownItself w u.judged
