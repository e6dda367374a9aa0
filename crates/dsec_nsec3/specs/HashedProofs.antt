-- Which groups of a reply prove a denial by hashes (RFC 5155 8).
use Rattle.std.specs.Prelude.{ℕ, ◌<◌, List, Option, Some, None}
use Rattle.dsec_spec.specs.Names.{Place}
use Rattle.dsec_spec.specs.DenyingRecords.{Nsec3At}
use Rattle.dsec_absence.specs.Evidence.{Evidence}
use Rattle.dsec_nsec3.specs.Counting.{HashLimits, CountsAt}
use Rattle.dsec_nsec3.specs.HashedDenials.{HashedDenial, type_gone, name_gone, wildcard_type_gone, closer_gone, IsHashedDenial}

-- the group at an index counts, as the record in the same place, where that is filled
pub data IsReadIfThere (limits : HashLimits) (class : ℕ) (signer : Place) (groups : List Evidence) : Option ℕ → Option Nsec3At → Type 0 where
  is_empty : IsReadIfThere limits class signer groups None None
  is_read : {i : ℕ} {r : Nsec3At} → CountsAt limits class signer groups i r → IsReadIfThere limits class signer groups (Some i) (Some r)

-- the groups at the indexes count, as the records in the same places of the same denial
pub data AreHashedReadOf (limits : HashLimits) (class : ℕ) (signer : Place) (groups : List Evidence) : HashedDenial ℕ → HashedDenial Nsec3At → Type 0 where
  type_read : {i : ℕ} {r : Nsec3At} → CountsAt limits class signer groups i r → AreHashedReadOf limits class signer groups (type_gone i) (type_gone r)
  name_read : {c : Place} {h : Option ℕ} {e : Option Nsec3At} {i j : ℕ} {r w : Nsec3At} → IsReadIfThere limits class signer groups h e
      → CountsAt limits class signer groups i r → CountsAt limits class signer groups j w
      → AreHashedReadOf limits class signer groups (name_gone c h i j) (name_gone c e r w)
  wildcard_read : {c : Place} {h : Option ℕ} {e : Option Nsec3At} {i j : ℕ} {r w : Nsec3At} → IsReadIfThere limits class signer groups h e
      → CountsAt limits class signer groups i r → CountsAt limits class signer groups j w
      → AreHashedReadOf limits class signer groups (wildcard_type_gone c h i j) (wildcard_type_gone c e r w)
  closer_read : {c : Place} {i : ℕ} {r : Nsec3At} → CountsAt limits class signer groups i r
      → AreHashedReadOf limits class signer groups (closer_gone c i) (closer_gone c r)

-- the groups at the indexes count, and their records deny what is denied of a type of 16 bits: each is of its place, and each zone with the
-- signer as apex of which they are true owns nothing of it (RFC 1035 3.2.3, RFC 5155 8)
pub record IsHashedProof (limits : HashLimits) (class : ℕ) (signer : Place) (groups : List Evidence) (n : Place) (q : ℕ) (d : HashedDenial ℕ) : Type 0 where
  pub records : HashedDenial Nsec3At
  pub read : AreHashedReadOf limits class signer groups d records
  pub denial : q < 65536 → IsHashedDenial signer n q records
