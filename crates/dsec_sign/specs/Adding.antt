-- Signatures that are added to the records that they are over.
use Rattle.std.specs.Prelude.{◌==◌, List, false, ◌≡◌}
use Rattle.std.specs.List.{list_any}
use Rattle.dsec_spec.specs.Numbers.{RRSIG}
use Rattle.dsec_spec.specs.Records.{Record}
use Rattle.dsec_spec.specs.Signatures.{Signs, Signer, Period, AreSignatures}
use Rattle.dsec_spec.specs.CanonicalRecords.{IsCanonical}
use Rattle.dsec_spec.specs.SignedZones.{IsUnion}

-- the signatures of sets by each signer were added, in canonical order
pub record AddsInOrder (signs : Signs) (period : Period) (sets : List (List Record)) (signers : List Signer) (old new : List Record) : Type 0 where
  pub signatures : List Record
  pub are : AreSignatures signs period sets signers signatures
  pub added : IsUnion old signatures new

-- no record of the front is a signature, and those behind it are in canonical order
pub record AreApart (front behind : List Record) : Type 0 where
  pub plain : list_any (λ r. r.rtype == RRSIG) front ≡ false
  pub canonical : IsCanonical behind
