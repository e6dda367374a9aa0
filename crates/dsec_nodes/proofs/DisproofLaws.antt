-- What is proved of a name by a message's authority section is denied by groups that are shown, and what is left open is by one.
use Rattle.std.proofs.Common.{◌≡◌, ℕ, List, [], ◌∷◌, map, Option, refl, subst}
use Rattle.std.specs.List.{AllByRecursion}
use Rattle.dsec_spec.specs.Names.{Place, place, IsAtOrBelow}
use Rattle.dsec_spec.specs.Messages.{Question}
use Rattle.dsec_spec.specs.Groups.{Group}
use Rattle.dsec_absence.specs.Denials.{Denial}
use Rattle.dsec_absence.specs.Answers.{Source}
use Rattle.dsec_absence.proofs.AnswerLaws.{Proves}
use Rattle.dsec_nsec3.specs.HashedDenials.{HashedDenial}
use Rattle.dsec_nsec3.specs.HashedProofs.{IsHashedProof}
use Rattle.dsec_nsec3.specs.Openings.{Opening, OpensAt, opening_index}
use Rattle.dsec_nsec3.specs.Conclusions.{Conclusion, proved, hash_proved}
use Rattle.dsec_nodes.specs.World.{World, limits_of}
use Rattle.dsec_nodes.specs.Causes.{Cause}
use Rattle.dsec_nodes.specs.Judging.{Judged}
use Rattle.dsec_nodes.specs.Outcomes.{Used}
use Rattle.dsec_nodes.specs.ByDenial.{evidence_of, source_of, used_by, used_by_hash, used_to_open}
use Rattle.dsec_nodes.specs.SoundFindings.{IsFound}
use Rattle.dsec_nodes.specs.SoundDenials.{AreUsed}
use Rattle.dsec_nodes.specs.SoundHashes.{AreHashUsed, IsLeftOpenBy}
use Rattle.dsec_nodes.specs.SoundProofs.{Disproof, by_nsec, by_nsec3, disproof_used, IsDeniedBy, IsOfType, IsOfName, IsOfCloser}
use Rattle.dsec_nodes.proofs.DenialLaws.{used_are}
use Rattle.dsec_nodes.proofs.HashUseLaws.{hash_used_are, open_is}
use Rattle.dsec_nodes.proofs.RcodeLaws.{OfConclusion}

module _ (w : World) (authorities : List Group) (beside : List Judged) (same : map (λ (j : Judged). j.group) beside ≡ authorities) (founds : AllByRecursion (IsFound w) beside)
    (question : Question) where
  abbrev pub source : Place → Source
  source signer = source_of beside question.class signer

  -- what is proved of the question's name is denied, by groups that are shown
  pub record DisprovedBy (signer : Place) (c : Conclusion) (us : List Used) : Type 0 where
    pub disproof : Disproof Used
    pub found : us ≡ disproof_used disproof
    pub of_type : OfConclusion IsOfType c → IsOfType disproof
    pub of_name : OfConclusion IsOfName c → IsOfName disproof
    pub of_closer : (x : Place) → OfConclusion (IsOfCloser x) c → IsOfCloser x disproof
    pub is_denied : IsDeniedBy w authorities question signer disproof

  pub disproved_is : (signer : Place) (d : Denial ℕ) → Proves (source signer) (place question.name) question.rtype d → DisprovedBy signer (proved d) (used_by beside d)
  disproved_is signer d p =
      let u = used_are w beside question.class signer d p.records founds p.read in
      record {
        disproof = by_nsec u.denial;
        found = u.found;
        of_type = u.same_kind.of_type;
        of_name = u.same_kind.of_name;
        of_closer = u.same_kind.of_closer;
        is_denied = record {
          records = p.records;
          used = subst (λ (gs : List Group). AreUsed w gs question.class signer u.denial p.records) same u.used;
          denies = p.denial;
        };
      }

  pub hash_disproved_is : (signer : Place) (d : HashedDenial ℕ)
      → IsHashedProof (limits_of w.bounds) question.class signer (map evidence_of beside) (place question.name) question.rtype d
      → DisprovedBy signer (hash_proved d) (used_by_hash beside d)
  hash_disproved_is signer d p =
      let u = hash_used_are w beside question.class signer founds d p.records p.read in
      record {
        disproof = by_nsec3 u.denial;
        found = u.found;
        of_type = u.same_kind.of_type;
        of_name = u.same_kind.of_name;
        of_closer = u.same_kind.of_closer;
        is_denied = record {
          records = p.records;
          used = subst (λ (gs : List Group). AreHashUsed w gs question.class signer u.denial p.records) same u.used;
          denies = p.denial;
        };
      }

  -- what is left open of it is by a group that is shown
  pub record OpenedBy (signer : Place) (cause : Option Cause) (o : Opening) : Type 0 where
    pub its : Used
    pub found : used_to_open beside o ≡ its ∷ []
    pub left_open : IsLeftOpenBy w authorities question signer its cause

  pub opened_is : (signer : Place) (cause : Option Cause) (o : Opening) → IsAtOrBelow (place question.name) signer
      → OpensAt (limits_of w.bounds) question.class signer (map evidence_of beside) (place question.name) cause (opening_index o) → OpenedBy signer cause o
  opened_is signer cause o within p =
      let u = open_is w beside question.class signer founds question cause o refl within p in
      record {
        its = u.its;
        found = u.found;
        left_open = subst (λ (gs : List Group). IsLeftOpenBy w gs question signer u.its cause) same u.left_open;
      }
