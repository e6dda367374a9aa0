-- The causes of a reply that proves nothing, each where it may come (RFC 4035 5.4, RFC 5155 8, RFC 8914 4).
use Rattle.std.proofs.Common.{◌≡◌, ℕ, Bool, true, false, cond, Some, None, refl, ap, ◌∙◌, subst, inl, inr, ◌⊎◌}
use Rattle.dsec_cause.specs.declared.cause.Cause.{Cause}
use Rattle.dsec_cause.specs.declared.cause.Cause.TheVariants.{NoDenialProof}
use Rattle.dsec_spec.specs.Names.{Place, is_below, IsAtOrBelow}
use Rattle.dsec_absence.specs.Answers.{Answer, denied, refused, nothing, Source, nsec_for_nodata, nsec_for_nodata_wildcard}
use Rattle.dsec_absence.specs.Refusals.{cause_in, TypeCause, WildcardTypeCause, NameCause, CloserCause}
use Rattle.dsec_absence.proofs.CauseLaws as by_nsec
use Rattle.dsec_nsec3.specs.Counting.{HashLimits}
use Rattle.dsec_nsec3.specs.HashedDenials.{HashedDenial, closer_gone}
use Rattle.dsec_nsec3.specs.HashedAnswers.{Hashed, disproved, opened, broken, unshown, as_told, next_closer, nsec3_for_not_exists_no_ce, nsec3_for_nodata, nsec3_for_nodata_wildcard}
use Rattle.dsec_nsec3.specs.Conclusions.{unproved, then_told, concluded, type_denied, name_denied, without_cause, closer_denied}
use Rattle.dsec_nsec3.specs.HashedRefusals.{HashTypeCause, HashCoverCause, HashNameCause, UnprovedBy, by_nsec_call, by_nsec3_call, by_none}
use Rattle.dsec_nsec3.proofs.HashCauseLaws.{cause_told, cover_cause, nodata_cause, nodata_wildcard_cause, nxdomain_cause}

same_conclusion : (c d : Cause) → unproved c ≡ unproved d → c ≡ d
same_conclusion c d e = cc

-- what a reply comes to, by what the calls gave
unproved_by : (ByNsec ByNsec3 : Cause → Type 0) (a : Answer) (t : Hashed (HashedDenial ℕ)) → ((c : Cause) → cause_in a ≡ Some c → ByNsec c)
    → ((c : Cause) → cause_told t ≡ Some c → ByNsec3 c) → (cause : Cause) → concluded a t ≡ unproved cause → UnprovedBy ByNsec ByNsec3 cause
unproved_by P Q (denied d) t p q cause e = absurd cc
unproved_by P Q (refused c) t p q cause e = by_nsec_call (p cause (ap Some (same_conclusion c cause e)))
unproved_by P Q (nothing o) (disproved d) p q cause e = absurd cc
unproved_by P Q (nothing o) (opened why by) p q cause e = absurd cc
unproved_by P Q (nothing o) (broken c) p q cause e = by_nsec3_call (q cause (ap Some (same_conclusion c cause e)))
unproved_by P Q (nothing o) (unshown (Some c)) p q cause e = by_nsec3_call (q cause (ap Some (same_conclusion c cause e)))
unproved_by P Q (nothing (Some c)) (unshown None) p q cause e = by_nsec_call (p cause (ap Some (same_conclusion c cause e)))
unproved_by P Q (nothing None) (unshown None) p q cause e = subst (UnprovedBy P Q) (same_conclusion NoDenialProof cause e) by_none

-- one call by NSEC3 after another
either_told : (a b : Hashed (HashedDenial ℕ)) (c : Cause) → cause_told (then_told a b) ≡ Some c → (cause_told a ≡ Some c) ⊎ (cause_told b ≡ Some c)
either_told (disproved d) b c e = inl e
either_told (opened cause o) b c e = inl e
either_told (broken cause) b c e = inl e
either_told (unshown cause) (disproved d) c e = inr e
either_told (unshown cause) (opened why o) c e = inr e
either_told (unshown cause) (broken why) c e = inr e
either_told (unshown cause) (unshown None) c e = inl e
either_told (unshown cause) (unshown (Some later)) c e = inr e

module _ (limits : HashLimits) (s : Source) (n : Place) (within : IsAtOrBelow n s.signer) where
  -- why a type isn't denied: by the name's own record, or by those around it and of the wildcard
  pub type_unproved : (q : ℕ) (cause : Cause) → type_denied limits s n q ≡ unproved cause
      → UnprovedBy (λ c. TypeCause s n q c ⊎ WildcardTypeCause s n q c) (λ c. HashTypeCause limits s n q c ⊎ HashNameCause limits s n (λ m. HashTypeCause limits s m q) c) cause
  type_unproved q cause =
      unproved_by (λ c. TypeCause s n q c ⊎ WildcardTypeCause s n q c) (λ c. HashTypeCause limits s n q c ⊎ HashNameCause limits s n (λ m. HashTypeCause limits s m q) c) _ _
      (λ c g. elim (by_nsec.either_cause (nsec_for_nodata s n q) (nsec_for_nodata_wildcard s n q) c g) [
        | inl f ↦ inl (by_nsec.nodata_cause s n q c f)
        | inr f ↦ inr (by_nsec.nodata_wildcard_cause s n q c f)
      ])
      (λ c g. elim (either_told (nsec3_for_nodata limits s n q) (nsec3_for_nodata_wildcard limits s n q) c g) [
        | inl f ↦ inl (nodata_cause limits s n within q c f)
        | inr f ↦ inr (nodata_wildcard_cause limits s n within q c f)
      ]) cause

  -- why a name isn't
  pub name_unproved : (cause : Cause) → name_denied limits s n ≡ unproved cause → UnprovedBy (NameCause s n) (HashNameCause limits s n (HashCoverCause limits s)) cause
  name_unproved cause =
      unproved_by (NameCause s n) (HashNameCause limits s n (HashCoverCause limits s)) _ _ (by_nsec.nxdomain_cause s n) (nxdomain_cause limits s n within) cause

-- why the name isn't for which a wildcard stands
pub closer_unproved : (limits : HashLimits) (s : Source) (n c : Place) (cause : Cause) → closer_denied limits s n c ≡ unproved cause
    → UnprovedBy (CloserCause s n c) (HashCoverCause limits s (next_closer n c)) cause
closer_unproved limits s n c cause =
    unproved_by (CloserCause s n c) (HashCoverCause limits s (next_closer n c)) _ _ (by_nsec.wildcard_cause s n c)
    (λ d f. by d (is_below (next_closer n c) s.signer) f) cause
  where
    same : (t : Hashed ℕ) → cause_told t ≡ cause_told (without_cause (as_told (closer_gone c) t))
    same (disproved j) = refl
    same (opened why o) = refl
    same (broken why) = refl
    same (unshown why) = refl

    by : (d : Cause) (b : Bool) → cause_told (cond b (without_cause (as_told (closer_gone c) (nsec3_for_not_exists_no_ce limits s (next_closer n c)))) (unshown None)) ≡ Some d
        → HashCoverCause limits s (next_closer n c) d
    by d true f = cover_cause limits s (next_closer n c) d (same (nsec3_for_not_exists_no_ce limits s (next_closer n c)) ∙ f)
    by d false f = absurd cc
