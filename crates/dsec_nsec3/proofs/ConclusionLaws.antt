-- What a reply comes to is so: what is proved is denied by records that count, and what is left open is so by one that counts (RFC 4035 5.4,
-- RFC 5155 8).
use Rattle.std.proofs.Common.{◌≡◌, ℕ, ◌+◌, Bool, true, false, cond, ◌∷◌, take, suc, length, length-append, Option, None, refl, sym, ap, subst, inl, inr, arith}
use Rattle.dsec_cause.specs.declared.cause.Cause.{Cause}
use Rattle.dsec_spec.specs.Names.{Place, is_below, IsAtOrBelow, IsStrictlyBelow}
use Rattle.dsec_spec.specs.Zones.{IsNextCloser}
use Rattle.dsec_spec.proofs.NamesBelow.{at_or_below}
use Rattle.dsec_spec.proofs.SignedTests.{below_decides}
use Rattle.dsec_absence.specs.Denials.{Denial}
use Rattle.dsec_absence.specs.Answers.{Answer, denied, refused, nothing, Source, nsec_for_nodata, nsec_for_nodata_wildcard}
use Rattle.dsec_absence.proofs.AnswerLaws.{Proves, either_answer, nodata_proves, nodata_wildcard_proves, nxdomain_proves, wildcard_proves}
use Rattle.dsec_nsec3.specs.Counting.{HashLimits}
use Rattle.dsec_nsec3.specs.HashedDenials.{HashedDenial, closer_gone}
use Rattle.dsec_nsec3.specs.HashedProofs.{closer_read, IsHashedProof}
use Rattle.dsec_nsec3.specs.Openings.{opening_index, at_or_above, OpensAt}
use Rattle.dsec_nsec3.specs.HashedAnswers.{Hashed, disproved, opened, broken, unshown, as_told, next_closer, nsec3_for_not_exists_no_ce, nsec3_for_nodata, nsec3_for_nodata_wildcard}
use Rattle.dsec_nsec3.specs.Conclusions.{Conclusion, proved, hash_proved, left_open, unproved, then_told, concluded_by_hash, concluded, type_denied, name_denied, without_cause, closer_by_hash, closer_denied, denied_at}
use Rattle.dsec_nsec3.proofs.CountingLaws.{at_index}
use Rattle.dsec_nsec3.proofs.HashDenialLaws as laws
use Rattle.dsec_nsec3.proofs.GoneLaws.{front_is}
use Rattle.dsec_nsec3.proofs.TellingLaws.{IsClosed, TellsOf, cover_tells}
use Rattle.dsec_nsec3.proofs.HashAnswerLaws.{Told, open_at, nodata_told, nodata_wildcard_told, nxdomain_told}
use Rattle.dsec_nsec3.proofs.WalkLaws.{next_is}

-- what a conclusion says of a name and a type: the groups of a source prove it, or one of them leaves it open
abbrev pub Concludes : HashLimits → Source → Place → ℕ → Conclusion → Type 0
Concludes limits s n q (proved d) = Proves s n q d
Concludes limits s n q (hash_proved d) = IsHashedProof limits s.class s.signer s.groups n q d
Concludes limits s n q (left_open cause o) = OpensAt limits s.class s.signer s.groups n cause (opening_index o)
Concludes limits s n q (unproved cause) = Unit {0}

module _ (limits : HashLimits) (s : Source) (n : Place) (q : ℕ) where
  either_told : (a b : Hashed (HashedDenial ℕ)) → Told limits s n q a → Told limits s n q b → Told limits s n q (then_told a b)
  either_told (disproved d) b t u = t
  either_told (opened cause o) b t u = t
  either_told (broken cause) b t u = tt
  either_told (unshown cause) (disproved d) t u = u
  either_told (unshown cause) (opened why o) t u = u
  either_told (unshown cause) (broken why) t u = tt
  either_told (unshown cause) (unshown later) t u = tt

  by_hash : (cause : Option Cause) (t : Hashed (HashedDenial ℕ)) → Told limits s n q t → Concludes limits s n q (concluded_by_hash cause t)
  by_hash cause (disproved d) t = t
  by_hash cause (opened why o) t = t
  by_hash cause (broken why) t = tt
  by_hash cause (unshown later) t = tt

  concludes : (a : Answer) (t : Hashed (HashedDenial ℕ)) → ((d : Denial ℕ) → a ≡ denied d → Proves s n q d) → Told limits s n q t → Concludes limits s n q (concluded a t)
  concludes (denied d) t proves told = proves d refl
  concludes (refused cause) t proves told = tt
  concludes (nothing cause) t proves told = by_hash cause t told

-- of a name strictly under another, the next closer one is one label longer
pub next_of_under : (n c : Place) → IsStrictlyBelow n c → IsNextCloser n c (next_closer n c)
next_of_under n c h =
    let size = ap length h.is in
    let more : length c + 1 ≡ suc (length c) = omega arith in
    subst (λ (d : ℕ). IsNextCloser n c (take d n)) (sym more)
    (subst (λ (x : Place). IsNextCloser n x (take (suc (length c)) n)) (front_is n c (at_or_below n c h))
    (next_is n (length c) (omega (arith, size, length-append c (h.next ∷ h.under)))))

module _ (limits : HashLimits) (s : Source) (n : Place) (within : IsAtOrBelow n s.signer) where
  -- a type at a name
  pub type_concludes : (q : ℕ) → Concludes limits s n q (type_denied limits s n q)
  type_concludes q =
      concludes limits s n q _ _
      (λ d e. elim (either_answer d (nsec_for_nodata s n q) (nsec_for_nodata_wildcard s n q) e) [
        | inl f ↦ nodata_proves s n q d f
        | inr f ↦ nodata_wildcard_proves s n within q d f
      ])
      (either_told limits s n q (nsec3_for_nodata limits s n q) (nsec3_for_nodata_wildcard limits s n q) (nodata_told limits s n within q) (nodata_wildcard_told limits s n within q))

  -- a name
  pub name_concludes : (q : ℕ) → Concludes limits s n q (name_denied limits s n)
  name_concludes q = concludes limits s n q _ _ (nxdomain_proves s n within q) (nxdomain_told limits s n within q)

  -- what is denied at a name
  pub at_concludes : (no_error : Bool) (q : ℕ) → Concludes limits s n q (denied_at limits no_error s n q)
  at_concludes true q = type_concludes q
  at_concludes false q = name_concludes q

  -- no closer name for which the wildcard under c stands, or that is left open
  pub closer_told : (c : Place) → IsStrictlyBelow n c → (q : ℕ) → Told limits s n q (closer_by_hash limits s n c)
  closer_told c under q = by (is_below (next_closer n c) s.signer) refl
    where
      closer : IsNextCloser n c (next_closer n c)
      closer = next_of_under n c under

      told : IsAtOrBelow (next_closer n c) s.signer → (t : Hashed ℕ) → TellsOf limits s (IsClosed limits s.class s.signer (next_closer n c)) n t
          → Told limits s n q (without_cause (as_told (closer_gone c) t))
      told w (disproved i) a =
          let x = at_index (IsClosed limits s.class s.signer (next_closer n c)) s.groups i a in
          record {
            records = closer_gone c x.2.r;
            read = closer_read (record { evidence = x.0; stands = x.1; counts = x.2.counts });
            denial = λ small. laws.closer_denied s.signer x.2.r n c q (record { next = next_closer n c; closer = closer; covered = x.2.covered }) x.2.no_own w;
          }
      told w (opened cause o) a =
          let x = open_at limits s n cause (opening_index o) a in
          record { evidence = x.evidence; stands = x.stands; opens = (x.opens.0, tt) }
      told w (broken cause) a = tt
      told w (unshown cause) a = tt

      by : (b : Bool) → is_below (next_closer n c) s.signer ≡ b
          → Told limits s n q (cond b (without_cause (as_told (closer_gone c) (nsec3_for_not_exists_no_ce limits s (next_closer n c)))) (unshown None))
      by true e =
          let w = (below_decides (next_closer n c) s.signer).0 e in
          told w (nsec3_for_not_exists_no_ce limits s (next_closer n c))
          (cover_tells limits s.class s.signer (next_closer n c) n (at_or_above closer.towards w) 0 s.groups)
      by false e = tt

  pub closer_concludes : (c : Place) → IsStrictlyBelow n c → (q : ℕ) → Concludes limits s n q (closer_denied limits s n c)
  closer_concludes c under q = concludes limits s n q _ _ (wildcard_proves s n within c q) (closer_told c under q)
