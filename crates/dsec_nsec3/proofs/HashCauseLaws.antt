-- The causes that the calls by NSEC3 records give, each where it may come (RFC 5155 8, RFC 6840 4.1, RFC 8914 4, RFC 9276 3.2).
use Rattle.std.proofs.Common.{◌≡◌, ℕ, ◌+◌, ◌==◌, Bool, true, false, cond, List, [], ◌∷◌, map, Option, Some, None, refl, sym, ap, ◌∙◌, subst}
use Rattle.std.specs.Prelude.{slice_get}
use Rattle.std.proofs.lemmas.Bool.{and_parts}
use Rattle.dsec_cause.specs.declared.cause.Cause.{Cause}
use Rattle.dsec_cause.specs.declared.cause.Cause.TheVariants.{WildcardTooLong, Nsec3DnameOrDelegation, Nsec3OptOut, TooManyNsec3Hashes, NoNsec3Proof}
use Rattle.dsec_spec.specs.Names.{Place, asterisk, IsAtOrBelow}
use Rattle.dsec_spec.specs.Numbers.{DS, DNAME}
use Rattle.dsec_spec.specs.Zones.{wildcard}
use Rattle.dsec_spec.specs.DenyingRecords.{Nsec3At, has_hashed, opts_out, MatchesHash, CoversHash}
use Rattle.dsec_spec.proofs.NamesBelow.{below_itself, below_trans}
use Rattle.dsec_absence.specs.Evidence.{Evidence}
use Rattle.dsec_absence.specs.Tests.{Shown, silent, refutes, denies}
use Rattle.dsec_absence.specs.Answers.{Source, star_closest_encloser}
use Rattle.dsec_absence.proofs.AnswerLaws.{star_is}
use Rattle.dsec_absence.proofs.CauseLaws.{too_long_is}
use Rattle.dsec_nsec3.specs.Counting.{HashLimits, Counts, End, too_many_iterations, many_iterations, bad_owner_hash, EndsAt, HashedSighting, ignored, stops, hashed, hashed_sighting, hashed_sightings}
use Rattle.dsec_nsec3.specs.HashedDenials.{HashedDenial, type_gone, name_gone, wildcard_type_gone}
use Rattle.dsec_nsec3.specs.Tests.{matches_hash, covers_hash, own_hash_shows, is_own_dname}
use Rattle.dsec_nsec3.specs.Walks.{Walk, gone, barred, halted, exhausted, unfound, nsec3_for_not_exists}
use Rattle.dsec_nsec3.specs.Openings.{Opening, by_opt_out}
use Rattle.dsec_nsec3.specs.HashedAnswers.{Hashed, disproved, opened, broken, unshown, told_by_end, told_by_shown, type_from, next_closer, ds_by_walk, type_by_hash, as_told, told_by_covering, cover_from, nsec3_for_not_exists_no_ce, told_under_opt_out, told_of_both, told_by_walk, nsec3_for_nodata, nsec3_for_nodata_wildcard, nsec3_for_nxdomain}
use Rattle.dsec_nsec3.specs.HashedRefusals.{end_cause, HashRefutesType, IsBarredBy, by_match, by_signer, HashTypeCause, type_refuted_by_hash, type_ended, HashCoverCause, cover_barred, cover_ended, HashNameCause, name_barred, name_ended, name_exhausted, name_unfound, name_opted_out, no_hashed_wildcard, of_wildcard}
use Rattle.dsec_nsec3.proofs.HashRefusalLaws.{leads_away, own_refutes}
use Rattle.dsec_nsec3.proofs.HashTests.{matches_decides, covers_decides}
use Rattle.dsec_nsec3.proofs.CountingLaws.{StopsBy, Sights, sighting_is, At, at_index, Somewhere, somewhere_first, somewhere_later}
use Rattle.dsec_nsec3.proofs.WalkLaws.{IsBarring, bars_by_match, bars_by_signer, IsBarredAt, Walks, whole_walk}
use Rattle.dsec_nsec3.proofs.GoneLaws.{longer, not_exists_shows, not_exists_halts}

-- the cause that is told, where nothing is denied or left open
abbrev pub cause_told : {A : Type 0} → Hashed A → Option Cause
cause_told (disproved a) = None
cause_told (opened cause o) = None
cause_told (broken cause) = Some cause
cause_told (unshown cause) = cause

same_cause : (c d : Cause) → Some c ≡ Some d → c ≡ d
same_cause c d e = cc

module _ (limits : HashLimits) (class : ℕ) (signer : Place) where
  -- a group ends a call, with this cause
  pub record IsEnding (cause : Cause) (e : Evidence) : Type 0 where
    pub why : End
    pub by : StopsBy limits class signer why e
    pub is : end_cause why ≡ cause

  -- what told causes are of
  pub data TypeCaused (n : Place) (q : ℕ) (cause : Cause) (e : Evidence) : Type 0 where
    by_bits : {r : Nsec3At} → Counts limits class signer e r → MatchesHash r n → HashRefutesType r n q cause → TypeCaused n q cause e
    type_by_end : IsEnding cause e → TypeCaused n q cause e

  pub data CoverCaused (n : Place) (cause : Cause) (e : Evidence) : Type 0 where
    cover_by_signer : {r : Nsec3At} → Counts limits class signer e r → CoversHash r n → has_hashed r DNAME ≡ true → MatchesHash r signer
        → cause ≡ Nsec3DnameOrDelegation → CoverCaused n cause e
    cover_by_end : IsEnding cause e → CoverCaused n cause e

  ending : (A : Type 0) (i : ℕ) (why : End) (cause : Cause) (e : Evidence) → cause_told {A = A} (told_by_end i why) ≡ Some cause → StopsBy limits class signer why e → IsEnding cause e
  ending A i too_many_iterations cause e f by = record { why = too_many_iterations; by = by; is = same_cause (end_cause too_many_iterations) cause f }
  ending A i many_iterations cause e f by = absurd cc
  ending A i bad_owner_hash cause e f by = record { why = bad_owner_hash; by = by; is = same_cause (end_cause bad_owner_hash) cause f }

  type_caused : (n : Place) (q i : ℕ) (cause : Cause) (es : List Evidence) → cause_told (type_from n q i (map (hashed_sighting limits class signer) es)) ≡ Some cause
      → Somewhere (TypeCaused n q cause) es
  unfolding type_from
  type_caused n q i cause [] f = absurd cc
  type_caused n q i cause (e ∷ es) f = by (hashed_sighting limits class signer e) (sighting_is limits class signer e) (λ g. type_caused n q (i + 1) cause es g) f
    where
      rest : List HashedSighting
      rest = map (hashed_sighting limits class signer) es

      Later : Type 0
      Later = cause_told (type_from n q (i + 1) rest) ≡ Some cause → Somewhere (TypeCaused n q cause) es

      shown : (r : Nsec3At) → Counts limits class signer e r → MatchesHash r n → (o : Shown (Unit {0})) → own_hash_shows r n q ≡ o → cause_told (told_by_shown i o) ≡ Some cause
          → Somewhere (TypeCaused n q cause) (e ∷ es)
      shown r c m silent g h = absurd cc
      shown r c m (refutes d) g h = somewhere_first (TypeCaused n q cause) e es (by_bits c m (own_refutes r n q cause (g ∙ ap refutes (same_cause d cause h))))
      shown r c m (denies tt) g h = absurd cc

      by_record : (r : Nsec3At) → Counts limits class signer e r → Later → (m : Bool) → matches_hash r n ≡ m
          → cause_told (cond m (told_by_shown i (own_hash_shows r n q)) (type_from n q (i + 1) rest)) ≡ Some cause → Somewhere (TypeCaused n q cause) (e ∷ es)
      by_record r c later true g h = shown r c ((matches_decides r n).0 g) (own_hash_shows r n q) refl h
      by_record r c later false g h = somewhere_later (TypeCaused n q cause) e es (later h)

      by : (s : HashedSighting) → Sights limits class signer e s → Later → cause_told (type_from n q i (s ∷ rest)) ≡ Some cause → Somewhere (TypeCaused n q cause) (e ∷ es)
      by ignored s later g = somewhere_later (TypeCaused n q cause) e es (later g)
      by (stops why) s later g = somewhere_first (TypeCaused n q cause) e es (type_by_end (ending ℕ i why cause e g s))
      by (hashed r) s later g = by_record r s later (matches_hash r n) refl g

  cover_caused : (n : Place) (i : ℕ) (cause : Cause) (es : List Evidence) → cause_told (cover_from signer n i (map (hashed_sighting limits class signer) es)) ≡ Some cause
      → Somewhere (CoverCaused n cause) es
  unfolding cover_from
  cover_caused n i cause [] f = absurd cc
  cover_caused n i cause (e ∷ es) f = by (hashed_sighting limits class signer e) (sighting_is limits class signer e) (λ g. cover_caused n (i + 1) cause es g) f
    where
      rest : List HashedSighting
      rest = map (hashed_sighting limits class signer) es

      Later : Type 0
      Later = cause_told (cover_from signer n (i + 1) rest) ≡ Some cause → Somewhere (CoverCaused n cause) es

      covering : (r : Nsec3At) → Counts limits class signer e r → CoversHash r n → (o : Bool) → is_own_dname signer r ≡ o → (p : Bool)
          → cause_told (cond o (unshown (Some Nsec3DnameOrDelegation)) (cond p (opened None (by_opt_out i n)) (disproved i))) ≡ Some cause
          → Somewhere (CoverCaused n cause) (e ∷ es)
      covering r c v true g p h =
          let both = and_parts (has_hashed r DNAME) (matches_hash r signer) g in
          somewhere_first (CoverCaused n cause) e es (cover_by_signer c v both.0 ((matches_decides r signer).0 both.1) (sym (same_cause Nsec3DnameOrDelegation cause h)))
      covering r c v false g true h = absurd cc
      covering r c v false g false h = absurd cc

      by_record : (r : Nsec3At) → Counts limits class signer e r → Later → (m : Bool) → covers_hash r n ≡ m
          → cause_told (cond m (told_by_covering signer n i r) (cover_from signer n (i + 1) rest)) ≡ Some cause → Somewhere (CoverCaused n cause) (e ∷ es)
      by_record r c later true g h = covering r c ((covers_decides r n).0 g) (is_own_dname signer r) refl (opts_out r) h
      by_record r c later false g h = somewhere_later (CoverCaused n cause) e es (later h)

      by : (s : HashedSighting) → Sights limits class signer e s → Later → cause_told (cover_from signer n i (s ∷ rest)) ≡ Some cause → Somewhere (CoverCaused n cause) (e ∷ es)
      by ignored s later g = somewhere_later (CoverCaused n cause) e es (later g)
      by (stops why) s later g = somewhere_first (CoverCaused n cause) e es (cover_by_end (ending ℕ i why cause e g s))
      by (hashed r) s later g = by_record r s later (covers_hash r n) refl g

module _ (limits : HashLimits) (s : Source) where
  ended_at : (index : ℕ) (e : Evidence) (why : End) → slice_get s.groups index ≡ Some e → StopsBy limits s.class s.signer why e
      → EndsAt limits s.class s.signer s.groups index why
  ended_at index e why stands by = record { evidence = e; stands = stands; says = by.says; is_nsec3 = by.is_nsec3; ends = by.ends }

  -- a call that a group ends, with this cause
  halted_cause : (A : Type 0) (P : Cause → Type 0) → ((index : ℕ) (why : End) → EndsAt limits s.class s.signer s.groups index why → P (end_cause why))
      → (i : ℕ) (why : End) → At (StopsBy limits s.class s.signer why) 0 s.groups i → (cause : Cause) → cause_told {A = A} (told_by_end i why) ≡ Some cause → P cause
  halted_cause A P makes i too_many_iterations a cause f =
      let x = at_index (StopsBy limits s.class s.signer too_many_iterations) s.groups i a in
      subst P (same_cause (end_cause too_many_iterations) cause f) (makes i too_many_iterations (ended_at i x.0 too_many_iterations x.1 x.2))
  halted_cause A P makes i many_iterations a cause f = absurd cc
  halted_cause A P makes i bad_owner_hash a cause f =
      let x = at_index (StopsBy limits s.class s.signer bad_owner_hash) s.groups i a in
      subst P (same_cause (end_cause bad_owner_hash) cause f) (makes i bad_owner_hash (ended_at i x.0 bad_owner_hash x.1 x.2))

  type_cause : (n : Place) (q : ℕ) (cause : Cause) → Somewhere (TypeCaused limits s.class s.signer n q cause) s.groups → HashTypeCause limits s n q cause
  type_cause n q cause x = by x.holds
    where
      by : TypeCaused limits s.class s.signer n q cause x.evidence → HashTypeCause limits s n q cause
      by (by_bits c m r) = type_refuted_by_hash (record { evidence = x.evidence; stands = x.stands; counts = c }) m r
      by (type_by_end e) = subst (HashTypeCause limits s n q) e.is (type_ended (ended_at x.index x.evidence e.why x.stands e.by))

  -- what a type at a name, or DS by its closest encloser, isn't told for
  pub type_by_hash_cause : (n : Place) → IsAtOrBelow n s.signer → (q : ℕ) (cause : Cause) → cause_told (type_by_hash limits s n q) ≡ Some cause → HashTypeCause limits s n q cause
  type_by_hash_cause n within q cause = by (q == DS)
    where
      own : Hashed ℕ
      own = type_from n q 0 (hashed_sightings limits s)

      by_own : cause_told own ≡ Some cause → HashTypeCause limits s n q cause
      by_own f = type_cause n q cause (type_caused limits s.class s.signer n q 0 cause s.groups f)

      walked : (w : Walk) → nsec3_for_not_exists limits s n ≡ w → cause_told (ds_by_walk n w own) ≡ Some cause → HashTypeCause limits s n q cause
      walked (gone c h i false) e f = absurd cc
      walked (gone c h i true) e f = absurd cc
      walked barred e f = by_own f
      walked (halted i why) e f = halted_cause ℕ (HashTypeCause limits s n q) (λ _ _ x. type_ended x) i why (not_exists_halts limits s n within i why e) cause f
      walked exhausted e f = by_own f
      walked unfound e f = by_own f

      by : (b : Bool) → cause_told (cond b (ds_by_walk n (nsec3_for_not_exists limits s n) own) own) ≡ Some cause → HashTypeCause limits s n q cause
      by true f = walked (nsec3_for_not_exists limits s n) refl f
      by false f = by_own f

  -- nor a name that is to be covered
  pub cover_cause : (n : Place) (cause : Cause) → cause_told (nsec3_for_not_exists_no_ce limits s n) ≡ Some cause → HashCoverCause limits s n cause
  cover_cause n cause f = by x.holds
    where
      x : Somewhere (CoverCaused limits s.class s.signer n cause) s.groups
      x = cover_caused limits s.class s.signer n 0 cause s.groups f

      by : CoverCaused limits s.class s.signer n cause x.evidence → HashCoverCause limits s n cause
      by (cover_by_signer c v bit m is) =
          subst (HashCoverCause limits s n) (sym is) (cover_barred (by_signer (record { evidence = x.evidence; stands = x.stands; counts = c }) (below_itself n) v bit m))
      by (cover_by_end e) = subst (HashCoverCause limits s n) e.is (cover_ended (ended_at x.index x.evidence e.why x.stands e.by))

  -- a walk that is barred is so by a record that counts
  barred_by : (n : Place) → IsBarredAt limits s.class s.signer s.groups n → IsBarredBy limits s n
  barred_by n b = by b.by.holds
    where
      by : IsBarring limits s.class s.signer b.top b.name b.by.evidence → IsBarredBy limits s n
      by (bars_by_match {r = r} c m p) =
          by_match (record { evidence = b.by.evidence; stands = b.by.stands; counts = c }) b.over ((matches_decides r b.name).0 m) (leads_away r p)
      by (bars_by_signer {r = r} {s = top} c v is bit m) =
          by_signer (record { evidence = b.by.evidence; stands = b.by.stands; counts = c }) b.over ((covers_decides r b.name).0 v) bit
          (subst (λ (x : Place). MatchesHash r x) (b.top_is top is) ((matches_decides r top).0 m))

  -- nor a name by its closest encloser, and what is told of the wildcard there
  module _ (n : Place) (within : IsAtOrBelow n s.signer) (at_star : Place → Hashed ℕ) (Reasons : Place → Cause → Type 0)
      (star_cause : (c : Place) → IsAtOrBelow c s.signer → (cause : Cause) → cause_told (at_star (wildcard c)) ≡ Some cause → Reasons (wildcard c) cause) where
    pub walk_cause : (denial : Place → Option ℕ → ℕ → ℕ → HashedDenial ℕ) (cause : Cause) → cause_told (told_by_walk n at_star denial (nsec3_for_not_exists limits s n)) ≡ Some cause
        → HashNameCause limits s n Reasons cause
    walk_cause denial cause f = by (nsec3_for_not_exists limits s n) refl f
      where
        opted_out : (c : Place) (h : Option ℕ) (i : ℕ) → nsec3_for_not_exists limits s n ≡ gone c h i true → Some Nsec3OptOut ≡ Some cause → HashNameCause limits s n Reasons cause
        opted_out c h i e g =
            let x = not_exists_shows limits s n within c h i true e in
            subst (HashNameCause limits s n Reasons) (same_cause Nsec3OptOut cause g) (name_opted_out e x.counts x.flag x.covers)

        open_told : (c : Place) (h : Option ℕ) (i : ℕ) (o : Opening) (t : Hashed ℕ) → nsec3_for_not_exists limits s n ≡ gone c h i true
            → cause_told {A = HashedDenial ℕ} (told_under_opt_out o t) ≡ Some cause → HashNameCause limits s n Reasons cause
        open_told c h i o (disproved j) e g = absurd cc
        open_told c h i o (opened why other) e g = absurd cc
        open_told c h i o (broken why) e g = opted_out c h i e g
        open_told c h i o (unshown why) e g = opted_out c h i e g

        same_told : (f : ℕ → HashedDenial ℕ) (t : Hashed ℕ) → cause_told (as_told f t) ≡ cause_told t
        same_told f (disproved j) = refl
        same_told f (opened why o) = refl
        same_told f (broken why) = refl
        same_told f (unshown why) = refl

        star : (c : Place) (h : Option ℕ) (i : ℕ) (opt_out : Bool) → nsec3_for_not_exists limits s n ≡ gone c h i opt_out → (o : Option Place) → star_closest_encloser c ≡ o
            → cause_told (told_of_both at_star (denial c h i) (by_opt_out i (next_closer n c)) opt_out o) ≡ Some cause → HashNameCause limits s n Reasons cause
        star c h i opt_out e None g k = subst (HashNameCause limits s n Reasons) (same_cause WildcardTooLong cause k) (no_hashed_wildcard e (too_long_is c g))
        star c h i true e (Some w) g k = open_told c h i (by_opt_out i (next_closer n c)) (at_star w) e k
        star c h i false e (Some w) g k =
            let x = not_exists_shows limits s n within c h i false e in
            of_wildcard e (star_cause c x.within cause (ap (λ (y : Place). cause_told (at_star y)) (star_is c w g) ∙ (sym (same_told (denial c h i) (at_star w)) ∙ k)))

        by : (w : Walk) → nsec3_for_not_exists limits s n ≡ w → cause_told (told_by_walk n at_star denial w) ≡ Some cause → HashNameCause limits s n Reasons cause
        by (gone c h i opt_out) e g = star c h i opt_out e (star_closest_encloser c) refl g
        by barred e g =
            subst (HashNameCause limits s n Reasons) (same_cause Nsec3DnameOrDelegation cause g)
            (name_barred (barred_by n (subst (Walks limits s.class s.signer s.groups n) e (whole_walk limits s.class s.signer s.groups n limits.most_hashes (longer n s.signer within)))))
        by (halted i why) e g = halted_cause (HashedDenial ℕ) (HashNameCause limits s n Reasons) (λ _ _ x. name_ended x) i why (not_exists_halts limits s n within i why e) cause g
        by exhausted e g = subst (HashNameCause limits s n Reasons) (same_cause TooManyNsec3Hashes cause g) (name_exhausted e)
        by unfound e g = subst (HashNameCause limits s n Reasons) (same_cause NoNsec3Proof cause g) (name_unfound e)

  module _ (n : Place) (within : IsAtOrBelow n s.signer) where
    -- nsec3_for_nodata
    pub nodata_cause : (q : ℕ) (cause : Cause) → cause_told (nsec3_for_nodata limits s n q) ≡ Some cause → HashTypeCause limits s n q cause
    nodata_cause q cause f = type_by_hash_cause n within q cause (same (type_by_hash limits s n q) ∙ f)
      where
        same : (t : Hashed ℕ) → cause_told t ≡ cause_told (as_told type_gone t)
        same (disproved j) = refl
        same (opened why o) = refl
        same (broken why) = refl
        same (unshown why) = refl

    -- nsec3_for_nodata_wildcard
    pub nodata_wildcard_cause : (q : ℕ) (cause : Cause) → cause_told (nsec3_for_nodata_wildcard limits s n q) ≡ Some cause
        → HashNameCause limits s n (λ m c. HashTypeCause limits s m q c) cause
    nodata_wildcard_cause q cause =
        walk_cause n within (λ star. type_by_hash limits s star q) (λ m c. HashTypeCause limits s m q c)
        (λ c w. type_by_hash_cause (wildcard c) (below_trans (wildcard c) c s.signer (record { under = asterisk ∷ []; is = refl }) w) q) wildcard_type_gone cause

    -- nsec3_for_nxdomain
    pub nxdomain_cause : (cause : Cause) → cause_told (nsec3_for_nxdomain limits s n) ≡ Some cause → HashNameCause limits s n (HashCoverCause limits s) cause
    nxdomain_cause cause = walk_cause n within (λ star. nsec3_for_not_exists_no_ce limits s star) (HashCoverCause limits s) (λ c w. cover_cause (wildcard c)) name_gone cause
