-- The causes that the calls give, each where it may come (RFC 4035 5.4, RFC 8914 4).
use Rattle.std.proofs.Common.{◌≡◌, ℕ, ◌<◌, Bool, true, false, cond, Option, Some, None, refl, sym, ap, ◌∙◌, subst, inl, inr, ◌⊎◌}
use Rattle.std.specs.Prelude.{nat_lt}
use Rattle.std.proofs.lemmas.Bool.{true≢false, ltb-true}
use Rattle.dsec_cause.specs.declared.cause.Cause.{Cause}
use Rattle.dsec_cause.specs.declared.cause.Cause.TheVariants.{WildcardElsewhere, WildcardTooLong}
use Rattle.dsec_spec.specs.Names.{Place, same_place, wire_length}
use Rattle.dsec_spec.specs.Zones.{wildcard}
use Rattle.dsec_spec.proofs.CanonicalNames.{same_place_decides}
use Rattle.dsec_absence.specs.Denials.{no_closer}
use Rattle.dsec_absence.specs.Tests.{shows_type, shows_missing}
use Rattle.dsec_absence.specs.Answers.{Search, found, refuted, undecided, Answer, denied, refused, nothing, Source, type_at, missing, star_closest_encloser, nsec_for_nodata, type_answer, nsec_for_not_exists, missing_answer, nsec_for_nodata_wildcard, type_below, type_by_star, type_by_encloser, nsec_for_nxdomain, name_below, name_by_star, name_by_encloser, not_exists_for_wildcard, closer_answer}
use Rattle.dsec_absence.specs.Replies.{then_answer}
use Rattle.dsec_absence.specs.Refusals.{cause_in, TypeCause, type_refuted, type_refused, MissingCause, name_refuted, name_refused, WildcardTypeCause, not_missing, type_at_wildcard, no_wildcard, NameCause, not_gone, wildcard_not_gone, no_such_wildcard, CloserCause, no_closer_gone, elsewhere}
use Rattle.dsec_absence.proofs.RefusalLaws.{type_refutes, missing_refutes, search_refuted, search_refused}
use Rattle.dsec_absence.proofs.AnswerLaws.{star_is}

module _ (s : Source) (n : Place) where
  type_no : (q : ℕ) (cause : Cause) → type_at s n q ≡ refuted cause → TypeCause s n q cause
  type_no q cause e =
      let f = search_refuted s.class s.signer (λ r. shows_type r n q) 0 s.groups cause e in
      type_refuted f.there (type_refutes f.r n q cause f.by)

  type_left : (q : ℕ) (cause : Cause) → type_at s n q ≡ undecided (Some cause) → TypeCause s n q cause
  type_left q cause e =
      let f = search_refused s.class s.signer (λ r. shows_type r n q) 0 s.groups cause e in
      subst (TypeCause s n q) (sym f.is) (type_refused f.there)

  name_no : (cause : Cause) → missing s n ≡ refuted cause → MissingCause s n cause
  name_no cause e =
      let f = search_refuted s.class s.signer (λ r. shows_missing r n) 0 s.groups cause e in
      name_refuted f.there (missing_refutes f.r n cause f.by)

  name_left : (cause : Cause) → missing s n ≡ undecided (Some cause) → MissingCause s n cause
  name_left cause e =
      let f = search_refused s.class s.signer (λ r. shows_missing r n) 0 s.groups cause e in
      subst (MissingCause s n) (sym f.is) (name_refused f.there)

same_cause : (c d : Cause) → Some c ≡ Some d → c ≡ d
same_cause c d e = cc

-- nsec_for_nodata
pub nodata_cause : (s : Source) (n : Place) (q : ℕ) (cause : Cause) → cause_in (nsec_for_nodata s n q) ≡ Some cause → TypeCause s n q cause
nodata_cause s n q cause e = by (type_at s n q) refl e
  where
    by : (x : Search (Unit {0})) → type_at s n q ≡ x → cause_in (type_answer x) ≡ Some cause → TypeCause s n q cause
    by (found i u) f g = absurd cc
    by (refuted c) f g = subst (TypeCause s n q) (same_cause c cause g) (type_no s n q c f)
    by (undecided c) f g = type_left s n q cause (f ∙ ap undecided g)

-- nsec_for_not_exists
pub not_exists_cause : (s : Source) (n : Place) (cause : Cause) → cause_in (nsec_for_not_exists s n) ≡ Some cause → MissingCause s n cause
not_exists_cause s n cause e = by (missing s n) refl e
  where
    by : (x : Search Place) → missing s n ≡ x → cause_in (missing_answer x) ≡ Some cause → MissingCause s n cause
    by (found i c) f g = absurd cc
    by (refuted c) f g = subst (MissingCause s n) (same_cause c cause g) (name_no s n c f)
    by (undecided c) f g = name_left s n cause (f ∙ ap undecided g)

-- a wildcard that is no name is too long
pub too_long_is : (c : Place) → star_closest_encloser c ≡ None → 255 < wire_length (wildcard c)
too_long_is c e = by (nat_lt 255 (wire_length (wildcard c))) refl e
  where
    by : (x : Bool) → nat_lt 255 (wire_length (wildcard c)) ≡ x → cond x None (Some (wildcard c)) ≡ None → 255 < wire_length (wildcard c)
    by true f g = ltb-true 255 (wire_length (wildcard c)) f
    by false f g = absurd cc

-- nsec_for_nodata_wildcard
pub nodata_wildcard_cause : (s : Source) (n : Place) (q : ℕ) (cause : Cause) → cause_in (nsec_for_nodata_wildcard s n q) ≡ Some cause → WildcardTypeCause s n q cause
nodata_wildcard_cause s n q cause e = by (missing s n) refl e
  where
    below : (i : ℕ) (c : Place) → missing s n ≡ found i c → (x : Search (Unit {0})) → type_at s (wildcard c) q ≡ x → cause_in (type_below c i x) ≡ Some cause → WildcardTypeCause s n q cause
    below i c f (found j u) g h = absurd cc
    below i c f (refuted d) g h = type_at_wildcard f (subst (TypeCause s (wildcard c) q) (same_cause d cause h) (type_no s (wildcard c) q d g))
    below i c f (undecided d) g h = type_at_wildcard f (type_left s (wildcard c) q cause (g ∙ ap undecided h))

    star : (i : ℕ) (c : Place) → missing s n ≡ found i c → (x : Option Place) → star_closest_encloser c ≡ x → cause_in (type_by_star s q c i x) ≡ Some cause → WildcardTypeCause s n q cause
    star i c f None g h = subst (WildcardTypeCause s n q) (same_cause WildcardTooLong cause h) (no_wildcard f (too_long_is c g))
    star i c f (Some w) g h = below i c f (type_at s (wildcard c) q) refl (let is = star_is c w g in rw is h)

    by : (x : Search Place) → missing s n ≡ x → cause_in (type_by_encloser s q x) ≡ Some cause → WildcardTypeCause s n q cause
    by (found i c) f g = star i c f (star_closest_encloser c) refl g
    by (refuted c) f g = not_missing (subst (MissingCause s n) (same_cause c cause g) (name_no s n c f))
    by (undecided c) f g = not_missing (name_left s n cause (f ∙ ap undecided g))

-- nsec_for_nxdomain
pub nxdomain_cause : (s : Source) (n : Place) (cause : Cause) → cause_in (nsec_for_nxdomain s n) ≡ Some cause → NameCause s n cause
nxdomain_cause s n cause e = by (missing s n) refl e
  where
    below : (i : ℕ) (c : Place) → missing s n ≡ found i c → (x : Search Place) → missing s (wildcard c) ≡ x → cause_in (name_below c i x) ≡ Some cause → NameCause s n cause
    below i c f (found j d) g h = absurd cc
    below i c f (refuted d) g h = wildcard_not_gone f (subst (MissingCause s (wildcard c)) (same_cause d cause h) (name_no s (wildcard c) d g))
    below i c f (undecided d) g h = wildcard_not_gone f (name_left s (wildcard c) cause (g ∙ ap undecided h))

    star : (i : ℕ) (c : Place) → missing s n ≡ found i c → (x : Option Place) → star_closest_encloser c ≡ x → cause_in (name_by_star s c i x) ≡ Some cause → NameCause s n cause
    star i c f None g h = subst (NameCause s n) (same_cause WildcardTooLong cause h) (no_such_wildcard f (too_long_is c g))
    star i c f (Some w) g h = below i c f (missing s (wildcard c)) refl (let is = star_is c w g in rw is h)

    by : (x : Search Place) → missing s n ≡ x → cause_in (name_by_encloser s x) ≡ Some cause → NameCause s n cause
    by (found i c) f g = star i c f (star_closest_encloser c) refl g
    by (refuted c) f g = not_gone (subst (MissingCause s n) (same_cause c cause g) (name_no s n c f))
    by (undecided c) f g = not_gone (name_left s n cause (f ∙ ap undecided g))

-- check_not_exists_for_wildcard by NSEC
pub wildcard_cause : (s : Source) (n c : Place) (cause : Cause) → cause_in (not_exists_for_wildcard s n c) ≡ Some cause → CloserCause s n c cause
wildcard_cause s n c cause e = by (missing s n) refl e
  where
    another : (i : ℕ) (d : Place) → missing s n ≡ found i d → (x : Bool) → same_place d c ≡ x → cause_in (cond x (denied (no_closer c i)) (refused WildcardElsewhere)) ≡ Some cause → CloserCause s n c cause
    another i d f true g h = absurd cc
    another i d f false g h = subst (CloserCause s n c) (same_cause WildcardElsewhere cause h) (elsewhere f (λ is. true≢false (sym ((same_place_decides d c).1 is) ∙ g)))

    by : (x : Search Place) → missing s n ≡ x → cause_in (closer_answer c x) ≡ Some cause → CloserCause s n c cause
    by (found i d) f g = another i d f (same_place d c) refl g
    by (refuted d) f g = no_closer_gone (subst (MissingCause s n) (same_cause d cause g) (name_no s n d f))
    by (undecided d) f g = no_closer_gone (name_left s n cause (f ∙ ap undecided g))

-- one call after another
pub either_cause : (a b : Answer) (c : Cause) → cause_in (then_answer a b) ≡ Some c → (cause_in a ≡ Some c) ⊎ (cause_in b ≡ Some c)
either_cause (denied d) b c e = inl e
either_cause (refused r) b c e = inl e
either_cause (nothing o) (denied d) c e = inr e
either_cause (nothing o) (refused r) c e = inr e
either_cause (nothing o) (nothing None) c e = inl e
either_cause (nothing o) (nothing (Some r)) c e = inr e
