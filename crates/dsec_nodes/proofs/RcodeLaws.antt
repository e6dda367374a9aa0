-- What a reply denies is of the kind that its rcode says (RFC 2308 2).
use Rattle.std.proofs.Common.{◌≡◌, ℕ, Bool, true, false, cond, Option, Some, None, refl, sym, ap, subst}
use Rattle.std.specs.Prelude.{◌≢◌}
use Rattle.std.proofs.lemmas.Bool.{false≢true, eqb-true, false_from_ne_true}
use Rattle.dsec_cause.specs.declared.cause.Cause.TheVariants.{WildcardElsewhere}
use Rattle.dsec_spec.specs.Names.{Place, same_place, is_below}
use Rattle.dsec_absence.specs.Denials.{no_closer}
use Rattle.dsec_absence.specs.Answers.{Search, found, refuted, undecided, Answer, denied, refused, nothing, Source, type_at, missing, star_closest_encloser, nsec_for_nodata, nsec_for_nodata_wildcard, type_answer, type_below, type_by_star, type_by_encloser, name_below, name_by_star, name_by_encloser, closer_answer}
use Rattle.dsec_absence.specs.Replies.{then_answer}
use Rattle.dsec_nsec3.specs.Counting.{HashLimits, End, too_many_iterations, many_iterations, bad_owner_hash}
use Rattle.dsec_nsec3.specs.HashedDenials.{HashedDenial, type_gone, name_gone, wildcard_type_gone, closer_gone}
use Rattle.dsec_nsec3.specs.Openings.{Opening, by_opt_out}
use Rattle.dsec_nsec3.specs.Walks.{Walk, gone, barred, halted, exhausted, unfound, nsec3_for_not_exists}
use Rattle.dsec_nsec3.specs.HashedAnswers.{Hashed, disproved, opened, broken, unshown, as_told, told_by_end, told_under_opt_out, told_of_both, told_by_walk, type_by_hash, next_closer, nsec3_for_not_exists_no_ce, nsec3_for_nodata, nsec3_for_nodata_wildcard}
use Rattle.dsec_nsec3.specs.Conclusions.{Conclusion, proved, hash_proved, left_open, unproved, then_told, concluded, type_denied, name_denied, without_cause, closer_denied, denied_at}
use Rattle.dsec_nodes.specs.ByDenial.{no_error_in}
use Rattle.dsec_nodes.specs.SoundProofs.{Disproof, by_nsec, by_nsec3, IsOfType, IsOfName, IsOfCloser}

-- what an answer by NSEC records denies, and what is told by NSEC3 records, is of a kind
abbrev Denied : (Disproof ℕ → Type 0) → Answer → Type 0
Denied Is (denied d) = Is (by_nsec d)
Denied Is (refused cause) = Unit {0}
Denied Is (nothing cause) = Unit {0}

abbrev ToldOf : (Disproof ℕ → Type 0) → Hashed (HashedDenial ℕ) → Type 0
ToldOf Is (disproved d) = Is (by_nsec3 d)
ToldOf Is (opened cause o) = Unit {0}
ToldOf Is (broken cause) = Unit {0}
ToldOf Is (unshown cause) = Unit {0}

-- and so is what is concluded
abbrev pub OfConclusion : (Disproof ℕ → Type 0) → Conclusion → Type 0
OfConclusion Is (proved d) = Is (by_nsec d)
OfConclusion Is (hash_proved d) = Is (by_nsec3 d)
OfConclusion Is (left_open cause o) = Unit {0}
OfConclusion Is (unproved cause) = Unit {0}

module _ (Is : Disproof ℕ → Type 0) where
  of_concluded : (a : Answer) (t : Hashed (HashedDenial ℕ)) → Denied Is a → ToldOf Is t → OfConclusion Is (concluded a t)
  of_concluded (denied d) t is told = is
  of_concluded (refused cause) t is told = tt
  of_concluded (nothing cause) (disproved d) is told = told
  of_concluded (nothing cause) (opened why o) is told = tt
  of_concluded (nothing cause) (broken why) is told = tt
  of_concluded (nothing cause) (unshown later) is told = tt

  one_or_other : (a b : Answer) → Denied Is a → Denied Is b → Denied Is (then_answer a b)
  one_or_other (denied d) b is later = is
  one_or_other (refused cause) b is later = tt
  one_or_other (nothing cause) (denied d) is later = later
  one_or_other (nothing cause) (refused other) is later = tt
  one_or_other (nothing cause) (nothing other) is later = tt

  one_told_or_other : (a b : Hashed (HashedDenial ℕ)) → ToldOf Is a → ToldOf Is b → ToldOf Is (then_told a b)
  one_told_or_other (disproved d) b is later = is
  one_told_or_other (opened cause o) b is later = tt
  one_told_or_other (broken cause) b is later = tt
  one_told_or_other (unshown cause) (disproved d) is later = later
  one_told_or_other (unshown cause) (opened why o) is later = tt
  one_told_or_other (unshown cause) (broken why) is later = tt
  one_told_or_other (unshown cause) (unshown other) is later = tt

  -- each denial made of what is told is of the kind
  told_as : (f : ℕ → HashedDenial ℕ) → ((i : ℕ) → Is (by_nsec3 (f i))) → (t : Hashed ℕ) → ToldOf Is (as_told f t)
  told_as f is (disproved i) = is i
  told_as f is (opened cause o) = tt
  told_as f is (broken cause) = tt
  told_as f is (unshown cause) = tt

  told_open : (o : Opening) (t : Hashed ℕ) → ToldOf Is (told_under_opt_out o t)
  told_open o (disproved i) = tt
  told_open o (opened cause other) = tt
  told_open o (broken cause) = tt
  told_open o (unshown cause) = tt

  told_ends : (i : ℕ) (why : End) → ToldOf Is (told_by_end i why)
  told_ends i too_many_iterations = tt
  told_ends i many_iterations = tt
  told_ends i bad_owner_hash = tt

  told_walk : (n : Place) (at_star : Place → Hashed ℕ) (denial : Place → Option ℕ → ℕ → ℕ → HashedDenial ℕ)
      → ((c : Place) (h : Option ℕ) (i j : ℕ) → Is (by_nsec3 (denial c h i j))) → (w : Walk) → ToldOf Is (told_by_walk n at_star denial w)
  told_walk n at_star denial is (gone c h i opt_out) = by (by_opt_out i (next_closer n c)) opt_out (star_closest_encloser c)
    where
      by : (o : Opening) (b : Bool) (star : Option Place) → ToldOf Is (told_of_both at_star (denial c h i) o b star)
      by o b None = tt
      by o true (Some star) = told_open o (at_star star)
      by o false (Some star) = told_as (denial c h i) (is c h i) (at_star star)
  told_walk n at_star denial is barred = tt
  told_walk n at_star denial is (halted i why) = told_ends i why
  told_walk n at_star denial is exhausted = tt
  told_walk n at_star denial is unfound = tt

type_there : (x : Search (Unit {0})) → Denied IsOfType (type_answer x)
type_there (found i u) = tt
type_there (refuted cause) = tt
type_there (undecided cause) = tt

type_at_wildcard : (s : Source) (q : ℕ) (x : Search Place) → Denied IsOfType (type_by_encloser s q x)
type_at_wildcard s q (refuted cause) = tt
type_at_wildcard s q (undecided cause) = tt
type_at_wildcard s q (found i c) = by (star_closest_encloser c)
  where
    below : (y : Search (Unit {0})) → Denied IsOfType (type_below c i y)
    below (found j u) = tt
    below (refuted cause) = tt
    below (undecided cause) = tt

    by : (o : Option Place) → Denied IsOfType (type_by_star s q c i o)
    by None = tt
    by (Some star) = below (type_at s star q)

-- without an error, a type
type_is : (limits : HashLimits) (s : Source) (n : Place) (q : ℕ) → OfConclusion IsOfType (type_denied limits s n q)
type_is limits s n q =
    of_concluded IsOfType _ _
    (one_or_other IsOfType (nsec_for_nodata s n q) (nsec_for_nodata_wildcard s n q) (type_there (type_at s n q)) (type_at_wildcard s q (missing s n)))
    (one_told_or_other IsOfType (nsec3_for_nodata limits s n q) (nsec3_for_nodata_wildcard limits s n q)
    (told_as IsOfType type_gone (λ _. tt) (type_by_hash limits s n q))
    (told_walk IsOfType n (λ star. type_by_hash limits s star q) wildcard_type_gone (λ _ _ _ _. tt) (nsec3_for_not_exists limits s n)))

-- with one, a name
name_is : (limits : HashLimits) (s : Source) (n : Place) → OfConclusion IsOfName (name_denied limits s n)
name_is limits s n =
    of_concluded IsOfName _ _ (there (missing s n))
    (told_walk IsOfName n (λ star. nsec3_for_not_exists_no_ce limits s star) name_gone (λ _ _ _ _. tt) (nsec3_for_not_exists limits s n))
  where
    there : (x : Search Place) → Denied IsOfName (name_by_encloser s x)
    there (refuted cause) = tt
    there (undecided cause) = tt
    there (found i c) = by (star_closest_encloser c)
      where
        below : (y : Search Place) → Denied IsOfName (name_below c i y)
        below (found j b) = tt
        below (refuted cause) = tt
        below (undecided cause) = tt

        by : (o : Option Place) → Denied IsOfName (name_by_star s c i o)
        by None = tt
        by (Some star) = below (missing s star)

-- for a wildcard, a closer name
pub closer_is : (limits : HashLimits) (s : Source) (n c : Place) → OfConclusion (IsOfCloser c) (closer_denied limits s n c)
closer_is limits s n c = of_concluded (IsOfCloser c) _ _ (there (missing s n)) (by_next (is_below (next_closer n c) s.signer))
  where
    by : (i : ℕ) (b : Bool) → Denied (IsOfCloser c) (cond b (denied (no_closer c i)) (refused WildcardElsewhere))
    by i true = refl
    by i false = tt

    there : (x : Search Place) → Denied (IsOfCloser c) (closer_answer c x)
    there (found i b) = by i (same_place b c)
    there (refuted cause) = tt
    there (undecided cause) = tt

    told : (t : Hashed ℕ) → ToldOf (IsOfCloser c) (without_cause (as_told (closer_gone c) t))
    told (disproved i) = refl
    told (opened cause o) = tt
    told (broken cause) = tt
    told (unshown cause) = tt

    by_next : (b : Bool) → ToldOf (IsOfCloser c) (cond b (without_cause (as_told (closer_gone c) (nsec3_for_not_exists_no_ce limits s (next_closer n c)))) (unshown None))
    by_next true = told (nsec3_for_not_exists_no_ce limits s (next_closer n c))
    by_next false = tt

pub from_no_error : (o : Option ℕ) → no_error_in o ≡ true → o ≡ Some 0
from_no_error None e = absurd (false≢true e)
from_no_error (Some n) e = ap (λ (k : ℕ). Some k) (eqb-true n 0 e)

-- what is denied is of the rcode's kind
pub record IsConcludedBy (rcode : Option ℕ) (c : Conclusion) : Type 0 where
  pub no_error : rcode ≡ Some 0 → OfConclusion IsOfType c
  pub error : rcode ≢ Some 0 → OfConclusion IsOfName c

pub by_rcode_is : (limits : HashLimits) (rcode : Option ℕ) (s : Source) (n : Place) (q : ℕ) → IsConcludedBy rcode (denied_at limits (no_error_in rcode) s n q)
by_rcode_is limits rcode s n q = record {
  no_error = λ fine. subst (λ (o : Option ℕ). OfConclusion IsOfType (denied_at limits (no_error_in o) s n q)) (sym fine) (type_is limits s n q);
  error = λ bad.
      let off : no_error_in rcode ≡ false = false_from_ne_true (no_error_in rcode) (λ t. bad (from_no_error rcode t)) in
      subst (λ (b : Bool). OfConclusion IsOfName (denied_at limits b s n q)) (sym off) (name_is limits s n);
}
