-- Answers of a name and the wildcard under its closest encloser, put together (RFC 5155 8.4, 8.7).
use Rattle.std.proofs.Common.{◌≡◌, ℕ, ◌++◌, [], ◌∷◌, take, Bool, true, false, Option, Some, None, refl, sym, ap, ◌∙◌}
use Rattle.dsec_cause.specs.declared.cause.Cause.TheVariants.{WildcardTooLong}
use Rattle.dsec_spec.specs.Names.{Labels, Place, place}
use Rattle.dsec_spec.specs.SignedBytes.{rightmost}
use Rattle.dsec_absence.specs.Answers.{star_closest_encloser}
use Rattle.dsec_spec.proofs.PlaceLemmas.{front_of_place}
use Rattle.dsec_nsec3.specs.HashedAnswers.{Hashed, next_closer, told_by_walk, told_of_both}
use Rattle.dsec_nsec3.specs.HashedDenials.{HashedDenial, hashed_used_in, name_gone, wildcard_type_gone}
use Rattle.dsec_nsec3.specs.Openings.{by_opt_out}
use Rattle.dsec_nsec3.specs.Walks.{Walk, gone}
use Rattle.dsec_nsec3_calls.specs.Answers.{answer_of, told_both}
use Rattle.dsec_nsec3_calls.specs.Walked.{shown_by}
use Rattle.dsec_nsec3_calls.specs.declared.answer.HashedAnswer.{HashedAnswer}
use Rattle.dsec_nsec3_calls.specs.declared.answer.HashedAnswer.TheVariants.{Broken}

-- what a denial of both uses
pub name_uses : (c : Place) (at_encloser : Option ℕ) (around j : ℕ) → hashed_used_in (name_gone c at_encloser around j) ≡ shown_by at_encloser around ++ j ∷ []
name_uses c None around j = refl
name_uses c (Some i) around j = refl

pub type_uses : (c : Place) (at_encloser : Option ℕ) (around j : ℕ) → hashed_used_in (wildcard_type_gone c at_encloser around j) ≡ shown_by at_encloser around ++ j ∷ []
type_uses c None around j = refl
type_uses c (Some i) around j = refl

module _ (n : Place) (at_star : Place → Hashed ℕ) (denial : Place → Option ℕ → ℕ → ℕ → HashedDenial ℕ) (walk : Walk) (name : Labels) (labels : ℕ) (at_encloser : Option ℕ) (around : ℕ) (opt_out : Bool)
    (is_gone : walk ≡ gone (place (rightmost labels name)) at_encloser around opt_out) where
  -- the wildcard is a name
  pub of_star : (star : Place) (answer : HashedAnswer) → Some star ≡ star_closest_encloser (place (rightmost labels name))
      → answer ≡ answer_of (told_both opt_out (denial (place (rightmost labels name)) at_encloser around) (by_opt_out around (next_closer n (place (rightmost labels name)))) (at_star star))
      → answer ≡ answer_of (told_by_walk n at_star denial walk)
  of_star star answer fits is =
      is ∙ (ap answer_of (both opt_out)
      ∙ (ap (λ (o : Option Place). answer_of (told_of_both at_star (denial (place (rightmost labels name)) at_encloser around) (by_opt_out around (next_closer n (place (rightmost labels name)))) opt_out o)) fits
      ∙ ap (λ (w : Walk). answer_of (told_by_walk n at_star denial w)) (sym is_gone)))
    where
      both : (o : Bool) → told_both o (denial (place (rightmost labels name)) at_encloser around) (by_opt_out around (next_closer n (place (rightmost labels name)))) (at_star star)
          ≡ told_of_both at_star (denial (place (rightmost labels name)) at_encloser around) (by_opt_out around (next_closer n (place (rightmost labels name)))) o (Some star)
      both true = refl
      both false = refl

  -- it is too long for one
  pub too_long : None ≡ star_closest_encloser (place (rightmost labels name)) → Broken WildcardTooLong ≡ answer_of (told_by_walk n at_star denial walk)
  too_long none =
      ap (λ (o : Option Place). answer_of (told_of_both at_star (denial (place (rightmost labels name)) at_encloser around) (by_opt_out around (next_closer n (place (rightmost labels name)))) opt_out o)) none
      ∙ ap (λ (w : Walk). answer_of (told_by_walk n at_star denial w)) (sym is_gone)

-- the closest encloser, as so many of the name's last labels
pub at_rightmost : (name : Labels) (labels : ℕ) (at_encloser : Option ℕ) (around : ℕ) (opt_out : Bool) (walk : Walk) → gone (take labels (place name)) at_encloser around opt_out ≡ walk
    → walk ≡ gone (place (rightmost labels name)) at_encloser around opt_out
at_rightmost name labels at_encloser around opt_out walk e = sym e ∙ ap (λ (c : Place). gone c at_encloser around opt_out) (sym (front_of_place labels name))
