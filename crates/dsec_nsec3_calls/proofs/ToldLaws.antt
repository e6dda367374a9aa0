-- What the code tells, case by case (RFC 5155 8).
use Rattle.std.proofs.Common.{◌≡◌, ℕ, Bool, true, false, List, Option, Some, None, refl, sym, ap, ◌∙◌}
use Rattle.std.specs.Prelude.{IfOk, Result, Ok, Err}
use Rattle.std.proofs.Math.Bool.{not}
use Rattle.dsec_cause.specs.declared.cause.Cause.{Cause}
use Rattle.dsec_cause.specs.declared.cause.Cause.TheVariants.{Nsec3OptOut}
use Rattle.dsec_spec.specs.Names.{Place, is_below}
use Rattle.dsec_spec.specs.Numbers.{DNAME}
use Rattle.dsec_spec.specs.DenyingRecords.{Nsec3At, has_hashed, opts_out}
use Rattle.dsec_absence.specs.Answers.{Source}
use Rattle.dsec_nsec3.specs.Conclusions.{closer_by_hash, without_cause}
use Rattle.dsec_nsec3.specs.Counting.{HashLimits}
use Rattle.dsec_nsec3.specs.HashedAnswers.{Hashed, disproved, opened, broken, unshown, as_told, next_closer, nsec3_for_not_exists_no_ce, told_by_covering}
use Rattle.dsec_nsec3.specs.HashedDenials.{HashedDenial, closer_gone}
use Rattle.dsec_nsec3.specs.Tests.{is_hashed_cut, is_own_dname, is_plain}
use Rattle.dsec_nsec3.specs.Walks.{bars, covered, look_covered, look_matched, matched}
use Rattle.dsec_nsec3_calls.specs.Answers.{answer_of}
use Rattle.dsec_nsec3_calls.specs.Looks.{top_of}
use Rattle.dsec_nsec3_calls.specs.Tellings.{told_of}
use Rattle.dsec_nsec3_calls.specs.Told.{gone_told, missing_below, open_below}
use Rattle.dsec_nsec3_calls.specs.declared.answer.HashedAnswer.{HashedAnswer}
use Rattle.dsec_nsec3_calls.specs.declared.answer.HashedAnswer.TheVariants.{Nothing}
use Rattle.dsec_nsec3_calls.specs.declared.told.Told.TheVariants.{Disproved, Opened}

pub not_true : (b : Bool) → not b ≡ true → b ≡ false
not_true true e = absurd cc
not_true false e = refl

pub not_false : (b : Bool) → not b ≡ false → b ≡ true
not_false true e = refl
not_false false e = absurd cc

-- a missing name, with Opt-Out and without
module _ (c d : Place) (used other : List ℕ) (opt_out : Bool) (same : c ≡ d) (uses : used ≡ other) where
  pub gone_open : opt_out ≡ true → (open_below c, Some Nsec3OptOut, used) ≡ gone_told d other opt_out
  gone_open e = rw (e, same, uses) refl

  pub gone_closed : opt_out ≡ false → (missing_below c, None, used) ≡ gone_told d other opt_out
  gone_closed e = rw (e, same, uses) refl

module _ (r : Nsec3At) (i left : ℕ) where
  pub plain_matched : is_plain r ≡ true → matched i left ≡ look_matched i left r
  plain_matched e = rw e refl

  pub other_bars : is_plain r ≡ false → bars ≡ look_matched i left r
  other_bars e = rw e refl

  -- a record that covers a name which isn't next to the zone's
  pub not_top : (top : Bool) (zone : Place) (o : Bool) → top ≡ false → o ≡ opts_out r → covered i left o ≡ look_covered (top_of top zone) i left r
  not_top top zone o t e = rw (t, e) refl

  pub plain_without : (cut : Bool) → has_hashed r DNAME ≡ false → cut ≡ is_hashed_cut r → not cut ≡ is_plain r
  plain_without cut d e = rw (d, e) refl

module _ (signer n : Place) (i : ℕ) (r : Nsec3At) (other : is_own_dname signer r ≡ false) where
  pub cover_opens : opts_out r ≡ true → Opened None i ≡ told_of (told_by_covering signer n i r)
  cover_opens o = rw (other, o) refl

  pub cover_disproves : opts_out r ≡ false → Disproved i ≡ told_of (told_by_covering signer n i r)
  cover_disproves o = rw (other, o) refl

module _ (limits : HashLimits) (s : Source) (n c next : Place) (is : next ≡ next_closer n c) where
  pub closer_elsewhere : is_below next s.signer ≡ false → Nothing None ≡ answer_of (closer_by_hash limits s n c)
  closer_elsewhere b = let e = sym (ap (λ (m : Place). is_below m s.signer) is) ∙ b in rw e refl

  pub closer_within : (answer : HashedAnswer) → is_below next s.signer ≡ true → answer ≡ answer_of (without_cause (as_told (closer_gone c) (nsec3_for_not_exists_no_ce limits s next)))
      → answer ≡ answer_of (closer_by_hash limits s n c)
  closer_within answer b h =
      let e = sym (ap (λ (m : Place). is_below m s.signer) is) ∙ b in
      rw e (h ∙ ap (λ (m : Place). answer_of (without_cause (as_told (closer_gone c) (nsec3_for_not_exists_no_ce limits s m)))) is)

-- an answer that shows nothing is of what shows nothing
abbrev shows_none : Option Cause → Hashed (HashedDenial ℕ)
shows_none cause = unshown cause

pub was_unshown : (told : Hashed (HashedDenial ℕ)) (cause : Option Cause) → answer_of told ≡ Nothing cause → unshown cause ≡ told
was_unshown (disproved d) cause e = absurd cc
was_unshown (opened why by) cause e = absurd cc
was_unshown (broken why) cause e = absurd cc
was_unshown (unshown why) cause e = let same : cause ≡ why = cc in ap shows_none same

-- what an answer is, where it comes
pub if_ok : {A E : Type 0} (P Q : A → Type 0) (result : Result A E) → ((a : A) → P a → Q a) → IfOk result P → IfOk result Q
if_ok P Q (Ok a) f h = f a h
if_ok P Q (Err e) f h = tt
