-- A search of groups, step by step.
use Rattle.std.proofs.Common.{◌≡◌, ℕ, zero, suc, ◌+◌, ◌≤◌, Bool, true, false, List, [], ◌∷◌, length, map, drop, Option, Some, None, refl, sym, ap, ◌∙◌, arith}
use Rattle.std.specs.Prelude.{slice_get}
use Rattle.std.proofs.lemmas.List.{drop_all}
use Rattle.dsec_cause.specs.declared.cause.Cause.{Cause}
use Rattle.dsec_cause.specs.declared.cause.Cause.TheVariants.{NsecFromWildcard}
use Rattle.dsec_spec.specs.DenyingRecords.{NsecAt}
use Rattle.dsec_absence.specs.Evidence.{Sighting, passed, expanded, counts}
use Rattle.dsec_absence.specs.Tests.{Shown, silent, refutes, denies}
use Rattle.dsec_absence.specs.Answers.{Search, found, refuted, undecided, by_shown, after_expanded, search}

-- what a search comes to after groups of which one was refused, or none
abbrev pub after_some : {A : Type 0} → Bool → Search A → Search A
after_some true s = after_expanded s
after_some false s = s

-- why one was refused, where one was
abbrev pub refusal : Bool → Option Cause
refusal true = Some NsecFromWildcard
refusal false = None

-- what stands at an index of a mapped list, and what is left from there on
pub mapped_at : {A B : Type 0} (f : A → B) (xs : List A) (i : ℕ) (x : A) → slice_get xs i ≡ Some x → drop i (map f xs) ≡ f x ∷ drop (i + 1) (map f xs)
mapped_at f [] i x e = absurd cc
mapped_at f (y ∷ ys) zero x e = let same : y ≡ x = cc in ap (λ (z : _). f z ∷ map f ys) same
mapped_at f (y ∷ ys) (suc i) x e =
    let next : suc i + 1 ≡ suc (i + 1) = omega arith in
    mapped_at f ys i x e ∙ ap (λ (n : ℕ). f x ∷ drop n (map f (y ∷ ys))) (sym next)

module _ {A : Type 0} (shows : NsecAt → Shown A) (gs : List Sighting) (i : ℕ) (g : Sighting) (there : drop i gs ≡ g ∷ drop (i + 1) gs) (before : Bool)
    (so_far : after_some before (search shows i (drop i gs)) ≡ search shows 0 gs) where
  whole : after_some before (search shows i (g ∷ drop (i + 1) gs)) ≡ search shows 0 gs
  whole = sym (ap (λ (rest : List Sighting). after_some before (search shows i rest)) there) ∙ so_far

  -- a group that doesn't count is gone past
  pub past : g ≡ passed → after_some before (search shows (i + 1) (drop (i + 1) gs)) ≡ search shows 0 gs
  unfolding search
  past e = sym (ap (λ (x : Sighting). after_some before (search shows i (x ∷ drop (i + 1) gs))) e) ∙ whole

  twice : (b : Bool) (s : Search A) → after_some b (after_expanded s) ≡ after_expanded s
  twice true (found k a) = refl
  twice true (refuted cause) = refl
  twice true (undecided cause) = refl
  twice false s = refl

  -- a refused one is kept in mind
  pub past_refused : g ≡ expanded → after_some true (search shows (i + 1) (drop (i + 1) gs)) ≡ search shows 0 gs
  unfolding search
  past_refused e =
      sym (twice before (search shows (i + 1) (drop (i + 1) gs)))
      ∙ (sym (ap (λ (x : Sighting). after_some before (search shows i (x ∷ drop (i + 1) gs))) e) ∙ whole)

  module _ (r : NsecAt) (counting : g ≡ counts r) where
    by_record : (s : Shown A) → shows r ≡ s → after_some before (by_shown i s (search shows (i + 1) (drop (i + 1) gs))) ≡ search shows 0 gs
    unfolding search
    by_record s e =
        ap (λ (x : Shown A). after_some before (by_shown i x (search shows (i + 1) (drop (i + 1) gs)))) (sym e)
        ∙ (sym (ap (λ (x : Sighting). after_some before (search shows i (x ∷ drop (i + 1) gs))) counting) ∙ whole)

    -- a silent record is gone past
    pub past_silent : shows r ≡ silent → after_some before (search shows (i + 1) (drop (i + 1) gs)) ≡ search shows 0 gs
    past_silent e = by_record silent e

    one_refuted : (b : Bool) (cause : Cause) → after_some {A = A} b (refuted cause) ≡ refuted cause
    one_refuted true cause = refl
    one_refuted false cause = refl

    one_found : (b : Bool) (a : A) → after_some b (found i a) ≡ found i a
    one_found true a = refl
    one_found false a = refl

    -- one that refutes ends the search
    pub ends_refuted : (cause : Cause) → shows r ≡ refutes cause → search shows 0 gs ≡ refuted cause
    ends_refuted cause e = sym (by_record (refutes cause) e) ∙ one_refuted before cause

    -- and so does one that denies
    pub ends_found : (a : A) → shows r ≡ denies a → search shows 0 gs ≡ found i a
    ends_found a e = sym (by_record (denies a) e) ∙ one_found before a

-- after the last group none has decided
pub ends_undecided : {A : Type 0} → (shows : NsecAt → Shown A) (gs : List Sighting) (i : ℕ) (before : Bool) → length gs ≤ i
    → after_some before (search shows i (drop i gs)) ≡ search shows 0 gs → search shows 0 gs ≡ undecided (refusal before)
unfolding search
ends_undecided {A = A} shows gs i before end so_far =
    sym so_far ∙ (ap (λ (rest : List Sighting). after_some before (search shows i rest)) (drop_all i gs end) ∙ by before)
  where
    by : (b : Bool) → after_some {A = A} b (undecided None) ≡ undecided (refusal b)
    by true = refl
    by false = refl
