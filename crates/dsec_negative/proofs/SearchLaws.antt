-- A search of judged groups, step by step.
use Rattle.std.proofs.Common.{◌≡◌, ℕ, ◌+◌, ◌<◌, Bool, true, false, List, ◌∷◌, length, get_or, drop, refl, sym, ap, ◌∙◌}
use Rattle.dsec_cause.specs.declared.cause.Cause.{Cause}
use Rattle.dsec_spec.specs.Names.{Labels, place}
use Rattle.dsec_spec.specs.DenyingRecords.{NsecAt}
use Rattle.dsec_wire.specs.declared.nsec.Nsec.{Nsec}
use Rattle.dsec_nodes.specs.Judging.{Judged}
use Rattle.dsec_absence.specs.Evidence as evidence
use Rattle.dsec_absence.specs.Evidence.{sighting}
use Rattle.dsec_absence.specs.Tests.{Shown, silent, refutes, denies}
use Rattle.dsec_absence.specs.Answers.{found, refuted, search, sightings}
use Rattle.dsec_absence.proofs.SearchSteps.{after_some, refusal, past, past_refused, past_silent, ends_refuted, ends_found}
use Rattle.dsec_negative.specs.Views.{evidence_of, source_of, record_at, sighting_view}
use Rattle.dsec_negative.specs.Told.{refusal_cause}
use Rattle.dsec_negative.specs.declared.sighting.Sighting.{Sighting}
use Rattle.dsec_negative.specs.declared.sighting.Sighting.TheVariants.{Passed, Expanded, Counts}
use Rattle.dsec_negative.proofs.EvidenceLaws.{sighted_at}

-- why one was refused, as the code says it
pub refusal_is : (b : Bool) → refusal_cause b ≡ refusal b
refusal_is true = refl
refusal_is false = refl

module _ {A : Type 0} (shows : NsecAt → Shown A) (groups : List Judged) (class : ℕ) (signer : Labels) (i : ℕ) (d : Judged) (lt : i < length groups) (is : d ≡ get_or groups i d) (before : Bool)
    (so_far : after_some before (search shows i (drop i (sightings (source_of groups class signer)))) ≡ search shows 0 (sightings (source_of groups class signer)))
    (s : Sighting) (seen : sighting_view (get_or groups i d).group.owner s ≡ sighting class (place signer) (evidence_of (get_or groups i d))) where
  abbrev gs : List evidence.Sighting
  gs = sightings (source_of groups class signer)

  abbrev here : evidence.Sighting
  here = sighting class (place signer) (evidence_of (get_or groups i d))

  there : drop i gs ≡ here ∷ drop (i + 1) gs
  there = sighted_at groups class signer i d lt is ∙ ap (λ (j : Judged). sighting class (place signer) (evidence_of j) ∷ drop (i + 1) gs) is

  is_seen : (t : Sighting) → s ≡ t → here ≡ sighting_view (get_or groups i d).group.owner t
  is_seen t e = sym seen ∙ ap (sighting_view (get_or groups i d).group.owner) e

  pub goes_past : s ≡ Passed → after_some before (search shows (i + 1) (drop (i + 1) gs)) ≡ search shows 0 gs
  goes_past e = past shows gs i here there before so_far (is_seen Passed e)

  pub goes_refused : s ≡ Expanded → after_some true (search shows (i + 1) (drop (i + 1) gs)) ≡ search shows 0 gs
  goes_refused e = past_refused shows gs i here there before so_far (is_seen Expanded e)

  module _ (nsec : Nsec) (counting : s ≡ Counts nsec) (owner : Labels) (own : owner ≡ (get_or groups i d).group.owner) (x : Shown A) (shown : x ≡ shows (record_at owner nsec)) where
    abbrev r : NsecAt
    r = record_at (get_or groups i d).group.owner nsec

    is_shown : (y : Shown A) → x ≡ y → shows r ≡ y
    is_shown y e = ap (λ (o : Labels). shows (record_at o nsec)) (sym own) ∙ (sym shown ∙ e)

    pub goes_silent : x ≡ silent → after_some before (search shows (i + 1) (drop (i + 1) gs)) ≡ search shows 0 gs
    goes_silent e = past_silent shows gs i here there before so_far r (is_seen (Counts nsec) counting) (is_shown silent e)

    pub ends_by_refusal : (cause : Cause) → x ≡ refutes cause → refuted cause ≡ search shows 0 gs
    ends_by_refusal cause e = sym (ends_refuted shows gs i here there before so_far r (is_seen (Counts nsec) counting) cause (is_shown (refutes cause) e))

    pub ends_by_record : (a : A) → x ≡ denies a → found i a ≡ search shows 0 gs
    ends_by_record a e = sym (ends_found shows gs i here there before so_far r (is_seen (Counts nsec) counting) a (is_shown (denies a) e))
