-- A walk, step by step, as the code does it.
use Rattle.std.proofs.Common.{◌≡◌, ℕ, suc, List, take, Option, refl, ap, ◌∙◌, sym}
use Rattle.dsec_spec.specs.Names.{Labels, Place, place}
use Rattle.dsec_nsec3.specs.Counting.{HashedSighting}
use Rattle.dsec_nsec3.specs.Walks as walks
use Rattle.dsec_nsec3.specs.Walks.{unfound, look_from, step, top_by, walk_from}
use Rattle.dsec_nsec3_calls.specs.Looks.{look_view}
use Rattle.dsec_nsec3_calls.specs.Walked.{candidate_view, step_to, walk_view}
use Rattle.dsec_nsec3_calls.specs.declared.look.Look.{Look}
use Rattle.dsec_nsec3_calls.specs.declared.step.Candidate.{Candidate}
use Rattle.dsec_nsec3_calls.specs.declared.step.Step.{Step}
use Rattle.dsec_nsec3_calls.specs.declared.step.Step.TheVariants.{On, Ends}
use Rattle.dsec_nsec3_calls.specs.declared.step.Walk.{Walk}

walk_step : (gs : List HashedSighting) (signer n : Place) (room : ℕ) (above : walks.Candidate) (depth all more : ℕ) → all ≡ suc more
    → walk_from gs signer n room above depth all ≡ step (look_from (top_by signer above) (take (suc depth) n) 0 room gs) (take depth n) above
    (λ next left. walk_from gs signer n left next (suc depth) more)
unfolding walk_from
walk_step gs signer n room above depth all more e = rw e refl

pub walk_ends : (gs : List HashedSighting) (signer n : Place) (room : ℕ) (above : walks.Candidate) (depth all : ℕ) → all ≡ 0 → walk_from gs signer n room above depth all ≡ unfound
unfolding walk_from
walk_ends gs signer n room above depth all e = rw e refl

module _ (gs : List HashedSighting) (signer : Place) (name : Labels) (room : ℕ) (above : Candidate) (depth next_depth all more : ℕ) (count : all ≡ suc more) (deeper : next_depth ≡ suc depth)
    (look : Look) (after : ℕ) (top : Option Place) (seen : look_view look after ≡ look_from top (take next_depth (place name)) 0 room gs) (is_top : top ≡ top_by signer (candidate_view above))
    (s : Step) (stepped : (later : walks.Candidate → ℕ → walks.Walk) → step_to name s after later ≡ step (look_view look after) (take depth (place name)) (candidate_view above) later) where
  abbrev later : walks.Candidate → ℕ → walks.Walk
  later = λ next left. walk_from gs signer (place name) left next (suc depth) more

  whole : walk_from gs signer (place name) room (candidate_view above) depth all ≡ step_to name s after later
  whole =
      walk_step gs signer (place name) room (candidate_view above) depth all more count
      ∙ (sym (ap (λ (l : walks.Look). step l (take depth (place name)) (candidate_view above) later)
      (seen ∙ (ap (λ (t : Option Place). look_from t (take next_depth (place name)) 0 room gs) is_top ∙ ap (λ (k : ℕ). look_from (top_by signer (candidate_view above)) (take k (place name)) 0 room gs) deeper)))
      ∙ sym (stepped later))

  pub walk_goes : (next : Candidate) → s ≡ On next → walk_from gs signer (place name) room (candidate_view above) depth all ≡ walk_from gs signer (place name) after (candidate_view next) next_depth more
  walk_goes next e = whole ∙ (ap (λ (x : Step). step_to name x after later) e ∙ ap (λ (k : ℕ). walk_from gs signer (place name) after (candidate_view next) k more) (sym deeper))

  pub walk_stops : (walk : Walk) → s ≡ Ends walk → walk_view name walk ≡ walk_from gs signer (place name) room (candidate_view above) depth all
  walk_stops walk e = sym (whole ∙ ap (λ (x : Step). step_to name x after later) e)

pub same_walk : (gs : List HashedSighting) (signer n : Place) (room : ℕ) (above : walks.Candidate) (depth other all more : ℕ) → depth ≡ other → all ≡ more
    → walk_from gs signer n room above depth all ≡ walk_from gs signer n room above other more
same_walk gs signer n room above depth other all more d m =
    ap (λ (k : ℕ). walk_from gs signer n room above k all) d ∙ ap (λ (k : ℕ). walk_from gs signer n room above other k) m
