-- What a walk comes to, as the code keeps it (RFC 5155 8.3).
use Rattle.std.specs.Prelude.{ℕ, List, [], ◌∷◌, ◌++◌, take, Option}
use Rattle.dsec_spec.specs.Names.{Labels, place}
use Rattle.dsec_nsec3.specs.HashedDenials.{filling}
use Rattle.dsec_nsec3.specs.Walks as walks
use Rattle.dsec_nsec3.specs.Walks.{gone, barred, halted, exhausted, unfound, no_candidate, is_signer, matched_by}
use Rattle.dsec_nsec3_calls.specs.Sightings.{end_view}
use Rattle.dsec_nsec3_calls.specs.declared.step.Candidate.{Candidate}
use Rattle.dsec_nsec3_calls.specs.declared.step.Candidate.TheVariants.{Nothing, Signer, MatchedBy}
use Rattle.dsec_nsec3_calls.specs.declared.step.Walk.{Walk}
use Rattle.dsec_nsec3_calls.specs.declared.step.Walk.TheVariants.{Gone, Barred, Halted, Exhausted, Unfound}
use Rattle.dsec_nsec3_calls.specs.declared.step.Step.{Step}
use Rattle.dsec_nsec3_calls.specs.declared.step.Step.TheVariants.{On, Ends}

-- the groups that show that a name is missing: of the record at its closest encloser, unless that is the zone's name, and of that around its
-- next closer name
abbrev pub shown_by : Option ℕ → ℕ → List ℕ
shown_by at_encloser around = filling at_encloser ++ around ∷ []

-- by what a name may be the closest encloser
abbrev pub candidate_view : Candidate → walks.Candidate
candidate_view Nothing = no_candidate
candidate_view Signer = is_signer
candidate_view (MatchedBy i) = matched_by i

-- what a walk down to a name comes to
abbrev pub walk_view : Labels → Walk → walks.Walk
walk_view name (Gone it) = gone (take it.labels (place name)) it.at_encloser it.around it.opt_out
walk_view name Barred = barred
walk_view name (Halted i end) = halted i (end_view end)
walk_view name Exhausted = exhausted
walk_view name Unfound = unfound

-- a step of it, and what comes later with so many hashes left
abbrev pub step_to : Labels → Step → ℕ → (walks.Candidate → ℕ → walks.Walk) → walks.Walk
step_to name (On next) left later = later (candidate_view next) left
step_to name (Ends walk) left later = walk_view name walk
