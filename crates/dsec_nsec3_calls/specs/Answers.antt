-- What NSEC3 records answer, and what a reply that denies comes to, as the code keeps it (RFC 4035 5.4, RFC 5155 8).
use Rattle.std.specs.Prelude.{ℕ, Bool, true, false, Option, Result, Ok, Err}
use Rattle.dsec_cause.specs.declared.cause.Cause.{Cause}
use Rattle.dsec_absence.specs.Denials.{used_in}
use Rattle.dsec_nsec3.specs.Conclusions as conclusions
use Rattle.dsec_nsec3.specs.Conclusions.{proved, hash_proved, left_open, unproved, concluded_by_hash}
use Rattle.dsec_nsec3.specs.HashedAnswers.{Hashed, disproved, opened, broken, unshown, as_told, told_under_opt_out}
use Rattle.dsec_nsec3.specs.HashedDenials.{HashedDenial, hashed_used_in}
use Rattle.dsec_nsec3.specs.Openings.{Opening}
use Rattle.dsec_nsec3_calls.specs.Tellings.{opening_index}
use Rattle.dsec_nsec3_calls.specs.declared.answer.HashedAnswer.{HashedAnswer}
use Rattle.dsec_nsec3_calls.specs.declared.answer.HashedAnswer.TheVariants.{Denied, LeftOpen, Broken, Nothing}
use Rattle.dsec_nsec3_calls.specs.declared.conclusion.Conclusion.{Conclusion}
use Rattle.dsec_nsec3_calls.specs.declared.conclusion.Conclusion.TheVariants as ends

-- an answer, its denial by what it uses, and an opening by its group
abbrev pub answer_of : Hashed (HashedDenial ℕ) → HashedAnswer
answer_of (disproved d) = Denied (hashed_used_in d)
answer_of (opened cause by) = LeftOpen cause (opening_index by)
answer_of (broken cause) = Broken cause
answer_of (unshown cause) = Nothing cause

-- what is told of a missing name by what is told of the wildcard under its closest encloser: with Opt-Out the name is left open at best
abbrev pub told_both : Bool → (ℕ → HashedDenial ℕ) → Opening → Hashed ℕ → Hashed (HashedDenial ℕ)
told_both false denial by told = as_told denial told
told_both true denial by told = told_under_opt_out by told

-- a conclusion, its denial by what it uses, and an opening by its group
abbrev pub conclusion_of : conclusions.Conclusion → Conclusion
conclusion_of (proved d) = ends.Proved (used_in d)
conclusion_of (hash_proved d) = ends.Proved (hashed_used_in d)
conclusion_of (left_open cause by) = ends.LeftOpen cause (opening_index by)
conclusion_of (unproved cause) = ends.Unproved cause

-- what NSEC records conclude, or else what NSEC3 records do after the cause that is left
abbrev pub concluded_to : Result Conclusion (Option Cause) → Hashed (HashedDenial ℕ) → Conclusion
concluded_to (Ok conclusion) later = conclusion
concluded_to (Err cause) later = conclusion_of (concluded_by_hash cause later)
