-- Courses in step with the recursion over a table, by the replies and the nodes that their walks were given (RFC 4035 5).
use Rattle.std.specs.Prelude.{◌≡◌, ◌==◌, ℕ, List, ◌∷◌, ◌++◌, length, take, drop, false, Some, Result, Ok}
use Rattle.std.specs.List.{AllByRecursion}
use Rattle.dsec_spec.specs.Names.{place}
use Rattle.dsec_spec.specs.Messages.{Question}
use Rattle.dsec_spec.specs.Groups.{Group}
use Rattle.dsec_spec.specs.Islands.{island}
use Rattle.dsec_nodes.specs.World.{World, Replies}
use Rattle.dsec_nodes.specs.Machine.{Walking, node_get, node_put, ask}
use Rattle.dsec_nodes.specs.Likeness.{Likeness}
use Rattle.dsec_nodes.specs.InStep.{AskedOf, GotOf, InStep, StepIs}
use Rattle.dsec_nodes.specs.Judging.{Judged, AllJudged, all, one_bogus, target_of, judged_all}
use Rattle.dsec_nodes.specs.Outcomes.{Outcome, by_links, bogus_by}
use Rattle.dsec_nodes.specs.Alone.{Refusal, on_questions, alone}
use Rattle.dsec_course.specs.Course.{Waiting, to_begin, to_end, for_walk, for_nothing, Course, CourseStep, get_node, put_node, ask_for, end_with, walks_in}

-- the replies that a walk was given are a table's, and so, wholly or but for times, are the nodes
abbrev pub WalkOf : Likeness → World → Replies → Walking → Type 0
WalkOf like w replies s = AskedOf replies s.asked × GotOf like w replies s.top s.got

-- and those of all the walks of a message
abbrev pub CourseOf : Likeness → World → Replies → Course → Type 0
CourseOf like w replies c = AllByRecursion (WalkOf like w replies) (walks_in c)

-- what judging groups comes to behind these, none of which is bogus (RFC 4033 5)
abbrev pub behind : List Judged → AllJudged → AllJudged
behind js (all later) = all (js ++ later)
behind js (one_bogus cause links) = one_bogus cause links

-- the outcome of a message by what judging all its groups came to, so many of which are the answer section's, where so many aliases are followed
-- (RFC 4033 5)
abbrev pub on_all : World → ℕ → List ℕ → List Question → ℕ → AllJudged → Result Outcome Refusal
on_all w most message questions answers (one_bogus cause links) = Ok (bogus_by cause (by_links links))
on_all w most message questions answers (all js) = on_questions w most message questions (take answers js) (drop answers js)

-- with these groups still to be judged, a course comes to the outcome of the message by each table of which its ended walks are
abbrev pub Leads : World → ℕ → List ℕ → Course → List Group → Type 0
Leads w most message c groups = (like : Likeness) (replies : Replies) → AllByRecursion (WalkOf like w replies) c.walks
    → on_all w c.most c.message c.questions c.answers (behind c.judged (judged_all w replies groups)) ≡ alone w most replies message

-- a walk is from the island of a group, which has records, to the zone that is to have signed it (RFC 4033 2, RFC 4035 5.3.1)
pub record IsFor (w : World) (group : Group) (s : Walking) : Type 0 where
  pub has_records : (length group.records == 0) ≡ false
  pub from_island : island w.anchors (place group.owner) group.rtype ≡ Some s.top
  pub to_signer : s.target ≡ target_of group (Some s.top)

-- a course in step with the recursion, by what it waits for
abbrev pub InStepAt : World → ℕ → List ℕ → Course → Waiting → Type 0
InStepAt w most message c to_begin = Leads w most message c c.left
InStepAt w most message c (to_end o) = (replies : Replies) → alone w most replies message ≡ Ok o
InStepAt w most message c (for_walk group s) = IsFor w group s × InStep w s × Leads w most message c (group ∷ c.left)
InStepAt w most message c for_nothing = Unit {0}

-- a course in step with the recursion
abbrev pub CourseInStep : World → ℕ → List ℕ → Course → Type 0
CourseInStep w most message c = InStepAt w most message c c.waits

-- what a step says is what the recursion says: the walk's steps as its own, the end as the outcome of the message, which has no times
abbrev pub CourseStepIs : Likeness → World → ℕ → Replies → List ℕ → Waiting → CourseStep → Type 0
CourseStepIs like w most replies message (for_walk group s) (get_node name) = StepIs like w replies s (node_get name)
CourseStepIs like w most replies message (for_walk group s) (put_node name n) = StepIs like w replies s (node_put name n)
CourseStepIs like w most replies message (for_walk group s) (ask_for name rtype) = StepIs like w replies s (ask name rtype)
CourseStepIs like w most replies message for_nothing (end_with r) = r ≡ alone w most replies message
CourseStepIs like w most replies message _ _ = ⊥

-- A course goes on in step: wherever the replies and, wholly or but for times, the nodes that its walks were given are a table's, what it does
-- next is what the recursion does by that table
pub record CourseGoes (w : World) (most : ℕ) (message : List ℕ) (p : Course × CourseStep) : Type 0 where
  pub in_step : CourseInStep w most message p.0
  pub says : (like : Likeness) (replies : Replies) → CourseOf like w replies p.0 → CourseStepIs like w most replies message p.0.waits p.1
