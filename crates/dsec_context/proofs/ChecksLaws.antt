-- For each input no more sets are checked than its question and the group that it judges take.
use Rattle.std.proofs.Common.{◌≡◌, ℕ, ◌+◌, ◌≤◌, List, [], ◌∷◌, length, ap, ◌∙◌, arith}
use Rattle.std.specs.List.{sum_by}
use Rattle.std.proofs.lemmas.List.{length-append}
use Rattle.std.proofs.lemmas.List.Sums.{sum_by-append}
use Rattle.dsec_spec.specs.Groups.{Group}
use Rattle.dsec_nodes.specs.World.{World}
use Rattle.dsec_nodes.specs.Machine.{Question as Asked, Walking, Step, node_get, node_put, ask, done, Input, begin, node, stored, reply, advanced}
use Rattle.dsec_nodes.specs.Judging.{Finding, is_shown, has_no_set, is_insecure, is_bogus, is_indeterminate, by_node}
use Rattle.dsec_walk.specs.Checks.{most_checked_by, sets_in}
use Rattle.dsec_walk.proofs.CheckLaws.{reply_sets}
use Rattle.dsec_course.specs.Course.{Waiting, to_begin, to_end, for_walk, for_nothing, Course, CourseAnswers, asked_in, asked_by, Way, at_once, by_walk, way_of}
use Rattle.dsec_course.specs.Advancing.{with_judged, with_walk, by_way, going_on, by_found, by_step, by_waiting, course_advanced}
use Rattle.dsec_course.specs.Justified.{SoundCourse}
use Rattle.dsec_course.proofs.StepLaws.{asked_grows}
use Rattle.dsec_core.specs.Validating.{judged_by, most_checked_at}
use Rattle.dsec_context.specs.Turns.{sets_so_far}

-- the sets of what answers a step of a walk are those of its question
walk_sets : (group : Group) (s : Walking) (i : Input) → most_checked_by i s.phase s.reached ≤ sum_by sets_in (asked_by (for_walk group s) i)
walk_sets group s begin = omega arith
walk_sets group s (node o) = omega arith
walk_sets group s stored = omega arith
walk_sets group s (reply octets) = omega (arith, reply_sets s octets)

-- judging goes on with no fewer judged groups
going_judges : (w : World) (groups : List Group) (c : Course) → length c.judged ≤ length (going_on w groups c).0.judged
unfolding going_on
going_judges w [] c = omega arith
going_judges w (g ∷ gs) c = by (going_judges w gs) (way_of w g)
  where
    by : ((d : Course) → length d.judged ≤ length (going_on w gs d).0.judged) → (x : Way)
        → length c.judged ≤ length (by_way g gs x (going_on w gs) c).0.judged
    by later (at_once j) = omega (arith, later (with_judged c j), length-append c.judged (j ∷ []))
    by later (by_walk top) = omega arith

-- a walk that ends judges its group
step_judges : (w : World) (c : Course) (group : Group) (s : Walking) (x : Step)
    → judged_by x + length c.judged ≤ length (by_step w c group s x).0.judged
step_judges w c group s (node_get name) = omega arith
step_judges w c group s (node_put name n) = omega arith
step_judges w c group s (ask name rtype) = omega arith
step_judges w c group s (done n) = by (by_node w group n).finding
  where
    d : Course
    d = with_judged (with_walk c s) (by_node w group n)

    more : length d.judged ≡ length c.judged + 1
    more = length-append c.judged (by_node w group n ∷ [])

    by : (x : Finding) → 1 + length c.judged ≤ length (by_found w d x).0.judged
    by (is_bogus cause links) = omega (arith, more)
    by (is_shown links last signature) = omega (arith, more, going_judges w c.left d)
    by has_no_set = omega (arith, more, going_judges w c.left d)
    by (is_insecure cause signed) = omega (arith, more, going_judges w c.left d)
    by is_indeterminate = omega (arith, more, going_judges w c.left d)

-- For what answers a step no more sets are checked than there are more in what was asked and judged
pub course_counts : (w : World) (most : ℕ) (message : List ℕ) (c : Course) (input : Input) → SoundCourse w most message c → CourseAnswers c.waits input
    → most_checked_at w c.waits input + sets_so_far c ≤ sets_so_far (course_advanced w c input).0
course_counts w most message c input h a =
    let grown : sum_by sets_in (asked_in (course_advanced w c input).0) ≡ sum_by sets_in (asked_in c) + sum_by sets_in (asked_by c.waits input) =
    ap (λ (qs : List Asked). sum_by sets_in qs) (asked_grows w most message c input h a) ∙ sum_by-append sets_in (asked_in c) (asked_by c.waits input) in
    omega (arith, grown, by c.waits input a)
  where
    by : (x : Waiting) (i : Input) → CourseAnswers x i
        → most_checked_at w x i + length c.judged ≤ sum_by sets_in (asked_by x i) + length (by_waiting w c i x).0.judged
    by to_begin begin b = omega (arith, going_judges w c.left c)
    by (to_end o) begin b = omega arith
    by (for_walk group s) i b = omega (arith, walk_sets group s i, step_judges w c group (advanced w s i).0 (advanced w s i).1)
    by to_begin (node o) b = absurd b
    by to_begin stored b = absurd b
    by to_begin (reply octets) b = absurd b
    by (to_end o) (node n) b = absurd b
    by (to_end o) stored b = absurd b
    by (to_end o) (reply octets) b = absurd b
    by for_nothing i b = absurd b
