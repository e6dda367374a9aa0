-- What holds of a message being judged stays so with each step.
use Rattle.std.proofs.Common.{◌≡◌, ℕ, List, [], ◌∷◌, refl, sym, ap, ◌∙◌, subst, ◌<◌, arith}
use Rattle.std.specs.List.{AllByRecursion}
use Rattle.dsec_spec.specs.Accepts.{Accepts}
use Rattle.dsec_spec.specs.Groups.{Group}
use Rattle.dsec_spec.specs.Records.{Record}
use Rattle.dsec_nodes.specs.World.{World}
use Rattle.dsec_nodes.specs.SoundSteps.{InputKept}
use Rattle.dsec_nodes.specs.Machine.{Walking, Step, node_get, node_put, ask, done, Input, begin, node, stored, reply, advanced}
use Rattle.dsec_nodes.specs.Judging.{Finding, is_shown, has_no_set, is_insecure, is_bogus, is_indeterminate, by_node}
use Rattle.dsec_node.specs.Views.{bounds_of, world_of}
use Rattle.dsec_course.specs.Course.{Waiting, to_begin, to_end, for_walk, for_nothing, Course, CourseStep, CourseAnswers, Awaits, Way, at_once, by_walk, way_of}
use Rattle.dsec_course.specs.Advancing.{with_judged, with_walk, by_way, going_on, by_found, by_step, by_waiting, course_advanced}
use Rattle.dsec_course.specs.Agreeing.{CourseGoes, CourseInStep}
use Rattle.dsec_course.specs.Justified.{IsFound, SoundCourse, SoundCourseAt, SoundGoing}
use Rattle.dsec_course.specs.Ending.{steps_left}
use Rattle.dsec_course.proofs.AgreeingLaws.{course_goes}
use Rattle.dsec_course.proofs.EndingLaws.{course_nearer}
use Rattle.dsec_course.proofs.SoundLaws.{course_sound}
use Rattle.dsec_course.proofs.StepLaws.{course_awaits}
use Rattle.dsec_walk.specs.UnderWay.{IsInZone}
use Rattle.dsec_walk.proofs.UnderWayLaws.{advanced_under_way}
use Rattle.dsec_core.specs.Progress.{IsUnderWayAt}
use Rattle.dsec_core.specs.Validating.{IsInZoneAt, IsSoundBy, Validating, given_up, most_of, with_course, world_by}

-- a walk that sets out has no zone yet
going_zone : (w : World) (groups : List Group) (c : Course) → IsInZoneAt w (going_on w groups c).0.waits
unfolding going_on
going_zone w [] c = tt
going_zone w (g ∷ gs) c = by (going_zone w gs) (way_of w g)
  where
    by : ((d : Course) → IsInZoneAt w (going_on w gs d).0.waits) → (x : Way) → IsInZoneAt w (by_way g gs x (going_on w gs) c).0.waits
    by later (at_once j) = later (with_judged c j)
    by later (by_walk top) = tt

-- a walk's own zone counts after each of its steps
step_zone : (w : World) (c : Course) (group : Group) (s : Walking) (x : Step) → IsInZone w s.reached → IsInZoneAt w (by_step w c group s x).0.waits
step_zone w c group s (node_get name) h = h
step_zone w c group s (node_put name n) h = h
step_zone w c group s (ask name rtype) h = h
step_zone w c group s (done n) h = by (by_node w group n).finding
  where
    d : Course
    d = with_judged (with_walk c s) (by_node w group n)

    by : (x : Finding) → IsInZoneAt w (by_found w d x).0.waits
    by (is_bogus cause links) = tt
    by (is_shown links last signature) = going_zone w c.left d
    by has_no_set = going_zone w c.left d
    by (is_insecure cause signed) = going_zone w c.left d
    by is_indeterminate = going_zone w c.left d

module _ (w : World) (most : ℕ) (message : List ℕ) (c : Course) (h : SoundCourse w most message c) (z : IsInZoneAt w c.waits) where
  -- the walk that is waited for can be taken on
  pub under_way : IsUnderWayAt w c.waits
  under_way = by c.waits h z
    where
      by : (x : Waiting) → SoundCourseAt w most message c x → IsInZoneAt w x → IsUnderWayAt w x
      by to_begin g y = tt
      by (to_end o) g y = tt
      by (for_walk group s) g y = record { is_sound = g.2; is_counted = g.3; in_zone = y }
      by for_nothing g y = tt

  module _ (input : Input) (a : CourseAnswers c.waits input) (k : InputKept w input) where
    -- so can the next one
    pub zone_stays : IsInZoneAt w (course_advanced w c input).0.waits
    zone_stays = by c.waits input h z a k
      where
        by : (x : Waiting) (i : Input) → SoundCourseAt w most message c x → IsInZoneAt w x → CourseAnswers x i → InputKept w i
            → IsInZoneAt w (by_waiting w c i x).0.waits
        by to_begin begin g y b q = going_zone w c.left c
        by (to_end o) begin g y b q = tt
        by (for_walk group s) i g y b q =
            step_zone w c group (advanced w s i).0 (advanced w s i).1 (advanced_under_way w s i (record { is_sound = g.2; is_counted = g.3; in_zone = y }) b q).in_zone
        by to_begin (node o) g y b q = absurd b
        by to_begin stored g y b q = absurd b
        by to_begin (reply octets) g y b q = absurd b
        by (to_end o) (node n) g y b q = absurd b
        by (to_end o) stored g y b q = absurd b
        by (to_end o) (reply octets) g y b q = absurd b
        by for_nothing i g y b q = absurd b

-- the message stays the same
going_message : (w : World) (groups : List Group) (c : Course) → (going_on w groups c).0.message ≡ c.message
unfolding going_on
going_message w [] c = refl
going_message w (g ∷ gs) c = by (going_message w gs) (way_of w g)
  where
    by : ((d : Course) → (going_on w gs d).0.message ≡ d.message) → (x : Way) → (by_way g gs x (going_on w gs) c).0.message ≡ c.message
    by later (at_once j) = later (with_judged c j)
    by later (by_walk top) = refl

step_message : (w : World) (c : Course) (group : Group) (s : Walking) (x : Step) → (by_step w c group s x).0.message ≡ c.message
step_message w c group s (node_get name) = refl
step_message w c group s (node_put name n) = refl
step_message w c group s (ask name rtype) = refl
step_message w c group s (done n) = by (by_node w group n).finding
  where
    d : Course
    d = with_judged (with_walk c s) (by_node w group n)

    by : (x : Finding) → (by_found w d x).0.message ≡ c.message
    by (is_bogus cause links) = refl
    by (is_shown links last signature) = going_message w c.left d
    by has_no_set = going_message w c.left d
    by (is_insecure cause signed) = going_message w c.left d
    by is_indeterminate = going_message w c.left d

pub same_message : (w : World) (c : Course) (i : Input) → (course_advanced w c i).0.message ≡ c.message
same_message w c i = by c.waits
  where
    by : (x : Waiting) → (by_waiting w c i x).0.message ≡ c.message
    by to_begin = going_message w c.left c
    by (to_end o) = refl
    by (for_walk group s) = step_message w c group (advanced w s i).0 (advanced w s i).1
    by for_nothing = refl

-- a message that is judged a step further, by the anchors as a call has them
module _ (accepts : Accepts) (it : Validating) (anchors : List Record) (same : anchors ≡ it.anchors) (h : IsSoundBy accepts it) (i : Input)
    (a : CourseAnswers it.course.waits i) (p : Course × CourseStep) (k : InputKept (world_of accepts anchors (bounds_of it.config) it.moment) i)
    (e : p ≡ course_advanced (world_of accepts anchors (bounds_of it.config) it.moment) it.course i) where
  is : p ≡ course_advanced (world_by accepts it) it.course i
  is = subst (λ (xs : List Record). p ≡ course_advanced (world_of accepts xs (bounds_of it.config) it.moment) it.course i) same e

  kept : InputKept (world_by accepts it) i
  kept = subst (λ (xs : List Record). InputKept (world_of accepts xs (bounds_of it.config) it.moment) i) same k

  pub after_sound : SoundGoing (world_by accepts it) (most_of it) it.course.message p
  after_sound = subst (SoundGoing (world_by accepts it) (most_of it) it.course.message) (sym is)
      (course_sound (world_by accepts it) (most_of it) it.course.message it.course i h.is_sound a kept)

  pub after_goes : CourseInStep (world_by accepts it) (most_of it) it.course.message it.course → CourseGoes (world_by accepts it) (most_of it) it.course.message p
  after_goes g = subst (CourseGoes (world_by accepts it) (most_of it) it.course.message) (sym is)
      (course_goes (world_by accepts it) (most_of it) it.course.message it.course i g a)

  pub after_sound_by : IsSoundBy accepts (with_course it p.0)
  after_sound_by = record {
    is_sound = subst (λ (m : List ℕ). SoundCourse (world_by accepts it) (most_of it) m p.0)
        (sym (ap (λ (q : Course × CourseStep). q.0.message) is ∙ same_message (world_by accepts it) it.course i)) after_sound.0;
    in_zone = subst (λ (q : Course × CourseStep). IsInZoneAt (world_by accepts it) q.0.waits) (sym is)
        (zone_stays (world_by accepts it) (most_of it) it.course.message it.course h.is_sound h.in_zone i a kept);
  }

  pub after_awaits : Awaits p.1 p.0.waits
  after_awaits = subst (λ (q : Course × CourseStep). Awaits q.1 q.0.waits) (sym is)
      (course_awaits (world_by accepts it) (most_of it) it.course.message it.course i h.is_sound a)

  pub after_nearer : steps_left (world_by accepts it) p.0 < steps_left (world_by accepts it) it.course
  after_nearer = subst (λ (q : Course × CourseStep). steps_left (world_by accepts it) q.0 < steps_left (world_by accepts it) it.course) (sym is)
      (course_nearer (world_by accepts it) (most_of it) it.course.message it.course i h.is_sound a)

-- where memory is wanting
pub given_up_sound : (accepts : Accepts) (it : Validating) (c d : Course) → d ≡ given_up c → IsSoundBy accepts (with_course it d)
given_up_sound accepts it c d e = subst (λ (x : Course). IsSoundBy accepts (with_course it x)) (sym e) (record {
  is_sound = (tt, record { routes = refl; counted = tt });
  in_zone = tt;
})

pub given_up_nearer : (accepts : Accepts) (it : Validating) (i : Input) (c d : Course) → IsSoundBy accepts it → CourseAnswers it.course.waits i → d ≡ given_up c
    → steps_left (world_by accepts it) d < steps_left (world_by accepts it) it.course
given_up_nearer accepts it i c d h a e =
    let near = course_nearer (world_by accepts it) (most_of it) it.course.message it.course i h.is_sound a in
    subst (λ (x : Course). steps_left (world_by accepts it) x < steps_left (world_by accepts it) it.course) (sym e) (omega (arith, near))

-- each judged group is what was found of it
pub judged_found : (accepts : Accepts) (it : Validating) → IsSoundBy accepts it → AllByRecursion (IsFound (world_by accepts it)) it.course.judged
judged_found accepts it h = by it.course.waits h.is_sound
  where
    by : (x : Waiting) → SoundCourseAt (world_by accepts it) (most_of it) it.course.message it.course x
        → AllByRecursion (IsFound (world_by accepts it)) it.course.judged
    by to_begin g = g.found
    by (to_end o) g = subst (AllByRecursion (IsFound (world_by accepts it))) (sym g.1) tt
    by (for_walk group s) g = g.0.found
    by for_nothing g = g.0
