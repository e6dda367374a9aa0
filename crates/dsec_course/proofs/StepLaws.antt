-- What a message has asked grows by the question of the step that was answered, and each step waits for what answers it.
use Rattle.std.proofs.Common.{◌≡◌, ℕ, List, [], ◌∷◌, ◌++◌, Option, Some, refl, sym, ap, ◌∙◌, append-nil, append_assoc}
use Rattle.std.specs.List.{flat_map}
use Rattle.std.proofs.lemmas.List.Concat.{flat_map-append}
use Rattle.dsec_spec.specs.Names.{Place}
use Rattle.dsec_spec.specs.Groups.{Group}
use Rattle.dsec_nodes.specs.World.{World}
use Rattle.dsec_nodes.specs.Machine.{Question as Asked, Walking, Step, Input, begin, node, stored, reply, gets, in_phase, started, asked_type, advanced, node_get, node_put, ask, done}
use Rattle.dsec_nodes.specs.Judging.{Finding, is_shown, has_no_set, is_insecure, is_bogus, is_indeterminate, by_node, target_of}
use Rattle.dsec_course.specs.Course.{Waiting, to_begin, to_end, for_walk, for_nothing, Course, CourseAnswers, Awaits, walk_in, asked_in, asked_by, Way, at_once, by_walk, way_of}
use Rattle.dsec_course.specs.Advancing.{with_judged, with_walk, by_way, going_on, by_found, by_step, by_waiting, course_advanced}
use Rattle.dsec_course.specs.Justified.{SoundCourseAt, SoundCourse}
use Rattle.dsec_course.proofs.WalkSteps.{WalkAwaits, asked_after, advances}

-- the questions of walks
abbrev asked_of : List Walking → List Asked
asked_of ws = flat_map (λ (s : Walking). s.asked) ws

-- with one more walk
one_more : (ws : List Walking) (s : Walking) → asked_of (ws ++ s ∷ []) ≡ asked_of ws ++ s.asked
one_more ws s = flat_map-append (λ (x : Walking). x.asked) ws (s ∷ []) ∙ ap (λ (qs : List Asked). asked_of ws ++ qs) (append-nil s.asked)

-- judging goes on without a question
going_asks : (w : World) (groups : List Group) (c : Course) → asked_in (going_on w groups c).0 ≡ asked_of c.walks
unfolding going_on
going_asks w [] c = ap asked_of (append-nil c.walks)
going_asks w (g ∷ gs) c = by (going_asks w gs) (way_of w g)
  where
    by : ((d : Course) → asked_in (going_on w gs d).0 ≡ asked_of d.walks) → (x : Way) → asked_in (by_way g gs x (going_on w gs) c).0 ≡ asked_of c.walks
    by later (at_once j) = later (with_judged c j)
    by later (by_walk top) = one_more c.walks (in_phase (started top (target_of g (Some top))) gets) ∙ append-nil (asked_of c.walks)

-- after a step of the walk that is waited for, its questions are those that it has asked
step_asks : (w : World) (c : Course) (group : Group) (s : Walking) (x : Step)
    → asked_in (by_step w c group s x).0 ≡ asked_of c.walks ++ s.asked
step_asks w c group s (node_get name) = one_more c.walks s
step_asks w c group s (node_put name n) = one_more c.walks s
step_asks w c group s (ask name rtype) = one_more c.walks s
step_asks w c group s (done n) = by (by_node w group n).finding
  where
    d : Course
    d = with_judged (with_walk c s) (by_node w group n)

    by : (x : Finding) → asked_in (by_found w d x).0 ≡ asked_of c.walks ++ s.asked
    by (is_bogus cause links) = ap asked_of (append-nil (c.walks ++ s ∷ [])) ∙ one_more c.walks s
    by (is_shown links last signature) = going_asks w c.left d ∙ one_more c.walks s
    by has_no_set = going_asks w c.left d ∙ one_more c.walks s
    by (is_insecure cause signed) = going_asks w c.left d ∙ one_more c.walks s
    by is_indeterminate = going_asks w c.left d ∙ one_more c.walks s

-- the questions of a walk after an input
asked_more : (group : Group) (s : Walking) (i : Input) → asked_after s i ≡ s.asked ++ asked_by (for_walk group s) i
asked_more group s begin = sym (append-nil s.asked)
asked_more group s (node o) = sym (append-nil s.asked)
asked_more group s stored = sym (append-nil s.asked)
asked_more group s (reply octets) = refl

-- each reply is kept with the question that it answers, and nothing else is counted as asked
pub asked_grows : (w : World) (most : ℕ) (message : List ℕ) (c : Course) (input : Input) → SoundCourse w most message c
    → CourseAnswers c.waits input → asked_in (course_advanced w c input).0 ≡ asked_in c ++ asked_by c.waits input
asked_grows w most message c input h a = by c.waits input h a
  where
    unasked : asked_of (c.walks ++ []) ++ [] ≡ asked_of c.walks
    unasked = append-nil (asked_of (c.walks ++ [])) ∙ ap asked_of (append-nil c.walks)

    by : (x : Waiting) (i : Input) → SoundCourseAt w most message c x → CourseAnswers x i
        → asked_in (by_waiting w c i x).0 ≡ asked_of (c.walks ++ walk_in x) ++ asked_by x i
    by to_begin begin g b = going_asks w c.left c ∙ sym unasked
    by (to_end o) begin g b = ap asked_of (append-nil c.walks) ∙ sym unasked
    by (for_walk group s) i g b =
        let l = (advances w s i b).leaves in
        step_asks w c group (advanced w s i).0 (advanced w s i).1
        ∙ (ap (λ (qs : List Asked). asked_of c.walks ++ qs) (l.asked_is g.3.waits ∙ asked_more group s i)
        ∙ (sym (append_assoc (asked_of c.walks) s.asked (asked_by (for_walk group s) i))
        ∙ ap (λ (qs : List Asked). qs ++ asked_by (for_walk group s) i) (sym (one_more c.walks s))))
    by to_begin (node o) g b = absurd b
    by to_begin stored g b = absurd b
    by to_begin (reply octets) g b = absurd b
    by (to_end o) (node n) g b = absurd b
    by (to_end o) stored g b = absurd b
    by (to_end o) (reply octets) g b = absurd b
    by for_nothing i g b = absurd b

-- one question with its reply
abbrev one : Place → ℕ → Option (List ℕ) → List Asked
one name rtype octets = record { name = name; rtype = rtype; reply = octets } ∷ []

going_awaits : (w : World) (groups : List Group) (c : Course) → Awaits (going_on w groups c).1 (going_on w groups c).0.waits
unfolding going_on
going_awaits w [] c = refl
going_awaits w (g ∷ gs) c = by (going_awaits w gs) (way_of w g)
  where
    by : ((d : Course) → Awaits (going_on w gs d).1 (going_on w gs d).0.waits) → (x : Way) → Awaits (by_way g gs x (going_on w gs) c).1 (by_way g gs x (going_on w gs) c).0.waits
    by later (at_once j) = later (with_judged c j)
    by later (by_walk top) = λ o. tt

step_awaits : (w : World) (c : Course) (group : Group) (s : Walking) (x : Step) → WalkAwaits x s
    → Awaits (by_step w c group s x).1 (by_step w c group s x).0.waits
step_awaits w c group s (node_get name) h = h
step_awaits w c group s (node_put name n) h = h
step_awaits w c group s (ask name rtype) h =
    λ octets. (h.0 octets, ap (λ (p : Place). one p (asked_type s.phase s.reached) octets) (sym h.1) ∙ ap (λ (n : ℕ). one name n octets) (sym h.2))
step_awaits w c group s (done n) h = by (by_node w group n).finding
  where
    d : Course
    d = with_judged (with_walk c s) (by_node w group n)

    by : (x : Finding) → Awaits (by_found w d x).1 (by_found w d x).0.waits
    by (is_bogus cause links) = refl
    by (is_shown links last signature) = going_awaits w c.left d
    by has_no_set = going_awaits w c.left d
    by (is_insecure cause signed) = going_awaits w c.left d
    by is_indeterminate = going_awaits w c.left d

-- what a step asks for is what is waited for: a node to be got, a node's having been put, a reply, or at the end nothing
pub course_awaits : (w : World) (most : ℕ) (message : List ℕ) (c : Course) (input : Input) → SoundCourse w most message c
    → CourseAnswers c.waits input → Awaits (course_advanced w c input).1 (course_advanced w c input).0.waits
course_awaits w most message c input h a = by c.waits input h a
  where
    by : (x : Waiting) (i : Input) → SoundCourseAt w most message c x → CourseAnswers x i
        → Awaits (by_waiting w c i x).1 (by_waiting w c i x).0.waits
    by to_begin begin g b = going_awaits w c.left c
    by (to_end o) begin g b = refl
    by (for_walk group s) i g b = step_awaits w c group (advanced w s i).0 (advanced w s i).1 ((advances w s i b).leaves.awaits g.3.waits)
    by to_begin (node o) g b = absurd b
    by to_begin stored g b = absurd b
    by to_begin (reply octets) g b = absurd b
    by (to_end o) (node n) g b = absurd b
    by (to_end o) stored g b = absurd b
    by (to_end o) (reply octets) g b = absurd b
    by for_nothing i g b = absurd b
