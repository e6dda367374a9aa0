-- Each step brings a message nearer to its end.
use Rattle.std.proofs.Common.{◌≡◌, ℕ, ◌+◌, ◌-◌, ◌*◌, ◌<◌, ◌≤◌, ◌&&◌, Bool, true, false, cond, List, [], ◌∷◌, length, Option, Some, None, refl, sym, ap, subst, arith}
use Rattle.std.specs.Prelude.{filter_map}
use Rattle.std.specs.List.{sum_by, cons_option}
use Rattle.std.proofs.lemmas.List.Sums.{sum_by-cons}
use Rattle.dsec_spec.specs.Names.{Place}
use Rattle.dsec_spec.specs.Numbers.{DS, DNSKEY}
use Rattle.dsec_spec.specs.Groups.{Group}
use Rattle.dsec_nodes.specs.World.{World}
use Rattle.dsec_nodes.specs.Nodes.{Node, Standing, apex, within, insecure, bogus}
use Rattle.dsec_nodes.specs.Replies.{read_reply}
use Rattle.dsec_nodes.specs.ByDs.{Pending, Below, made, asks, by_ds_reply, by_key_reply}
use Rattle.dsec_nodes.specs.Walk.{by_anchor_reply, Reached, held_keys, may_stand}
use Rattle.dsec_nodes.specs.Taking.{counts}
use Rattle.dsec_nodes.specs.Machine.{Question as Asked, Phase, begins, gets, asks_first, asks_keys, puts, ends, Walking, Step, node_get, node_put, ask, done, Input, begin, node, stored, reply, name_at, in_phase, is_further, ahead_from, ahead, with_got, asking, given, heard, made_by, making, below_by, first_reply, key_reply, replied, advanced, Answers, IsFurther}
use Rattle.dsec_nodes.specs.SoundSteps.{SoundStep}
use Rattle.dsec_nodes.specs.Judging.{Finding, is_shown, has_no_set, is_insecure, is_bogus, is_indeterminate, by_node, target_of}
use Rattle.dsec_nodes.proofs.AnswerCases.{each_answer}
use Rattle.dsec_nodes.proofs.MachineLaws.{further_by}
use Rattle.dsec_nodes.proofs.SoundWalk.{fits}
use Rattle.dsec_course.specs.Course.{Waiting, to_begin, to_end, for_walk, for_nothing, Course, CourseAnswers, Way, at_once, by_walk, way_of}
use Rattle.dsec_course.specs.Advancing.{with_judged, with_walk, by_way, going_on, by_found, by_step, by_waiting, course_advanced}
use Rattle.dsec_course.specs.Justified.{route_by, route_of, SoundCourseAt, SoundCourse}
use Rattle.dsec_course.specs.Ending.{steps_in, steps_ahead, most_steps, steps_for, steps_by, steps_left}

-- how far a walk is from its target
abbrev pub names_ahead : Walking → ℕ
names_ahead s = 1 + length s.target - (length s.top + s.behind)

-- the next step from what is reached has fewer steps ahead than where it begins or puts a node
ahead_nearer : (s : Walking) (most : ℕ) → 4 * names_ahead s + 3 < most → steps_ahead (ahead s).0 < most
ahead_nearer s most le = by s.reached
  where
    by_further : (b : Bool) (r : Reached)
        → steps_ahead (cond {A = Walking × Step} b (in_phase s gets, node_get (name_at s)) (in_phase s ends, done r.node)).0 < most
    by_further true r = omega (arith, le)
    by_further false r = omega (arith, le)

    by : (o : Option Reached) → steps_ahead (ahead_from s o).0 < most
    by None = omega (arith, le)
    by (Some r) = by_further (is_further s r) r

-- so has the step after a node was made
making_nearer : (s : Walking) (asked : List Asked) (n : Node) (most : ℕ) → length s.top + s.behind ≤ length s.target
    → 4 * names_ahead s < most → steps_ahead (making s asked n).0 < most
making_nearer s asked n most fit le = by n.standing
  where
    by : (x : Standing) → steps_ahead (made_by s asked n x).0 < most
    by (apex keys) = omega (arith, fit, le)
    by (within last) = omega (arith, fit, le)
    by (insecure cause signed) = omega (arith, fit, le)
    by (bogus cause) = omega (arith, fit, le)

-- the first reply at a name
first_nearer : (w : World) (s : Walking) (octets : Option (List ℕ)) (most : ℕ) → length s.top + s.behind ≤ length s.target
    → 4 * names_ahead s + 1 < most → steps_ahead (first_reply w s s.reached octets).0 < most
first_nearer w s octets most fit le = by s.reached
  where
    by_below : (b : Below) → steps_ahead (below_by s (heard s DS octets) b).0 < most
    by_below (made n) = making_nearer s (heard s DS octets) n most fit (omega (arith, le))
    by_below (asks pending) = omega (arith, le)

    by : (o : Option Reached) → steps_ahead (first_reply w s o octets).0 < most
    by None = making_nearer s (heard s DNSKEY octets) (by_anchor_reply w s.top (read_reply octets)) most fit (omega (arith, le))
    by (Some r) = by_below (by_ds_reply w r.zone (held_keys r.zone.standing) (name_at s) (read_reply octets))

-- the reply with a key set
key_nearer : (w : World) (s : Walking) (pending : Pending) (octets : Option (List ℕ)) (most : ℕ) → length s.top + s.behind ≤ length s.target
    → 4 * names_ahead s < most → steps_ahead (key_reply w s s.reached pending octets).0 < most
key_nearer w s pending octets most fit le = by s.reached
  where
    by : (o : Option Reached) → steps_ahead (key_reply w s o pending octets).0 < most
    by None = omega (arith, le)
    by (Some r) = making_nearer s (heard s DNSKEY octets) (by_key_reply w r.zone pending (read_reply octets)) most fit le

-- a node that was kept, whether it counts or not
given_nearer : (w : World) (s : Walking) (o : Option Node) (most : ℕ) → length s.top + s.behind ≤ length s.target
    → 4 * names_ahead s + 2 < most → steps_ahead (given w s o).0 < most
given_nearer w s None most fit le = omega (arith, le)
given_nearer w s (Some n) most fit le = by (counts w s.top (name_at s) n && may_stand s.reached n.standing)
  where
    by : (b : Bool) → steps_ahead (cond {A = Walking × Step} b (ahead (with_got s n)) (asking s)).0 < most
    by true = ahead_nearer (with_got s n) most (omega (arith, fit, le))
    by false = omega (arith, le)

-- each step of a walk has fewer steps ahead
pub walk_nearer : (w : World) (s : Walking) (input : Input) → SoundStep w s → Answers s.phase input
    → steps_ahead (advanced w s input).0 < steps_ahead s
walk_nearer w s input h a = each_answer (λ x i. s.phase ≡ x → steps_ahead (advanced w s i).0 < steps_ahead s)
    (λ e. ahead_nearer s (steps_ahead s) (omega (arith, at begins e)))
    (λ o e. given_nearer w s o (steps_ahead s) (fit (further_by s gets e h.is_ahead)) (omega (arith, at gets e)))
    (λ octets e. subst (λ (x : Phase). steps_ahead (replied w s x octets).0 < steps_ahead s) (sym e)
    (first_nearer w s octets (steps_ahead s) (fit (further_by s asks_first e h.is_ahead)) (omega (arith, at asks_first e))))
    (λ pending octets e. subst (λ (x : Phase). steps_ahead (replied w s x octets).0 < steps_ahead s) (sym e)
    (key_nearer w s pending octets (steps_ahead s) (fit (further_by s (asks_keys pending) e h.is_ahead)) (omega (arith, at (asks_keys pending) e))))
    (λ e. ahead_nearer s (steps_ahead s) (omega (arith, at puts e)))
    s.phase input a refl
  where
    fit : IsFurther s s.reached → length s.top + s.behind ≤ length s.target
    fit further = fits w s s.reached h.shorter h.on_way further

    at : (x : Phase) → s.phase ≡ x → steps_ahead s ≡ 4 * names_ahead s + steps_in x
    at x e = ap (λ (y : Phase). 4 * names_ahead s + steps_in y) e

-- judging goes on with no more steps than its groups take
going_nearer : (w : World) (groups : List Group) (c : Course) → steps_left w (going_on w groups c).0 ≤ steps_for w groups
unfolding going_on
going_nearer w [] c = omega arith
going_nearer w (g ∷ gs) c = by (going_nearer w gs) (way_of w g)
  where
    by : ((d : Course) → steps_left w (going_on w gs d).0 ≤ steps_for w gs) → (x : Way)
        → steps_left w (by_way g gs x (going_on w gs) c).0 ≤ sum_by most_steps (cons_option (route_by g x) (filter_map (route_of w) gs))
    by later (at_once j) = later (with_judged c j)
    by later (by_walk top) =
        let own : Place × Place = (top, target_of g (Some top)) in
        let sums : sum_by most_steps (own ∷ filter_map (route_of w) gs) ≡ most_steps own + steps_for w gs = sum_by-cons most_steps own (filter_map (route_of w) gs) in
        omega (arith, sums)

-- so does the course after a step of the walk that is waited for
step_nearer : (w : World) (c : Course) (group : Group) (s : Walking) (x : Step) (most : ℕ) → steps_ahead s < most
    → steps_left w (by_step w c group s x).0 < most + steps_for w c.left
step_nearer w c group s (node_get name) most le = omega (arith, le)
step_nearer w c group s (node_put name n) most le = omega (arith, le)
step_nearer w c group s (ask name rtype) most le = omega (arith, le)
step_nearer w c group s (done n) most le = by (by_node w group n).finding
  where
    d : Course
    d = with_judged (with_walk c s) (by_node w group n)

    by : (x : Finding) → steps_left w (by_found w d x).0 < most + steps_for w c.left
    by (is_bogus cause links) = omega (arith, le)
    by (is_shown links last signature) = omega (arith, le, going_nearer w c.left d)
    by has_no_set = omega (arith, le, going_nearer w c.left d)
    by (is_insecure cause signed) = omega (arith, le, going_nearer w c.left d)
    by is_indeterminate = omega (arith, le, going_nearer w c.left d)

-- each step of a message has fewer steps ahead, so that it ends, whatever it is given
pub course_nearer : (w : World) (most : ℕ) (message : List ℕ) (c : Course) (input : Input) → SoundCourse w most message c
    → CourseAnswers c.waits input → steps_left w (course_advanced w c input).0 < steps_left w c
course_nearer w most message c input h a = by c.waits input h a
  where
    by : (x : Waiting) (i : Input) → SoundCourseAt w most message c x → CourseAnswers x i
        → steps_left w (by_waiting w c i x).0 < steps_by w c.left x
    by to_begin begin g b = omega (arith, going_nearer w c.left c)
    by (to_end o) begin g b = omega arith
    by (for_walk group s) i g b = step_nearer w c group (advanced w s i).0 (advanced w s i).1 (steps_ahead s) (walk_nearer w s i g.2 b)
    by to_begin (node o) g b = absurd b
    by to_begin stored g b = absurd b
    by to_begin (reply octets) g b = absurd b
    by (to_end o) (node n) g b = absurd b
    by (to_end o) stored g b = absurd b
    by (to_end o) (reply octets) g b = absurd b
    by for_nothing i g b = absurd b
