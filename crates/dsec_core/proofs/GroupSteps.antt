-- Groups one after the other, as code goes over them.
use Rattle.std.proofs.Common.{◌≡◌, List, [], ◌∷◌, Option, Some, None, Result, Ok, Err, IfOk, refl, sym, ap, ◌∙◌}
use Rattle.dsec_spec.specs.Names.{Place}
use Rattle.dsec_spec.specs.Groups.{Group}
use Rattle.dsec_nodes.specs.World.{World}
use Rattle.dsec_nodes.specs.Machine.{Walking, Step, node_get, node_put, ask, done, Input, started, advanced}
use Rattle.dsec_nodes.specs.Judging.{Finding, is_shown, has_no_set, is_insecure, is_bogus, is_indeterminate, Judged, by_node, target_of}
use Rattle.dsec_nodes.specs.Nodes.{Node}
use Rattle.dsec_nodes.specs.Outcomes.{Outcome}
use Rattle.dsec_course.specs.Course.{Waiting, for_walk, for_nothing, Course, CourseStep, get_node, put_node, ask_for, end_with, Way, at_once, by_walk, way_of}
use Rattle.dsec_course.specs.Advancing.{waiting, with_judged, with_walk, setting_out, by_way, going_on, by_found, by_step, by_waiting, course_advanced}
use Rattle.dsec_course.proofs.GroupLaws.{going_first}
use Rattle.dsec_core.specs.Progress.{arrived_at, ended_by, judging, said_of}

-- judging goes on with given groups, whatever was left and waited for
pub going_same : (w : World) (groups : List Group) (c : Course) (left : List Group) (waits : Waiting)
    → going_on w groups (waiting c left waits) ≡ going_on w groups c
unfolding going_on
going_same w [] c left waits = refl
going_same w (g ∷ gs) c left waits = by (going_same w gs) (way_of w g)
  where
    by : ((d : Course) (later : List Group) (others : Waiting) → going_on w gs (waiting d later others) ≡ going_on w gs d) → (x : Way)
        → by_way g gs x (going_on w gs) (waiting c left waits) ≡ by_way g gs x (going_on w gs) c
    by later (at_once j) = later (with_judged c j) left waits
    by later (by_walk top) = refl

-- a group that is judged at once is passed
pub once_passes : (group : Group) (later : List Group) (way : Way) (j : Judged) (behind : Course → Course × CourseStep) (c : Course) → way ≡ at_once j
    → by_way group later way behind c ≡ behind (with_judged c j)
once_passes group later way j behind c e = ap (λ (x : Way). by_way group later x behind c) e

-- for any other a walk sets out
pub walk_sets_out : (group : Group) (later : List Group) (way : Way) (top : Place) (behind : Course → Course × CourseStep) (c : Course) → way ≡ by_walk top
    → by_way group later way behind c ≡ setting_out c group later (started top (target_of group (Some top)))
walk_sets_out group later way top behind c e = ap (λ (x : Way). by_way group later x behind c) e

-- after a group was judged: the end where it is bogus, and else the groups that are left
abbrev pub by_ended : World → Course → Option Outcome → Course × CourseStep
by_ended w c (Some o) = (waiting c c.left for_nothing, end_with (Ok o))
by_ended w c None = going_on w c.left c

pub found_ends : (w : World) (c : Course) (f : Finding) → by_found w c f ≡ by_ended w c (ended_by f)
found_ends w c (is_bogus cause links) = refl
found_ends w c (is_shown links last signature) = refl
found_ends w c has_no_set = refl
found_ends w c (is_insecure cause signed) = refl
found_ends w c is_indeterminate = refl

-- so that a message ends by the group that was judged last, where that is bogus
pub bogus_ends : (w : World) (c d after : Course) (j : Judged) (o : Outcome) → ended_by j.finding ≡ Some o → d ≡ with_judged c j → after ≡ waiting d d.left for_nothing
    → (after, end_with (Ok o)) ≡ judging w c j
bogus_ends w c d after j o e f h =
    ap (λ (x : Course). (x, end_with (Ok o))) (h ∙ ap (λ (x : Course). waiting x x.left for_nothing) f)
    ∙ (ap (by_ended w (with_judged c j)) (sym e) ∙ sym (found_ends w (with_judged c j) j.finding))

-- the first of the groups that are left is passed: judging goes on with the others
pub one_passed : (w : World) (group : Group) (later : List Group) (c after : Course) → c.left ≡ group ∷ later → after.left ≡ later
    → ((behind : Course → Course × CourseStep) → by_way group later (way_of w group) behind (waiting c later c.waits) ≡ behind after)
    → going_on w c.left c ≡ going_on w after.left after
one_passed w group later c after e f h =
    ap (λ (gs : List Group). going_on w gs c) e
    ∙ (sym (going_same w (group ∷ later) c later c.waits)
    ∙ (going_first w group later (waiting c later c.waits)
    ∙ (h (going_on w later) ∙ ap (λ (gs : List Group). going_on w gs after) (sym f))))

-- or a walk for it sets out
pub one_sets_out : (w : World) (group : Group) (later : List Group) (c : Course) (p : Course × CourseStep) → c.left ≡ group ∷ later
    → ((behind : Course → Course × CourseStep) → by_way group later (way_of w group) behind (waiting c later c.waits) ≡ p)
    → going_on w c.left c ≡ p
one_sets_out w group later c p e h =
    ap (λ (gs : List Group). going_on w gs c) e
    ∙ (sym (going_same w (group ∷ later) c later c.waits)
    ∙ (going_first w group later (waiting c later c.waits) ∙ h (going_on w later)))

-- a step of a walk comes to the same, whatever the message waited for
step_same : (w : World) (c : Course) (waits : Waiting) (group : Group) (s : Walking) (x : Step)
    → by_step w (waiting c c.left waits) group s x ≡ by_step w c group s x
step_same w c waits group s (node_get name) = refl
step_same w c waits group s (node_put name n) = refl
step_same w c waits group s (ask name rtype) = refl
step_same w c waits group s (done n) = by (by_node w group n).finding
  where
    d : Course
    d = with_judged (with_walk c s) (by_node w group n)

    by : (f : Finding) → by_found w (waiting d d.left waits) f ≡ by_found w d f
    by (is_bogus cause links) = refl
    by (is_shown links last signature) = going_same w d.left d d.left waits
    by has_no_set = going_same w d.left d d.left waits
    by (is_insecure cause signed) = going_same w d.left d d.left waits
    by is_indeterminate = going_same w d.left d d.left waits

-- what is said of a step of the walk that is waited for is what comes of it
pub said_so : (w : World) (c : Course) (group : Group) (s : Walking) (x : Step) → c.waits ≡ for_walk group s → said_of w c x ≡ by_step w c group s x
said_so w c group s (node_get name) e = ap (λ (i : Waiting). (waiting c c.left i, get_node name)) e
said_so w c group s (node_put name n) e = ap (λ (i : Waiting). (waiting c c.left i, put_node name n)) e
said_so w c group s (ask name rtype) e = ap (λ (i : Waiting). (waiting c c.left i, ask_for name rtype)) e
said_so w c group s (done n) e = ap (arrived_at w c n) e

-- also where nothing is waited for any more, and the walk is kept
pub arrives_so : (w : World) (c d : Course) (n : Node) (waits : Waiting) (p : Course × CourseStep) (group : Group) (s : Walking) → c.waits ≡ for_walk group s
    → d ≡ with_walk (waiting c c.left waits) s → p ≡ judging w d (by_node w group n) → p ≡ arrived_at w c n c.waits
arrives_so w c d n waits p group s e f h =
    h ∙ (ap (λ (x : Course). judging w x (by_node w group n)) f ∙ (step_same w c waits group s (done n) ∙ ap (arrived_at w c n) (sym e)))

-- the step after an input, where the message waited for a walk, which has come so far by a step and is waited for then
pub walks_so : (w : World) (c d : Course) (i : Input) (p : Course × CourseStep) (group : Group) (s t : Walking) (x : Step) → c.waits ≡ for_walk group s
    → d ≡ waiting c c.left (for_walk group t) → (t, x) ≡ advanced w s i → p ≡ said_of w d x → p ≡ course_advanced w c i
walks_so w c d i p group s t x e f m h =
    h ∙ (said_so w d group t x (ap (λ (y : Course). y.waits) f)
    ∙ (ap (λ (y : Course). by_step w y group t x) f
    ∙ (step_same w c (for_walk group t) group t x
    ∙ (ap (λ (q : Walking × Step). by_step w c group q.0 q.1) m ∙ ap (by_waiting w c i) (sym e)))))

-- what holds of a value where there is one goes over to what follows from it
pub if_there : {A E : Type 0} (r : Result A E) (P Q : A → Type 0) → ((a : A) → P a → Q a) → IfOk r P → IfOk r Q
if_there (Ok a) P Q f h = f a h
if_there (Err e) P Q f h = tt
