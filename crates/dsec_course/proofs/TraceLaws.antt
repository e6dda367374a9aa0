-- Where the nodes come from that a message is given, and what is known of those that it puts.
use Rattle.std.proofs.Common.{◌≡◌, ◌⊎◌, ℕ, List, [], ◌∷◌, ◌++◌, Some, None, false, refl, sym, ap, ◌∙◌, subst, inl, inr}
use Rattle.std.specs.Prelude.{Contains}
use Rattle.std.specs.List.{AllByRecursion, flat_map}
use Rattle.std.proofs.lemmas.Option.{same_Some}
use Rattle.dsec_spec.specs.Names.{Place, place}
use Rattle.dsec_spec.specs.Records.{Record}
use Rattle.dsec_spec.specs.Groups.{Group}
use Rattle.dsec_spec.proofs.Members.{first_in, later_in, in_more, not_in_none}
use Rattle.dsec_nodes.specs.World.{World, Replies}
use Rattle.dsec_nodes.specs.Nodes.{Node, IsBogus, Kept}
use Rattle.dsec_nodes.specs.Walk.{node_of}
use Rattle.dsec_nodes.specs.Likeness.{Likeness, seen, Alike}
use Rattle.dsec_nodes.specs.Taking.{RestsAt}
use Rattle.dsec_nodes.specs.Machine.{Question as Asked, Walking, Step, Input, begin, node, stored, reply, gets, in_phase, started, advanced, node_get, node_put, ask, done}
use Rattle.dsec_nodes.specs.InStep.{AskedOf, GotOf}
use Rattle.dsec_nodes.specs.SoundSteps.{InputKept, KeptUnder}
use Rattle.dsec_nodes.specs.Judging.{Finding, is_shown, has_no_set, is_insecure, is_bogus, is_indeterminate, by_node, target_of}
use Rattle.dsec_nodes.proofs.MachineLaws.{all_last}
use Rattle.dsec_course.specs.Course.{Waiting, to_begin, to_end, for_walk, for_nothing, Course, CourseStep, get_node, put_node, ask_for, end_with, CourseAnswers, walk_in, walks_in, Way, at_once, by_walk, way_of}
use Rattle.dsec_course.specs.Advancing.{with_judged, with_walk, by_way, going_on, by_found, by_step, by_waiting, course_advanced}
use Rattle.dsec_course.specs.Agreeing.{WalkOf, CourseStepIs}
use Rattle.dsec_course.specs.Justified.{CourseStepSound}
use Rattle.dsec_course.specs.Hearing.{put_by, GivenFrom, IsOfTable, CountsAt}
use Rattle.dsec_nodes.proofs.TakingLaws.{taken_now}
use Rattle.dsec_nodes.proofs.Each.{all_front, all_back, all_both, all_map}
use Rattle.dsec_course.proofs.WalkSteps.{GotMore, advances}

-- what is in a list of one is that one
pub only : (x y : Node) → Contains (x ∷ []) y → x ≡ y
only x y h = elim (in_more x y [] h) [
  | inl same ↦ same
  | inr none ↦ absurd (not_in_none y none)
]

-- a node that a walk from an island has taken: where it is from, and that it counts
abbrev pub IsGiven : World → (Node → Type 0) → List Node → Place → Node → Type 0
IsGiven w held puts top n = (held n ⊎ Contains puts n) × CountsAt w n top

-- and each that a walk has taken
abbrev pub Trace : World → (Node → Type 0) → List Node → Walking → Type 0
Trace w held puts s = AllByRecursion (IsGiven w held puts s.top) s.got

-- what is in a list is in the list with more
pub in_longer : {A : Type 0} (xs ys : List A) (x : A) → Contains xs x → Contains (xs ++ ys) x
in_longer [] ys x h = absurd (not_in_none x h)
in_longer (z ∷ xs) ys x h = elim (in_more z x xs h) [
  | inl same ↦ subst (λ y. Contains (z ∷ (xs ++ ys)) y) same (first_in z (xs ++ ys))
  | inr later ↦ later_in z x (xs ++ ys) (in_longer xs ys x later)
]

-- a node has one anchor, and so one island
pub same_island : (anchors : List Record) (a b : Place) (n : Node) → RestsAt anchors a n → RestsAt anchors b n → a ≡ b
same_island anchors a b n r s =
    sym r.at ∙ (ap (λ (x : Record). place x.owner) (same_Some r.anchor s.anchor (sym r.its ∙ s.its)) ∙ s.at)

-- where the held nodes and the puts are of a table, so are those that were given
pub got_of : (like : Likeness) (w : World) (replies : Replies) (held : Node → Type 0) (puts : List Node) (s : Walking) → ((n : Node) → held n → IsOfTable like w replies n)
    → ((n : Node) → Contains puts n → IsOfTable like w replies n) → Trace w held puts s → GotOf like w replies s.top s.got
got_of like w replies held puts s h p t =
    all_map (IsGiven w held puts s.top) (λ (n : Node). Alike like (node_of w replies s.top n.name) n) s.got
    (λ n f. elim f.0 [ inl x ↦ h n x s.top (taken_now w s.top n f.1) | inr x ↦ p n x s.top (taken_now w s.top n f.1) ]) t

-- walks whose nodes are of a table, and whose replies are
pub walks_of : (like : Likeness) (w : World) (replies : Replies) (held : Node → Type 0) (puts : List Node) (ws : List Walking)
    → ((n : Node) → held n → IsOfTable like w replies n) → ((n : Node) → Contains puts n → IsOfTable like w replies n)
    → AllByRecursion (Trace w held puts) ws → AskedOf replies (flat_map (λ (s : Walking). s.asked) ws)
    → AllByRecursion (WalkOf like w replies) ws
walks_of like w replies held puts [] h p t a = tt
walks_of like w replies held puts (s ∷ ws) h p t a =
    let Answered : Asked → Type 0 = λ q. replies q.name q.rtype ≡ q.reply in
    let later : List Asked = flat_map (λ (x : Walking). x.asked) ws in (
      (
        all_front Answered s.asked later a,
        got_of like w replies held puts s h p t.0,
      ),
      walks_of like w replies held puts ws h p t.1 (all_back Answered s.asked later a),
    )

-- what holds of the walks that have ended, and of each walk that sets out, holds of all of them while judging goes on
going_walks : (w : World) (T : Walking → Type 0) → ((top target : Place) → T (in_phase (started top target) gets)) → (groups : List Group)
    (c : Course) → AllByRecursion T c.walks → AllByRecursion T (walks_in (going_on w groups c).0)
unfolding going_on
going_walks w T first [] c h = all_both T c.walks [] h tt
going_walks w T first (g ∷ gs) c h = by (going_walks w T first gs) (way_of w g)
  where
    by : ((d : Course) → AllByRecursion T d.walks → AllByRecursion T (walks_in (going_on w gs d).0)) → (x : Way) → AllByRecursion T (walks_in (by_way g gs x (going_on w gs) c).0)
    by later (at_once j) = later (with_judged c j) h
    by later (by_walk top) = all_both T c.walks (in_phase (started top (target_of g (Some top))) gets ∷ []) h (first top (target_of g (Some top)), tt)

-- and after a step of the walk that is waited for
step_walks : (w : World) (T : Walking → Type 0) → ((top target : Place) → T (in_phase (started top target) gets)) → (c : Course)
    (group : Group) (s : Walking) (x : Step)
    → AllByRecursion T (c.walks ++ s ∷ []) → AllByRecursion T (walks_in (by_step w c group s x).0)
step_walks w T first c group s (node_get name) h = h
step_walks w T first c group s (node_put name n) h = h
step_walks w T first c group s (ask name rtype) h = h
step_walks w T first c group s (done n) h = by (by_node w group n).finding
  where
    d : Course
    d = with_judged (with_walk c s) (by_node w group n)

    by : (x : Finding) → AllByRecursion T (walks_in (by_found w d x).0)
    by (is_bogus cause links) = all_both T (c.walks ++ s ∷ []) [] h tt
    by (is_shown links last signature) = going_walks w T first c.left d h
    by has_no_set = going_walks w T first c.left d h
    by (is_insecure cause signed) = going_walks w T first c.left d h
    by is_indeterminate = going_walks w T first c.left d h

-- where the nodes that a walk was given are from, with one more that was given
pub trace_more : (w : World) (held : Node → Type 0) (puts : List Node) (s t : Walking) (i : Input) (got : List Node) → t.top ≡ s.top → t.got ≡ got
    → GotMore w s i got → GivenFrom held puts i → Trace w held puts s → Trace w held puts t
trace_more w held puts s t i got top is more from h =
    subst (AllByRecursion (At t.top)) (sym is) (subst (λ (p : Place). AllByRecursion (At p) got) (sym top) all)
  where
    At : Place → Node → Type 0
    At = IsGiven w held puts

    all : AllByRecursion (At s.top) got
    all = elim more [
      | inl same ↦ subst (AllByRecursion (At s.top)) (sym same) h
      | inr new ↦ subst (AllByRecursion (At s.top)) (sym new.2)
          (all_both (At s.top) s.got (new.0 ∷ []) h ((subst (GivenFrom held puts) new.1 from, new.3), tt))
    ]

-- the nodes that the walks of a message were given, after one more input
pub given_on : (w : World) (held : Node → Type 0) (puts : List Node) (c : Course) (input : Input) → CourseAnswers c.waits input
    → GivenFrom held puts input → AllByRecursion (Trace w held puts) (walks_in c)
    → AllByRecursion (Trace w held puts) (walks_in (course_advanced w c input).0)
given_on w held puts c input a from h = by c.waits input a from h
  where
    T : Walking → Type 0
    T = Trace w held puts

    first : (top target : Place) → T (in_phase (started top target) gets)
    first top target = tt

    by : (x : Waiting) (i : Input) → CourseAnswers x i → GivenFrom held puts i → AllByRecursion T (c.walks ++ walk_in x)
        → AllByRecursion T (walks_in (by_waiting w c i x).0)
    by to_begin begin b f g = going_walks w T first c.left c (all_front T c.walks [] g)
    by (to_end o) begin b f g = g
    by (for_walk group s) i b f g =
        let l = advances w s i b in
        let both = all_last T c.walks s g in
        step_walks w T first c group (advanced w s i).0 (advanced w s i).1 (all_both T c.walks ((advanced w s i).0 ∷ []) both.0
        (trace_more w held puts s (advanced w s i).0 i l.got l.leaves.same_top l.leaves.got_is l.more f both.1, tt))
    by to_begin (node o) b f g = absurd b
    by to_begin stored b f g = absurd b
    by to_begin (reply octets) b f g = absurd b
    by (to_end o) (node n) b f g = absurd b
    by (to_end o) stored b f g = absurd b
    by (to_end o) (reply octets) b f g = absurd b
    by for_nothing i b f g = absurd b

-- a node that is put under an island counts there
pub under_counts : (w : World) (top name : Place) (n : Node) → KeptUnder w top name n → IsBogus n.standing ≡ false → CountsAt w n top
under_counts w top name n h e = record { not_bogus = e; named = refl; rests = h.1 e; within = h.2; from = h.0.2; to = h.0.3 }

-- a node that a step puts is kept
pub put_kept : (w : World) (most : ℕ) (message : List ℕ) (x : CourseStep) (waits : Waiting) → CourseStepSound w most message x waits → (n : Node)
    → Contains (put_by x) n → Kept w.accepts n
put_kept w most message (put_node name m) (for_walk group s) h n there = subst (Kept w.accepts) (only m n there) h.0.0.0
put_kept w most message (put_node name m) to_begin h n there = absurd h
put_kept w most message (put_node name m) (to_end o) h n there = absurd h
put_kept w most message (put_node name m) for_nothing h n there = absurd h
put_kept w most message (get_node name) waits h n there = absurd (not_in_none n there)
put_kept w most message (ask_for name rtype) waits h n there = absurd (not_in_none n there)
put_kept w most message (end_with r) waits h n there = absurd (not_in_none n there)

-- and counts
pub put_counts : (w : World) (most : ℕ) (message : List ℕ) (x : CourseStep) (waits : Waiting) → CourseStepSound w most message x waits → (n : Node)
    → Contains (put_by x) n → (top : Place) × CountsAt w n top
put_counts w most message (put_node name m) (for_walk group s) h n there =
    subst (λ (y : Node). (top : Place) × CountsAt w y top) (only m n there) (s.top, under_counts w s.top name m h.0 h.1)
put_counts w most message (put_node name m) to_begin h n there = absurd h
put_counts w most message (put_node name m) (to_end o) h n there = absurd h
put_counts w most message (put_node name m) for_nothing h n there = absurd h
put_counts w most message (get_node name) waits h n there = absurd (not_in_none n there)
put_counts w most message (ask_for name rtype) waits h n there = absurd (not_in_none n there)
put_counts w most message (end_with r) waits h n there = absurd (not_in_none n there)

-- a node that is put under an island is of a table where it says what the recursion says there
pub put_under_table : (like : Likeness) (w : World) (replies : Replies) (top name : Place) (n : Node) → KeptUnder w top name n → IsBogus n.standing ≡ false
    → Alike like (node_of w replies top name) n → IsOfTable like w replies n
put_under_table like w replies top name n h e is = λ other may.
    let same : other ≡ top = same_island w.anchors other top n may.2.rests (h.1 e) in
    ap (λ (p : Place). seen like (node_of w replies p n.name)) same ∙ (ap (λ (p : Place). seen like (node_of w replies top p)) h.0.1 ∙ is)

-- so is one that a step puts, where what was given is
pub put_of_table : (like : Likeness) (w : World) (most : ℕ) (replies : Replies) (message : List ℕ) (x : CourseStep) (waits : Waiting)
    → CourseStepSound w most message x waits
    → CourseStepIs like w most replies message waits x → (n : Node) → Contains (put_by x) n → IsOfTable like w replies n
put_of_table like w most replies message (put_node name m) (for_walk group s) h is n there =
    subst (IsOfTable like w replies) (only m n there) (put_under_table like w replies s.top name m h.0 h.1 is)
put_of_table like w most replies message (put_node name m) to_begin h is n there = absurd h
put_of_table like w most replies message (put_node name m) (to_end o) h is n there = absurd h
put_of_table like w most replies message (put_node name m) for_nothing h is n there = absurd h
put_of_table like w most replies message (get_node name) waits h is n there = absurd (not_in_none n there)
put_of_table like w most replies message (ask_for name rtype) waits h is n there = absurd (not_in_none n there)
put_of_table like w most replies message (end_with r) waits h is n there = absurd (not_in_none n there)

-- a kept input, where what was held is kept
pub input_kept : (w : World) (held : Node → Type 0) (puts : List Node) (i : Input) → ((n : Node) → held n → Kept w.accepts n)
    → ((n : Node) → Contains puts n → Kept w.accepts n) → GivenFrom held puts i → InputKept w i
input_kept w held puts begin h p f = tt
input_kept w held puts (node None) h p f = tt
input_kept w held puts (node (Some n)) h p f = elim f [ inl x ↦ h n x | inr x ↦ p n x ]
input_kept w held puts stored h p f = tt
input_kept w held puts (reply octets) h p f = tt
