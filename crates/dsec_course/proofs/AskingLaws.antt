-- How many questions a message asks, of which walks, and that each step waits for what answers it.
use Rattle.std.proofs.Common.{Bool, true, false, cond, ◌≡◌, ℕ, ◌+◌, ◌-◌, ◌*◌, ◌≤◌, List, [], ◌∷◌, ◌++◌, length, map, Option, Some, None, refl, sym, ap, ◌∙◌, subst, arith, append-nil, append_assoc, length-append}
use Rattle.std.specs.Prelude.{filter_map, find, unwrap_or, take, ◌==◌}
use Rattle.std.specs.List.{AllByRecursion, flat_map, sum_by, cons_option}
use Rattle.std.proofs.Math.Nat.{min-le_right}
use Rattle.std.proofs.lemmas.List.{length-take, map-append, length-map}
use Rattle.std.proofs.lemmas.List.Sums.{sum_by-append, sum_by-cons}
use Rattle.std.proofs.lemmas.List.Elements.{filter_map-append}
use Rattle.dsec_spec.specs.Names.{Place, place}
use Rattle.dsec_spec.specs.Numbers.{DS}
use Rattle.dsec_spec.specs.Groups.{Group}
use Rattle.dsec_spec.specs.Islands.{looked_for_at, signers, is_usable}
use Rattle.dsec_spec.proofs.Members.{from_find}
use Rattle.dsec_nodes.specs.World.{World}
use Rattle.dsec_nodes.specs.Nodes.{Node}
use Rattle.dsec_nodes.specs.Machine.{Walking, Step, Input, begin, node, stored, reply, advanced, node_get, node_put, ask, done}
use Rattle.dsec_nodes.specs.Judging.{Finding, is_shown, has_no_set, is_insecure, is_bogus, is_indeterminate, Judged, by_node, target_of}
use Rattle.dsec_nodes.proofs.CountLaws.{asked_at_most}
use Rattle.dsec_course.specs.Course.{Waiting, to_begin, to_end, for_walk, for_nothing, Course, CourseAnswers, group_in, walk_in, groups_in, walks_in, asked_in, Way, at_once, by_walk, way_of}
use Rattle.dsec_course.specs.Advancing.{with_judged, with_walk, by_way, going_on, by_found, by_step, by_waiting, course_advanced}
use Rattle.dsec_course.specs.Justified.{route, route_by, route_of, most_on, most_for, IsPaced, SoundCourseAt, SoundCourse}
use Rattle.dsec_nodes.proofs.Each.{all_both, all_in}
use Rattle.dsec_course.proofs.GroupLaws.{WayIs, way_is}
use Rattle.dsec_course.proofs.SoundLaws.{more_groups, left_in, route_for}

-- what walks have asked is no more than their routes allow
walks_asked : (ws : List Walking) → AllByRecursion (λ (s : Walking). length s.asked ≤ most_on (route s)) ws
    → length (flat_map (λ (s : Walking). s.asked) ws) ≤ sum_by most_on (map route ws)
walks_asked [] h = omega arith
walks_asked (s ∷ ws) h =
    let rest = walks_asked ws h.1 in
    let long = length-append s.asked (flat_map (λ (x : Walking). x.asked) ws) in
    let sums : sum_by most_on (map route (s ∷ ws)) ≡ most_on (route s) + sum_by most_on (map route ws) = sum_by-cons most_on (route s) (map route ws) in
    omega (arith, h.0, rest, long, sums)

-- how many questions may be asked for groups and others
most_both : (w : World) (xs ys : List Group) → most_for w (xs ++ ys) ≡ most_for w xs + most_for w ys
most_both w xs ys =
    ap (sum_by most_on) (filter_map-append (route_of w) xs ys) ∙ sum_by-append most_on (filter_map (route_of w) xs) (filter_map (route_of w) ys)

-- no more are left in than there were
few_left : {A B : Type 0} (h : A → Option B) (xs : List A) → length (filter_map h xs) ≤ length xs
few_left h [] = omega arith
few_left {A} {B} h (x ∷ xs) = by (h x) (few_left h xs)
  where
    by : (o : Option B) → length (filter_map h xs) ≤ length xs → length (cons_option o (filter_map h xs)) ≤ length (x ∷ xs)
    by None le = omega (arith, le)
    by (Some y) le = omega (arith, le)

-- the walks of a message, with the one that is waited for, are those for the groups that it has come to, in order, and none of them has asked
-- more than its route allows
abbrev pub AreAskedAt : World → Course → Waiting → Type 0
AreAskedAt w c waits =
    (map route (c.walks ++ walk_in waits) ≡ filter_map (route_of w) (map (λ (j : Judged). j.group) c.judged ++ group_in waits))
    × AllByRecursion (λ (s : Walking). length s.asked ≤ most_on (route s)) (c.walks ++ walk_in waits)

-- where no walk is waited for
paced_asked : (w : World) (c : Course) → IsPaced w c
    → (map route (c.walks ++ []) ≡ filter_map (route_of w) (map (λ (j : Judged). j.group) c.judged ++ []))
    × AllByRecursion (λ (s : Walking). length s.asked ≤ most_on (route s)) (c.walks ++ [])
paced_asked w c p = (
  ap (map route) (append-nil c.walks) ∙ (p.routes ∙ ap (filter_map (route_of w)) (sym (append-nil (map (λ (j : Judged). j.group) c.judged)))),
  all_both (λ (s : Walking). length s.asked ≤ most_on (route s)) c.walks [] p.counted tt,
)

-- so it is with a sound course
pub course_walks : (w : World) (most : ℕ) (message : List ℕ) (c : Course) → SoundCourse w most message c → AreAskedAt w c c.waits
course_walks w most message c h = by c.waits h
  where
    none : c.judged ≡ [] → c.walks ≡ [] → IsPaced w c
    none f e = record {
      routes = ap (map route) e ∙ sym (ap (λ (xs : List Judged). filter_map (route_of w) (map (λ (j : Judged). j.group) xs)) f);
      counted = subst (AllByRecursion (λ (s : Walking). length s.asked ≤ most_on (route s))) (sym e) tt;
    }

    by : (x : Waiting) → SoundCourseAt w most message c x → AreAskedAt w c x
    by to_begin g = paced_asked w c g.paced
    by (to_end o) g = paced_asked w c (none g.1 g.2)
    by for_nothing g = paced_asked w c g.1
    by (for_walk group s) g = (
      map-append route c.walks (s ∷ []) ∙ (ap (λ (rs : List (Place × Place)). rs ++ route s ∷ []) g.0.paced.routes
          ∙ sym (left_in (route_of w) (map (λ (j : Judged). j.group) c.judged) group (route s) (route_for w group s g.1))),
      all_both (λ (x : Walking). length x.asked ≤ most_on (route x)) c.walks (s ∷ []) g.0.paced.counted (asked_at_most w s g.2 g.3, tt),
    )

-- A message asks no more questions than the routes of its groups allow: at most 2 k + 1 for a group whose zone is k labels below its island
-- (RFC 4035 5.2)
pub course_asks : (w : World) (most : ℕ) (message : List ℕ) (c : Course) → SoundCourse w most message c
    → length (asked_in c) ≤ most_for w (groups_in c)
course_asks w most message c h =
    let a = course_walks w most message c h in
    let come : List Group = map (λ (j : Judged). j.group) c.judged ++ group_in c.waits in
    let some = walks_asked (walks_in c) a.1 in
    let routes : sum_by most_on (map route (walks_in c)) ≡ most_for w come = ap (sum_by most_on) a.0 in
    let split : groups_in c ≡ come ++ c.left = sym (append_assoc (map (λ (j : Judged). j.group) c.judged) (group_in c.waits) c.left) in
    let all : most_for w (groups_in c) ≡ most_for w come + most_for w c.left = ap (most_for w) split ∙ most_both w come c.left in
    omega (arith, some, routes, all)

-- and has no more walks than groups
pub course_walks_few : (w : World) (most : ℕ) (message : List ℕ) (c : Course) → SoundCourse w most message c
    → length (walks_in c) ≤ length (groups_in c)
course_walks_few w most message c h =
    let a = course_walks w most message c h in
    let come : List Group = map (λ (j : Judged). j.group) c.judged ++ group_in c.waits in
    let as_many : length (walks_in c) ≡ length (filter_map (route_of w) come) = sym (length-map (walks_in c) route) ∙ ap (length {A = Place × Place}) a.0 in
    let split : groups_in c ≡ come ++ c.left = sym (append_assoc (map (λ (j : Judged). j.group) c.judged) (group_in c.waits) c.left) in
    let long : length (groups_in c) ≡ length come + length c.left = ap (length {A = Group}) split ∙ length-append come c.left in
    omega (arith, as_many, few_left (route_of w) come, long)

-- the zone that is to have signed a group has so many labels at most, from whichever island
abbrev pub HasLabels : ℕ → Group → Type 0
HasLabels most group = (top : Place) → length (target_of group (Some top)) ≤ most

-- with zones of at most 127 labels, as names have them, at most 255 questions are asked for each group (RFC 1035 2.3.4)
pub most_for_each : (w : World) (groups : List Group) → AllByRecursion (HasLabels 127) groups → most_for w groups ≤ 255 * length groups
most_for_each w [] h = omega arith
most_for_each w (g ∷ gs) h = by (way_of w g) (most_for_each w gs h.1)
  where
    by : (x : Way) → most_for w gs ≤ 255 * length gs
        → sum_by most_on (cons_option (route_by g x) (filter_map (route_of w) gs)) ≤ 255 * length (g ∷ gs)
    by (at_once j) le = omega (arith, le)
    by (by_walk top) le =
        let own : Place × Place = (top, target_of g (Some top)) in
        let sums : sum_by most_on (own ∷ filter_map (route_of w) gs) ≡ most_on own + most_for w gs = sum_by-cons most_on own (filter_map (route_of w) gs) in
        omega (arith, le, h.0 top, sums)

-- a zone that is to have signed a group has no more labels than the group's owner, or one of the signers that its signatures name
pub labels_of_target : (most : ℕ) (group : Group) → length (place group.owner) ≤ most
    → AllByRecursion (λ (p : Place). length p ≤ most) (signers group) → HasLabels most group
labels_of_target most group le named top = by (find (is_usable (Some top) from) (signers group)) refl
  where
    from : Place
    from = looked_for_at (place group.owner) group.rtype

    short : length from ≤ most
    short = either_short (group.rtype == DS)
      where
        either_short : (b : Bool) → length (cond b (take (length (place group.owner) - 1) (place group.owner)) (place group.owner)) ≤ most
        either_short true = omega (arith, le, length-take (length (place group.owner) - 1) (place group.owner), min-le_right (length (place group.owner) - 1) (length (place group.owner)))
        either_short false = le

    by : (o : Option Place) → find (is_usable (Some top) from) (signers group) ≡ o → length (unwrap_or o from) ≤ most
    by None e = short
    by (Some signer) e = all_in (λ (p : Place). length p ≤ most) (signers group) signer named (from_find (is_usable (Some top) from) (signers group) signer e).1

-- judging goes on with the same groups, in order
going_stays : (w : World) (groups : List Group) (c : Course)
    → groups_in (going_on w groups c).0 ≡ map (λ (j : Judged). j.group) c.judged ++ groups
unfolding going_on
going_stays w [] c = refl
going_stays w (g ∷ gs) c = by (going_stays w gs) (way_of w g) (way_is w g)
  where
    by : ((d : Course) → groups_in (going_on w gs d).0 ≡ map (λ (j : Judged). j.group) d.judged ++ gs) → (x : Way) → WayIs w g x → groups_in (by_way g gs x (going_on w gs) c).0 ≡ map (λ (j : Judged). j.group) c.judged ++ (g ∷ gs)
    by later (at_once j) once =
        later (with_judged c j)
        ∙ (ap (λ (xs : List Group). xs ++ gs) (more_groups c.judged j g once.its) ∙ append_assoc (map (λ (x : Judged). x.group) c.judged) (g ∷ []) gs)
    by later (by_walk top) needs = refl

-- after a walk has come to its group's node
found_stays : (w : World) (c : Course) (group : Group) (s : Walking) (n : Node) (x : Finding)
    → groups_in (by_found w (with_judged (with_walk c s) (by_node w group n)) x).0 ≡ map (λ (j : Judged). j.group) c.judged ++ (group ∷ c.left)
found_stays w c group s n x = by x
  where
    judged : List Group
    judged = map (λ (j : Judged). j.group) c.judged

    d : Course
    d = with_judged (with_walk c s) (by_node w group n)

    more : map (λ (j : Judged). j.group) (c.judged ++ by_node w group n ∷ []) ++ c.left ≡ judged ++ (group ∷ c.left)
    more = ap (λ (xs : List Group). xs ++ c.left) (more_groups c.judged (by_node w group n) group refl) ∙ append_assoc judged (group ∷ []) c.left

    by : (y : Finding) → groups_in (by_found w d y).0 ≡ judged ++ (group ∷ c.left)
    by (is_bogus cause links) = more
    by (is_shown links last signature) = going_stays w c.left d ∙ more
    by has_no_set = going_stays w c.left d ∙ more
    by (is_insecure cause signed) = going_stays w c.left d ∙ more
    by is_indeterminate = going_stays w c.left d ∙ more

-- the groups of a message stay the same at each step
pub groups_stay : (w : World) (c : Course) (input : Input) → CourseAnswers c.waits input
    → groups_in (course_advanced w c input).0 ≡ groups_in c
groups_stay w c input a = by c.waits input a
  where
    judged : List Group
    judged = map (λ (j : Judged). j.group) c.judged

    by_its : (group : Group) (s : Walking) (x : Step) → groups_in (by_step w c group s x).0 ≡ judged ++ (group ∷ c.left)
    by_its group s (node_get name) = refl
    by_its group s (node_put name n) = refl
    by_its group s (ask name rtype) = refl
    by_its group s (done n) = found_stays w c group s n (by_node w group n).finding

    by : (x : Waiting) (i : Input) → CourseAnswers x i → groups_in (by_waiting w c i x).0 ≡ judged ++ (group_in x ++ c.left)
    by to_begin begin b = going_stays w c.left c
    by (to_end o) begin b = refl
    by (for_walk group s) i b = by_its group (advanced w s i).0 (advanced w s i).1
    by to_begin (node o) b = absurd b
    by to_begin stored b = absurd b
    by to_begin (reply octets) b = absurd b
    by (to_end o) (node n) b = absurd b
    by (to_end o) stored b = absurd b
    by (to_end o) (reply octets) b = absurd b
    by for_nothing i b = absurd b
