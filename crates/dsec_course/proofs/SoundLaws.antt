-- A message judged a step at a time is sound, whatever kept nodes its walks are given, from whichever moment.
use Rattle.std.proofs.Common.{◌≡◌, ℕ, true, ◌==◌, ◌+◌, ◌≤◌, List, [], ◌∷◌, ◌++◌, length, take, drop, map, Option, Some, None, refl, sym, ap, ◌∙◌, subst, append-nil, append_assoc}
use Rattle.std.specs.Prelude.{filter_map}
use Rattle.std.specs.List.{AllByRecursion}
use Rattle.std.proofs.Math.Seq.{take-append_seam, drop-append_seam}
use Rattle.std.proofs.lemmas.Bool.{cond-false}
use Rattle.std.proofs.lemmas.Option.{same_Some}
use Rattle.std.proofs.lemmas.List.{map-append, take-map, drop-map, take-append-drop}
use Rattle.std.proofs.lemmas.List.Elements.{filter_map-append}
use Rattle.dsec_spec.specs.Names.{Place, place}
use Rattle.dsec_spec.specs.Records.{Record}
use Rattle.dsec_spec.specs.Messages.{Question, questions_of, answers_of, authorities_of}
use Rattle.dsec_spec.specs.Groups.{Group}
use Rattle.dsec_spec.specs.Islands.{island}
use Rattle.dsec_spec.proofs.ReadingLemmas.{from_bind}
use Rattle.dsec_nodes.specs.World.{World}
use Rattle.dsec_nodes.specs.Nodes.{Node}
use Rattle.dsec_nodes.specs.Machine.{Walking, Step, Input, begin, node, stored, reply, gets, in_phase, started, advanced, node_get, node_put, ask, done}
use Rattle.dsec_nodes.specs.InStep.{IsCounted}
use Rattle.dsec_nodes.specs.SoundSteps.{OnTheWay, SoundAt, SoundStep, InputKept}
use Rattle.dsec_nodes.specs.Judging.{Finding, is_shown, has_no_set, is_insecure, is_bogus, is_indeterminate, Judged, by_node, target_of}
use Rattle.dsec_nodes.specs.Aliases.{alias_path}
use Rattle.dsec_nodes.specs.Alone.{at_end, on_questions, sections_of}
use Rattle.dsec_nodes.specs.SoundOutcomes.{IsRead}
use Rattle.dsec_nodes.proofs.SoundWalk.{advanced_sound, started_sound}
use Rattle.dsec_nodes.proofs.CountLaws.{advanced_counted, started_counted, asked_at_most}
use Rattle.dsec_nodes.proofs.WeakWays.{Means}
use Rattle.dsec_nodes.proofs.EndLaws.{end_justified}
use Rattle.dsec_nodes.proofs.OutcomeLaws.{read_is}
use Rattle.dsec_course.specs.Course.{Waiting, to_begin, to_end, for_walk, for_nothing, Course, CourseAnswers, Way, at_once, by_walk, way_under, way_of}
use Rattle.dsec_course.specs.Advancing.{waiting, with_judged, with_walk, at_last, by_way, going_on, by_found, by_step, by_waiting, course_advanced}
use Rattle.dsec_course.specs.Agreeing.{IsFor}
use Rattle.dsec_course.specs.Justified.{IsEnd, Justifies, IsFound, IsSure, route, route_by, route_of, most_on, IsPaced, IsOpen, SoundSoFar, SoundCourseAt, SoundCourse, SoundGoing}
use Rattle.dsec_nodes.proofs.Each.{all_front, all_back, all_both}
use Rattle.dsec_course.proofs.WalkSteps.{HasReached, advances}
use Rattle.dsec_course.proofs.WalkPuts.{PutUnder, put_under}
use Rattle.dsec_course.proofs.GroupLaws.{passes, IsOnce, WayIs, way_is}
use Rattle.dsec_course.proofs.AgreeingLaws.{target_below, sets_out, still_for}
use Rattle.dsec_course.proofs.FoundLaws.{found_is}

-- what is left out of a list whose last is left out
left_out : {A B : Type 0} (h : A → Option B) (xs : List A) (x : A) → h x ≡ None → filter_map h (xs ++ x ∷ []) ≡ filter_map h xs
left_out {A} {B} h xs x e =
    filter_map-append h xs (x ∷ []) ∙ (ap (λ (o : Option B). filter_map h xs ++ Rattle.std.specs.List.cons_option o []) e ∙ append-nil (filter_map h xs))

-- and of one whose last isn't
pub left_in : {A B : Type 0} (h : A → Option B) (xs : List A) (x : A) (y : B) → h x ≡ Some y → filter_map h (xs ++ x ∷ []) ≡ filter_map h xs ++ y ∷ []
left_in {A} {B} h xs x y e = filter_map-append h xs (x ∷ []) ∙ ap (λ (o : Option B). filter_map h xs ++ Rattle.std.specs.List.cons_option o []) e

-- the groups that are judged, with one more
pub more_groups : (js : List Judged) (j : Judged) (group : Group) → j.group ≡ group
    → map (λ (x : Judged). x.group) (js ++ j ∷ []) ≡ map (λ (x : Judged). x.group) js ++ group ∷ []
more_groups js j group e = map-append (λ (x : Judged). x.group) js (j ∷ []) ∙ ap (λ (g : Group). map (λ (x : Judged). x.group) js ++ g ∷ []) e

-- one more group of the message is judged
more_open : (anchors : List Record) (most : ℕ) (message : List ℕ) (c : Course) (s : List Walking) (group : Group) (groups : List Group) (j : Judged) → j.group ≡ group
    → IsOpen anchors most message c (group ∷ groups)
    → IsOpen anchors most message (record { message = c.message; questions = c.questions; most = c.most; answers = c.answers; left = c.left; judged = c.judged ++ j ∷ []; walks = s; waits = c.waits }) groups
more_open anchors most message c s group groups j e o = record {
  answers = o.answers;
  authorities = o.authorities;
  read = o.read;
  split = o.split;
  in_order = ap (λ (gs : List Group). gs ++ groups) (more_groups c.judged j group e)
      ∙ (append_assoc (map (λ (x : Judged). x.group) c.judged) (group ∷ []) groups ∙ o.in_order);
}

-- the route of a group that is judged at once, and of one that needs a walk
pub route_for : (w : World) (group : Group) (s : Walking) → IsFor w group s → route_of w group ≡ Some (route s)
route_for w group s f =
    let no_set : Judged = record { group = group; signer = []; finding = has_no_set } in
    ap (route_by group) (cond-false (length group.records == 0) (at_once no_set) (way_under group (island w.anchors (place group.owner) group.rtype)) f.has_records ∙ ap (way_under group) f.from_island)
    ∙ ap (λ (p : Place). Some (s.top, p)) (sym f.to_signer)

-- what judging goes on after isn't bogus
sure_is : (f : Finding) → passes f ≡ true → IsSure f
sure_is (is_bogus cause links) e = absurd cc
sure_is (is_shown links last signature) e = tt
sure_is has_no_set e = tt
sure_is (is_insecure cause signed) e = tt
sure_is is_indeterminate e = tt

-- a group that is judged at once keeps what has been judged sound
once_so_far : (w : World) (most : ℕ) (message : List ℕ) (c : Course) (group : Group) (groups : List Group) (j : Judged)
    → way_of w group ≡ at_once j → IsOnce w group j → SoundSoFar w most message c (group ∷ groups)
    → SoundSoFar w most message (with_judged c j) groups
once_so_far w most message c group groups j e once h = record {
  same_message = h.same_message;
  same_most = h.same_most;
  found = all_both (IsFound w) c.judged (j ∷ []) h.found (once.found, tt);
  sure = all_both (λ (x : Judged). IsSure x.finding) c.judged (j ∷ []) h.sure (sure_is j.finding once.goes_on, tt);
  paced = record {
    routes = h.paced.routes ∙ sym (ap (filter_map (route_of w)) (more_groups c.judged j group once.its)
        ∙ left_out (route_of w) (map (λ (x : Judged). x.group) c.judged) group (ap (route_by group) e));
    counted = h.paced.counted;
  };
  opened = more_open w.anchors most message c c.walks group groups j once.its h.opened;
}

-- what is judged of one whose walk has ended is so, and asked no more than it may
walked_paced : (w : World) (most : ℕ) (message : List ℕ) (c : Course) (group : Group) (groups : List Group) (s : Walking) (n : Node)
    → IsFor w group s → length s.asked ≤ most_on (route s) → SoundSoFar w most message c (group ∷ groups)
    → IsPaced w (with_judged (with_walk c s) (by_node w group n))
walked_paced w most message c group groups s n f counted h = record {
  routes = map-append route c.walks (s ∷ []) ∙ (ap (λ (rs : List (Place × Place)). rs ++ route s ∷ []) h.paced.routes
      ∙ sym (ap (filter_map (route_of w)) (more_groups c.judged (by_node w group n) group refl)
      ∙ left_in (route_of w) (map (λ (x : Judged). x.group) c.judged) group (route s) (route_for w group s f)));
  counted = all_both (λ (x : Walking). length x.asked ≤ most_on (route x)) c.walks (s ∷ []) h.paced.counted (counted, tt);
}

-- so what has been judged stays sound, unless it is bogus
walked_so_far : (w : World) (most : ℕ) (message : List ℕ) (c : Course) (group : Group) (groups : List Group) (s : Walking) (n : Node)
    → IsFor w group s → length s.asked ≤ most_on (route s) → IsFound w (by_node w group n) → IsSure (by_node w group n).finding
    → SoundSoFar w most message c (group ∷ groups) → SoundSoFar w most message (with_judged (with_walk c s) (by_node w group n)) groups
walked_so_far w most message c group groups s n f counted found sure h = record {
  same_message = h.same_message;
  same_most = h.same_most;
  found = all_both (IsFound w) c.judged (by_node w group n ∷ []) h.found (found, tt);
  sure = all_both (λ (x : Judged). IsSure x.finding) c.judged (by_node w group n ∷ []) h.sure (sure, tt);
  paced = walked_paced w most message c group groups s n f counted h;
  opened = more_open w.anchors most message c (c.walks ++ s ∷ []) group groups (by_node w group n) refl h.opened;
}

-- what has been judged doesn't depend on what is waited for
waits_so_far : (w : World) (most : ℕ) (message : List ℕ) (c : Course) (groups left : List Group) (waits : Waiting)
    → SoundSoFar w most message c groups → SoundSoFar w most message (waiting c left waits) groups
waits_so_far w most message c groups left waits h = record {
  same_message = h.same_message;
  same_most = h.same_most;
  found = h.found;
  sure = h.sure;
  paced = record { routes = h.paced.routes; counted = h.paced.counted };
  opened = record {
    answers = h.opened.answers;
    authorities = h.opened.authorities;
    read = h.opened.read;
    split = h.opened.split;
    in_order = h.opened.in_order;
  };
}

-- the question section, as it is read with the other two
asked_is : (message : List ℕ) (s : List Question × List Record × List Record) → sections_of message ≡ Some s
    → (rest : ℕ) × (questions_of message ≡ Some (s.0, rest))
asked_is message s e =
    let authorities = from_bind (authorities_of message) _ s e in
    let answers = from_bind (answers_of message) _ s authorities.2 in
    let questions = from_bind (questions_of message) _ s answers.2 in
    let parts : (questions.0.0, answers.0.0, authorities.0.0) ≡ s = same_Some _ _ questions.2 in
    (questions.0.1, questions.1 ∙ ap (λ (x : List Question × List Record × List Record). Some (x.0, questions.0.1)) parts)

same_questions : (x y : List Question × ℕ) → Some x ≡ Some y → x.0 ≡ y.0
same_questions x y e = ap (λ (p : List Question × ℕ). p.0) (same_Some x y e)

none_is_one : (question : Question) → [] ≡ question ∷ [] → ⊥
none_is_one question e = cc

two_are_one : (first other question : Question) (more : List Question) → first ∷ other ∷ more ≡ question ∷ [] → ⊥
two_are_one first other question more e = cc

-- the outcome where all groups are judged is justified, and a message without one question is refused
last_is : (w : World) (most : ℕ) (message : List ℕ) (c : Course) → SoundSoFar w most message c [] → IsEnd w most message (at_last w c)
last_is w most message c h = by c.questions refl
  where
    js : List Judged
    js = take c.answers c.judged

    beside : List Judged
    beside = drop c.answers c.judged

    o : IsOpen w.anchors most message c []
    o = h.opened

    in_order : map (λ (x : Judged). x.group) c.judged ≡ o.answers ++ o.authorities
    in_order = sym (append-nil (map (λ (x : Judged). x.group) c.judged)) ∙ o.in_order

    same : map (λ (x : Judged). x.group) js ≡ o.answers
    same = sym (take-map (λ (x : Judged). x.group) c.answers c.judged)
        ∙ (ap (take c.answers) in_order ∙ (ap (λ (k : ℕ). take k (o.answers ++ o.authorities)) o.split ∙ take-append_seam o.answers o.authorities))

    others : map (λ (x : Judged). x.group) beside ≡ o.authorities
    others = sym (drop-map (λ (x : Judged). x.group) c.answers c.judged)
        ∙ (ap (drop c.answers) in_order ∙ (ap (λ (k : ℕ). drop k (o.answers ++ o.authorities)) o.split ∙ drop-append_seam o.answers o.authorities))

    sure : AllByRecursion (λ (x : Judged). IsSure x.finding) (js ++ beside)
    sure = subst (AllByRecursion (λ (x : Judged). IsSure x.finding)) (sym (take-append-drop c.answers c.judged)) h.sure

    both : AllByRecursion (IsFound w) (js ++ beside)
    both = subst (AllByRecursion (IsFound w)) (sym (take-append-drop c.answers c.judged)) h.found

    asks : (qs : List Question) → c.questions ≡ qs → (rest : ℕ) × (questions_of message ≡ Some (qs, rest))
    asks qs e =
        let a = asked_is message o.read.sections o.read.read in
        (a.0, a.1 ∙ ap (λ (x : List Question). Some (x, a.0)) (sym o.read.asks ∙ e))

    by : (qs : List Question) → c.questions ≡ qs → IsEnd w most message (on_questions w c.most c.message qs js beside)
    by [] e = (refl, λ question rest f. none_is_one question (same_questions ([], (asks [] e).0) (question ∷ [], rest) (sym (asks [] e).1 ∙ f)))
    by (first ∷ other ∷ more) e = (
      refl,
      λ question rest f. two_are_one first other question more (same_questions (first ∷ other ∷ more, (asks (first ∷ other ∷ more) e).0) (question ∷ [], rest) (sym (asks (first ∷ other ∷ more) e).1 ∙ f)),
    )
    by (question ∷ []) e =
        let read = subst (IsRead w.anchors message most question o.answers) o.read.authorities_are
        (read_is w.anchors most message question o.answers o.read.sections o.read.read (sym o.read.asks ∙ e) o.read.answers_are) in
        subst (Means w most message)
        (ap (λ (m : List ℕ). at_end w m question js beside (alias_path w most question js beside)) (sym h.same_message)
        ∙ ap (λ (k : ℕ). at_end w c.message question js beside (alias_path w k question js beside)) (sym h.same_most))
        (end_justified w most message question o.answers o.authorities js beside read same others (all_front (IsFound w) js beside both)
        (all_back (IsFound w) js beside both) (all_front (λ (x : Judged). IsSure x.finding) js beside sure))

-- judging goes on soundly
going_sound : (w : World) (most : ℕ) (message : List ℕ) (groups : List Group) (c : Course) → SoundSoFar w most message c groups
    → SoundGoing w most message (going_on w groups c)
unfolding going_on
going_sound w most message [] c h = ((h.found, record { routes = h.paced.routes; counted = h.paced.counted }), last_is w most message c h)
going_sound w most message (g ∷ gs) c h = by (going_sound w most message gs) (way_of w g) refl (way_is w g)
  where
    by : ((d : Course) → SoundSoFar w most message d gs → SoundGoing w most message (going_on w gs d)) → (x : Way) → way_of w g ≡ x → WayIs w g x → SoundGoing w most message (by_way g gs x (going_on w gs) c)
    by later (at_once j) e once = later (with_judged c j) (once_so_far w most message c g gs j e once h)
    by later (by_walk top) e needs =
        let f = target_below w g top needs.from_island in
        let s = started top (target_of g (Some top)) in (
          (
            waits_so_far w most message c (g ∷ gs) gs (for_walk g (in_phase s gets)) h,
            sets_out w g top needs,
            (advanced_sound w s begin (started_sound w top (target_of g (Some top)) f.below f.shorter) tt tt).0,
            advanced_counted w s begin (started_counted top (target_of g (Some top))) tt,
          ),
          tt,
        )

-- a walk that has ended has come to a node by which what is found of its group is so
ended_found : (w : World) (group : Group) (s : Walking) (n : Node) → IsFor w group s → SoundStep w s → HasReached (done n) s.reached
    → IsFound w (by_node w group n)
ended_found w group s n f h at =
    let on = subst (SoundAt w s) at.1 h.on_way in
    let there : OnTheWay w s.top (target_of group (Some s.top)) (length s.top + on.0) at.0 =
    subst (λ (p : Place). OnTheWay w s.top p (length s.top + on.0) at.0) f.to_signer on.3 in
    subst (λ (x : Node). IsFound w (by_node w group x)) at.2 (found_is w group s.top (length s.top + on.0) at.0 f.has_records f.from_island there)

-- a walk has come to its group's node
found_sound : (w : World) (most : ℕ) (message : List ℕ) (c : Course) (group : Group) (s : Walking) (n : Node) → IsFor w group s → SoundStep w s
    → IsCounted s → HasReached (done n) s.reached → SoundSoFar w most message c (group ∷ c.left)
    → SoundGoing w most message (by_step w c group s (done n))
found_sound w most message c group s n f h counted at so_far = by (by_node w group n).finding refl
  where
    d : Course
    d = with_judged (with_walk c s) (by_node w group n)

    found : IsFound w (by_node w group n)
    found = ended_found w group s n f h at

    paced : IsPaced w d
    paced = walked_paced w most message c group c.left s n f (asked_at_most w s h counted) so_far

    more : IsSure (by_node w group n).finding → SoundSoFar w most message d c.left
    more sure = walked_so_far w most message c group c.left s n f (asked_at_most w s h counted) found sure so_far

    by : (x : Finding) → (by_node w group n).finding ≡ x → SoundGoing w most message (by_found w d x)
    by (is_bogus cause links) e = (
      (all_both (IsFound w) c.judged (by_node w group n ∷ []) so_far.found (found, tt), record { routes = paced.routes; counted = paced.counted }),
      (refl, (n.signer, subst (Justifies w (by_node w group n)) e found)),
    )
    by (is_shown links last signature) e = going_sound w most message c.left d (more (subst IsSure (sym e) tt))
    by has_no_set e = going_sound w most message c.left d (more (subst IsSure (sym e) tt))
    by (is_insecure cause signed) e = going_sound w most message c.left d (more (subst IsSure (sym e) tt))
    by is_indeterminate e = going_sound w most message c.left d (more (subst IsSure (sym e) tt))

-- the course after a step of the walk that is waited for
walk_sound : (w : World) (most : ℕ) (message : List ℕ) (c : Course) (group : Group) (p : Walking × Step) → IsFor w group p.0 → SoundStep w p.0
    → IsCounted p.0 → PutUnder w p.0.top p.1 → HasReached p.1 p.0.reached → SoundSoFar w most message c (group ∷ c.left)
    → SoundGoing w most message (by_step w c group p.0 p.1)
walk_sound w most message c group p f h counted puts at so_far = by p.1 puts at
  where
    goes_on : SoundCourse w most message (waiting c c.left (for_walk group p.0))
    goes_on = (waits_so_far w most message c (group ∷ c.left) c.left (for_walk group p.0) so_far, f, h, counted)

    by : (x : Step) → PutUnder w p.0.top x → HasReached x p.0.reached → SoundGoing w most message (by_step w c group p.0 x)
    by (node_get name) k r = (goes_on, tt)
    by (node_put name n) k r = (goes_on, k)
    by (ask name rtype) k r = (goes_on, tt)
    by (done n) k r = found_sound w most message c group p.0 n f h counted r so_far

-- where nothing is judged, nothing is wrong
nothing_yet : (w : World) (c : Course) (left : List Group) (waits : Waiting) → c.judged ≡ [] → c.walks ≡ []
    → AllByRecursion (IsFound w) c.judged × IsPaced w (waiting c left waits)
nothing_yet w c left waits f e = (
  subst (AllByRecursion (IsFound w)) (sym f) tt,
  record {
    routes = ap (map route) e ∙ sym (ap (λ (xs : List Judged). filter_map (route_of w) (map (λ (j : Judged). j.group) xs)) f);
    counted = subst (AllByRecursion (λ (s : Walking). length s.asked ≤ most_on (route s))) (sym e) tt;
  },
)

-- Each step keeps a course sound: it puts kept nodes alone, and ends with an outcome that is justified, whatever kept nodes it is given
-- (RFC 4033 5, RFC 4035 4.5)
pub course_sound : (w : World) (most : ℕ) (message : List ℕ) (c : Course) (input : Input) → SoundCourse w most message c
    → CourseAnswers c.waits input → InputKept w input → SoundGoing w most message (course_advanced w c input)
course_sound w most message c input h a k = by c.waits input h a k
  where
    by : (x : Waiting) (i : Input) → SoundCourseAt w most message c x → CourseAnswers x i → InputKept w i
        → SoundGoing w most message (by_waiting w c i x)
    by to_begin begin g b q = going_sound w most message c.left c g
    by (to_end o) begin g b q =
        (nothing_yet w c c.left for_nothing g.1 g.2, g.0)
    by (for_walk group s) i g b q =
        let p = advanced w s i in
        let l = (advances w s i b).leaves in
        walk_sound w most message c group p (still_for w group s p.0 l.same_top l.same_target g.1) (advanced_sound w s i g.2 b q).0 (advanced_counted w s i g.3 b)
        (subst (λ (t : Place). PutUnder w t p.1) (sym l.same_top) (put_under w s i g.2 b)) l.reached g.0
    by to_begin (node o) g b q = absurd b
    by to_begin stored g b q = absurd b
    by to_begin (reply octets) g b q = absurd b
    by (to_end o) (node n) g b q = absurd b
    by (to_end o) stored g b q = absurd b
    by (to_end o) (reply octets) g b q = absurd b
    by for_nothing i g b q = absurd b
