-- A message judged a step at a time is the recursion, whatever nodes of the table its walks are given.
use Rattle.std.proofs.Common.{◌≡◌, ℕ, ◌+◌, ◌≤◌, true, List, [], ◌∷◌, ◌++◌, length, take, Some, refl, sym, ap, ◌∙◌, subst, arith, append-nil, length-append}
use Rattle.std.specs.List.{AllByRecursion}
use Rattle.std.proofs.Math.Seq.{take-append_seam}
use Rattle.dsec_spec.specs.Names.{Place, place, IsAtOrBelow}
use Rattle.dsec_spec.specs.Groups.{Group}
use Rattle.dsec_spec.specs.Islands.{island}
use Rattle.dsec_spec.proofs.IslandLemmas.{island_is, one_looked_for}
use Rattle.dsec_nodes.specs.World.{World, Replies}
use Rattle.dsec_nodes.specs.Nodes.{Node}
use Rattle.dsec_nodes.specs.Walk.{node_of}
use Rattle.dsec_nodes.specs.Machine.{Walking, Step, Input, begin, node, stored, reply, gets, in_phase, started, advanced, node_get, node_put, ask, done}
use Rattle.dsec_nodes.specs.Likeness.{Likeness, Alike}
use Rattle.dsec_nodes.specs.InStep.{StepIs, Goes}
use Rattle.dsec_nodes.specs.Judging.{Finding, is_shown, has_no_set, is_insecure, is_bogus, is_indeterminate, Judged, AllJudged, one_bogus, and_others, by_node, target_of, judged_all}
use Rattle.dsec_nodes.proofs.MachineLaws.{all_last, advanced_goes, started_in_step}
use Rattle.dsec_nodes.proofs.ShownLaws.{target_between}
use Rattle.dsec_course.specs.Course.{Waiting, to_begin, to_end, for_walk, for_nothing, Course, CourseAnswers, Way, at_once, by_walk, way_of}
use Rattle.dsec_course.specs.Advancing.{with_judged, with_walk, by_way, going_on, by_found, by_step, by_waiting, course_advanced}
use Rattle.dsec_course.specs.Agreeing.{WalkOf, CourseOf, behind, on_all, Leads, IsFor, CourseInStep, CourseStepIs, CourseGoes}
use Rattle.dsec_nodes.proofs.Each.{all_front}
use Rattle.dsec_course.proofs.WalkSteps.{advances}
use Rattle.dsec_course.proofs.GroupLaws.{passes, NeedsWalk, WayIs, way_is, by_its_node, judged_first, judged_bogus}

-- an island is a front of the name of the zone that is to have signed a group under it
pub record IsFront (top target : Place) : Type 0 where
  pub below : top ≡ take (length top) target
  pub shorter : length top ≤ length target

pub target_below : (w : World) (group : Group) (top : Place) → island w.anchors (place group.owner) group.rtype ≡ Some top
    → IsFront top (target_of group (Some top))
target_below w group top e =
    let i = island_is w.anchors (place group.owner) group.rtype top e in
    let from_is = one_looked_for (place group.owner) group.rtype i.from i.looked_for in
    let below : IsAtOrBelow (target_of group (Some top)) top = (target_between group top i.from from_is i.above).0 in
    let long : length (target_of group (Some top)) ≡ length top + length below.under = ap length below.is ∙ length-append top below.under in
    record { below = sym (ap (take (length top)) below.is ∙ take-append_seam top below.under); shorter = omega (arith, long) }

-- a walk that has set out for a group
pub sets_out : (w : World) (group : Group) (top : Place) → NeedsWalk w group top → IsFor w group (in_phase (started top (target_of group (Some top))) gets)
sets_out w group top n = record { has_records = n.has_records; from_island = n.from_island; to_signer = refl }

-- judging goes on in step
going_goes : (w : World) (most : ℕ) (message : List ℕ) (groups : List Group) (c : Course) → Leads w most message c groups
    → CourseGoes w most message (going_on w groups c)
unfolding going_on judged_all
going_goes w most message [] c h = record {
  in_step = tt;
  says = λ like replies a.
      ap (on_all w c.most c.message c.questions c.answers) (ap Rattle.dsec_nodes.specs.Judging.all (sym (append-nil c.judged))) ∙ h like replies (all_front (WalkOf like w replies) c.walks [] a);
}
going_goes w most message (g ∷ gs) c h = by (going_goes w most message gs) (way_of w g) (way_is w g)
  where
    by : ((d : Course) → Leads w most message d gs → CourseGoes w most message (going_on w gs d)) → (x : Way) → WayIs w g x → CourseGoes w most message (by_way g gs x (going_on w gs) c)
    by later (at_once j) once = later (with_judged c j) (λ like replies a.
        ap (on_all w c.most c.message c.questions c.answers) (sym (judged_first w replies c.judged g gs j (once.same replies) once.goes_on)) ∙ h like replies a)
    by later (by_walk top) needs =
        let f = target_below w g top needs.from_island in
        let goes = advanced_goes w (started top (target_of g (Some top))) begin (started_in_step w top (target_of g (Some top)) f.below f.shorter) tt in
        record { in_step = (sets_out w g top needs, goes.in_step, h); says = λ like replies a. refl }

-- a walk that goes on is still for its group
pub still_for : (w : World) (group : Group) (s t : Walking) → t.top ≡ s.top → t.target ≡ s.target → IsFor w group s → IsFor w group t
still_for w group s t a b f = record {
  has_records = f.has_records;
  from_island = f.from_island ∙ ap (λ (p : Place). Some p) (sym a);
  to_signer = b ∙ (f.to_signer ∙ ap (λ (p : Place). target_of group (Some p)) (sym a));
}

-- a walk has come to its group's node
found_goes : (w : World) (most : ℕ) (message : List ℕ) (c : Course) (group : Group) (s : Walking) (n : Node) → IsFor w group s
    → Leads w most message c (group ∷ c.left)
    → ((like : Likeness) (replies : Replies) → WalkOf like w replies s → Alike like (node_of w replies s.top s.target) n)
    → CourseGoes w most message (by_step w c group s (done n))
found_goes w most message c group s n f leads is = by (by_node w group n).finding refl
  where
    j : Judged
    j = by_node w group n

    judged : (like : Likeness) (replies : Replies) → AllByRecursion (WalkOf like w replies) (c.walks ++ s ∷ [])
        → Rattle.dsec_nodes.specs.Judging.judged_of w replies group ≡ j
    judged like replies a = by_its_node like w replies group s n f (is like replies (all_last (WalkOf like w replies) c.walks s a).1)

    further : (x : Finding) → j.finding ≡ x → passes x ≡ true → CourseGoes w most message (going_on w c.left (with_judged (with_walk c s) j))
    further x e p = going_goes w most message c.left (with_judged (with_walk c s) j) (λ like replies a.
        ap (on_all w c.most c.message c.questions c.answers) (sym (judged_first w replies c.judged group c.left j (judged like replies a) (ap passes e ∙ p)))
        ∙ leads like replies (all_last (WalkOf like w replies) c.walks s a).0)

    by : (x : Finding) → j.finding ≡ x → CourseGoes w most message (by_found w (with_judged (with_walk c s) j) x)
    by (is_bogus cause links) e = record {
      in_step = tt;
      says = λ like replies a.
          let b = all_front (WalkOf like w replies) (c.walks ++ s ∷ []) [] a in
          ap (on_all w c.most c.message c.questions c.answers) (sym (ap (behind c.judged) (judged_bogus w replies group c.left j (is_bogus cause links) (one_bogus cause links) (judged like replies b) e refl)))
          ∙ leads like replies (all_last (WalkOf like w replies) c.walks s b).0;
    }
    by (is_shown links last signature) e = further (is_shown links last signature) e refl
    by has_no_set e = further has_no_set e refl
    by (is_insecure cause signed) e = further (is_insecure cause signed) e refl
    by is_indeterminate e = further is_indeterminate e refl

-- the course after a step of the walk that is waited for
walk_goes : (w : World) (most : ℕ) (message : List ℕ) (c : Course) (group : Group) (p : Walking × Step) → IsFor w group p.0 → Goes w p
    → Leads w most message c (group ∷ c.left) → CourseGoes w most message (by_step w c group p.0 p.1)
walk_goes w most message c group p f g leads = by p.1 refl
  where
    says : (like : Likeness) (replies : Replies) (x : Step) → p.1 ≡ x → AllByRecursion (WalkOf like w replies) (c.walks ++ p.0 ∷ [])
        → StepIs like w replies p.0 x
    says like replies x e a =
        let its = (all_last (WalkOf like w replies) c.walks p.0 a).1 in
        subst (StepIs like w replies p.0) e (g.says like replies its.0 its.1)

    by : (x : Step) → p.1 ≡ x → CourseGoes w most message (by_step w c group p.0 x)
    by (node_get name) e = record { in_step = (f, g.in_step, leads); says = λ like replies a. says like replies (node_get name) e a }
    by (node_put name n) e = record { in_step = (f, g.in_step, leads); says = λ like replies a. says like replies (node_put name n) e a }
    by (ask name rtype) e = record { in_step = (f, g.in_step, leads); says = λ like replies a. says like replies (ask name rtype) e a }
    by (done n) e = found_goes w most message c group p.0 n f leads (λ like replies a. subst (StepIs like w replies p.0) e (g.says like replies a.0 a.1))

-- A message judged a step at a time goes on in step with the recursion: where the replies are those of a table and the nodes that its walks were
-- given are of it, each node that it puts is of the table, and it ends with the outcome of the message.
pub course_goes : (w : World) (most : ℕ) (message : List ℕ) (c : Course) (input : Input) → CourseInStep w most message c
    → CourseAnswers c.waits input → CourseGoes w most message (course_advanced w c input)
course_goes w most message c input h a = by c.waits input h a
  where
    by : (x : Waiting) (i : Input) → Rattle.dsec_course.specs.Agreeing.InStepAt w most message c x → CourseAnswers x i
        → CourseGoes w most message (by_waiting w c i x)
    by to_begin begin g b = going_goes w most message c.left c g
    by (to_end o) begin g b = record { in_step = tt; says = λ like replies _. sym (g replies) }
    by (for_walk group s) i g b =
        let l = (advances w s i b).leaves in
        walk_goes w most message c group (advanced w s i) (still_for w group s (advanced w s i).0 l.same_top l.same_target g.0) (advanced_goes w s i g.1 b) g.2
    by to_begin (node o) g b = absurd b
    by to_begin stored g b = absurd b
    by to_begin (reply octets) g b = absurd b
    by (to_end o) (node n) g b = absurd b
    by (to_end o) stored g b = absurd b
    by (to_end o) (reply octets) g b = absurd b
    by for_nothing i g b = absurd b
