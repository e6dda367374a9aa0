-- A message judged a step at a time ends with the judged groups of the recursion, whatever nodes of the table its walks are given.
use Rattle.std.proofs.Common.{◌≡◌, ℕ, ◌==◌, Bool, true, false, List, [], ◌∷◌, ◌++◌, length, Option, Some, None, Ok, refl, sym, ap, ◌∙◌, subst, append-nil, zero-add}
use Rattle.std.specs.Prelude.{◌&&◌, ◌||◌, if◌then◌else◌}
use Rattle.std.specs.List.{AllByRecursion}
use Rattle.std.proofs.Math.Bool.{not}
use Rattle.dsec_spec.specs.Reading.{◌>>=◌}
use Rattle.dsec_spec.specs.Records.{Record}
use Rattle.dsec_spec.specs.Messages.{Question}
use Rattle.dsec_spec.specs.Groups.{Group, groups_of}
use Rattle.dsec_spec.specs.Redirection.{moved}
use Rattle.dsec_nodes.specs.World.{World, Replies}
use Rattle.dsec_nodes.specs.Nodes.{Node}
use Rattle.dsec_nodes.specs.Walk.{node_of}
use Rattle.dsec_nodes.specs.Machine.{Walking, Step, Input, begin, node, stored, reply, advanced, node_get, node_put, ask, done}
use Rattle.dsec_nodes.specs.Likeness.{Likeness, Alike}
use Rattle.dsec_nodes.specs.InStep.{StepIs, Goes}
use Rattle.dsec_nodes.specs.Judging.{Finding, is_shown, has_no_set, is_insecure, is_bogus, is_indeterminate, Judged, AllJudged, all, one_bogus, by_node, judged_of, judged_all}
use Rattle.dsec_nodes.specs.Alone.{sections_of}
use Rattle.dsec_nodes.proofs.MachineLaws.{all_last, advanced_goes}
use Rattle.dsec_course.specs.Course.{Waiting, to_begin, to_end, for_walk, for_nothing, Course, CourseAnswers, Way, at_once, by_walk, way_of}
use Rattle.dsec_course.specs.Advancing.{waiting, with_judged, with_walk, begun, begun_by, begun_with, by_way, going_on, by_found, by_step, by_waiting, course_advanced}
use Rattle.dsec_course.specs.Agreeing.{WalkOf, CourseOf, behind, IsFor, InStepAt, CourseInStep}
use Rattle.dsec_nodes.proofs.Each.{all_front}
use Rattle.dsec_course.proofs.WalkSteps.{advances}
use Rattle.dsec_course.proofs.GroupLaws.{passes, WayIs, way_is, by_its_node, judged_first, judged_bogus}
use Rattle.dsec_course.proofs.AgreeingLaws.{still_for}
use Rattle.dsec_cut.specs.Ended.{Both, is_found_bogus, both_in, whole_where, only_where, both_of, judged_alone}
use Rattle.dsec_cut.proofs.SectionLaws.{split_by, judged_apart}
use Rattle.dsec_cut.proofs.WhereLaws.{any_bogus, SaysNoOfNone, none_told, no_groups}

-- with these groups still to be judged, and none bogus before them, a course comes to the judged groups of the message by each table of which its
-- ended walks are
pub record LeadsOn (w : World) (most : ℕ) (message : List ℕ) (c : Course) (groups : List Group) : Type 0 where
  pub none_bogus : any_bogus c.judged ≡ false
  pub comes_to : (like : Likeness) (replies : Replies) → AllByRecursion (WalkOf like w replies) c.walks
      → split_by c.answers (behind c.judged (judged_all w replies groups)) ≡ judged_alone w most replies message

-- the same, by what it waits for
abbrev pub LeadsAt : World → ℕ → List ℕ → Course → Waiting → Type 0
LeadsAt w most message c to_begin = LeadsOn w most message c c.left
LeadsAt w most message c (to_end o) = ((replies : Replies) → judged_alone w most replies message ≡ None) × (c.judged ≡ [])
LeadsAt w most message c (for_walk group s) = LeadsOn w most message c (group ∷ c.left)
LeadsAt w most message c for_nothing = Unit {0}

-- it leads on, and at its end has the judged groups of the recursion, by each table of which its replies and nodes are
pub record LeadsTo (w : World) (most : ℕ) (message : List ℕ) (c : Course) : Type 0 where
  pub leads : LeadsAt w most message c c.waits
  pub ends : c.waits ≡ for_nothing → (test : Both → Bool) → SaysNoOfNone test → (like : Likeness) (replies : Replies) → CourseOf like w replies c
      → whole_where test c ≡ only_where test (judged_alone w most replies message)

none_more : (js : List Judged) (j : Judged) → any_bogus js ≡ false → is_found_bogus j.finding ≡ false → any_bogus (js ++ j ∷ []) ≡ false
none_more [] j h e = ap (λ (b : Bool). b || false) e
none_more (k ∷ js) j h e = by (is_found_bogus k.finding) (none_more js j) h
  where
    by : (b : Bool) → (any_bogus js ≡ false → is_found_bogus j.finding ≡ false → any_bogus (js ++ j ∷ []) ≡ false)
        → (b || any_bogus js) ≡ false → (b || any_bogus (js ++ j ∷ [])) ≡ false
    by true later f = f
    by false later f = later f e

one_more : (js : List Judged) (j : Judged) → is_found_bogus j.finding ≡ true → any_bogus (js ++ j ∷ []) ≡ true
one_more [] j e = ap (λ (b : Bool). b || false) e
one_more (k ∷ js) j e = by (is_found_bogus k.finding) (one_more js j e)
  where
    by : (b : Bool) → any_bogus (js ++ j ∷ []) ≡ true → (b || any_bogus (js ++ j ∷ [])) ≡ true
    by true later = refl
    by false later = later

passed_one : (f : Finding) → passes f ≡ true → is_found_bogus f ≡ false
passed_one (is_bogus cause links) e = absurd cc
passed_one (is_shown links last signature) e = refl
passed_one has_no_set e = refl
passed_one (is_insecure cause signed) e = refl
passed_one is_indeterminate e = refl

-- judging goes on so
going_leads : (w : World) (most : ℕ) (message : List ℕ) (groups : List Group) (c : Course) → LeadsOn w most message c groups
    → LeadsTo w most message (going_on w groups c).0
unfolding going_on judged_all
going_leads w most message [] c h = record {
  leads = tt;
  ends = λ over test says like replies of.
      let its : split_by c.answers (all (c.judged ++ [])) ≡ judged_alone w most replies message =
      h.comes_to like replies (all_front (WalkOf like w replies) c.walks [] of) in
      ap (λ (b : Bool). if not b && test (both_in c) then Some (both_in c) else None) h.none_bogus
      ∙ ap (only_where test) (ap (λ (js : List Judged). split_by c.answers (all js)) (sym (append-nil c.judged)) ∙ its);
}
going_leads w most message (g ∷ gs) c h = by (going_leads w most message gs) (way_of w g) (way_is w g)
  where
    by : ((d : Course) → LeadsOn w most message d gs → LeadsTo w most message (going_on w gs d).0) → (x : Way) → WayIs w g x
        → LeadsTo w most message (by_way g gs x (going_on w gs) c).0
    by later (at_once j) once = later (with_judged c j) (record {
      none_bogus = none_more c.judged j h.none_bogus (passed_one j.finding once.goes_on);
      comes_to = λ like replies a.
          ap (split_by c.answers) (sym (judged_first w replies c.judged g gs j (once.same replies) once.goes_on)) ∙ h.comes_to like replies a;
    })
    by later (by_walk top) needs = record {
      leads = record { none_bogus = h.none_bogus; comes_to = h.comes_to };
      ends = λ over test says like replies of. absurd cc;
    }

-- a walk has come to its group's node
found_leads : (w : World) (most : ℕ) (message : List ℕ) (c : Course) (group : Group) (s : Walking) (n : Node) → IsFor w group s
    → LeadsOn w most message c (group ∷ c.left)
    → ((like : Likeness) (replies : Replies) → WalkOf like w replies s → Alike like (node_of w replies s.top s.target) n)
    → LeadsTo w most message (by_step w c group s (done n)).0
found_leads w most message c group s n f leads is = by (by_node w group n).finding refl
  where
    j : Judged
    j = by_node w group n

    d : Course
    d = with_judged (with_walk c s) j

    judged : (like : Likeness) (replies : Replies) → AllByRecursion (WalkOf like w replies) (c.walks ++ s ∷ []) → judged_of w replies group ≡ j
    judged like replies a = by_its_node like w replies group s n f (is like replies (all_last (WalkOf like w replies) c.walks s a).1)

    further : (x : Finding) → j.finding ≡ x → passes x ≡ true → LeadsTo w most message (going_on w c.left d).0
    further x e p = going_leads w most message c.left d (record {
      none_bogus = none_more c.judged j leads.none_bogus (passed_one j.finding (ap passes e ∙ p));
      comes_to = λ like replies a.
          ap (split_by c.answers) (sym (judged_first w replies c.judged group c.left j (judged like replies a) (ap passes e ∙ p)))
          ∙ leads.comes_to like replies (all_last (WalkOf like w replies) c.walks s a).0;
    })

    by : (x : Finding) → j.finding ≡ x → LeadsTo w most message (by_found w d x).0
    by (is_bogus cause links) e = record {
      leads = tt;
      ends = λ over test says like replies of.
          let b = all_front (WalkOf like w replies) (c.walks ++ s ∷ []) [] of in
          none_told (length c.left == 0) (any_bogus (c.judged ++ j ∷ [])) (test (both_in d)) (both_in d) (one_more c.judged j (ap is_found_bogus e))
          ∙ ap (only_where test) (ap (split_by c.answers) (sym (ap (behind c.judged) (judged_bogus w replies group c.left j (is_bogus cause links) (one_bogus cause links) (judged like replies b) e refl)))
          ∙ leads.comes_to like replies (all_last (WalkOf like w replies) c.walks s b).0);
    }
    by (is_shown links last signature) e = further (is_shown links last signature) e refl
    by has_no_set e = further has_no_set e refl
    by (is_insecure cause signed) e = further (is_insecure cause signed) e refl
    by is_indeterminate e = further is_indeterminate e refl

-- a step of the walk that is waited for
walk_leads : (w : World) (most : ℕ) (message : List ℕ) (c : Course) (group : Group) (p : Walking × Step) → IsFor w group p.0 → Goes w p
    → LeadsOn w most message c (group ∷ c.left) → LeadsTo w most message (by_step w c group p.0 p.1).0
walk_leads w most message c group p f g leads = by p.1 refl
  where
    same : LeadsOn w most message (waiting c c.left (for_walk group p.0)) (group ∷ c.left)
    same = record { none_bogus = leads.none_bogus; comes_to = leads.comes_to }

    by : (x : Step) → p.1 ≡ x → LeadsTo w most message (by_step w c group p.0 x).0
    by (node_get name) e = record { leads = same; ends = λ over test says like replies of. absurd cc }
    by (node_put name n) e = record { leads = same; ends = λ over test says like replies of. absurd cc }
    by (ask name rtype) e = record { leads = same; ends = λ over test says like replies of. absurd cc }
    by (done n) e = found_leads w most message c group p.0 n f leads (λ like replies a. subst (StepIs like w replies p.0) e (g.says like replies a.0 a.1))

-- A message that is judged a step at a time leads on to the judged groups of the recursion
pub step_leads : (w : World) (most : ℕ) (message : List ℕ) (c : Course) (input : Input) → CourseInStep w most message c
    → LeadsAt w most message c c.waits → CourseAnswers c.waits input → LeadsTo w most message (course_advanced w c input).0
step_leads w most message c input h l a = by c.waits input h l a
  where
    by : (x : Waiting) (i : Input) → InStepAt w most message c x → LeadsAt w most message c x → CourseAnswers x i
        → LeadsTo w most message (by_waiting w c i x).0
    by to_begin begin g m b = going_leads w most message c.left c m
    by (to_end o) begin g m b = record {
      leads = tt;
      ends = λ over test says like replies of.
          no_groups test says ((length c.left == 0) && not (any_bogus c.judged)) c.answers c.judged m.1 ∙ ap (only_where test) (sym (m.0 replies));
    }
    by (for_walk group s) i g m b =
        let l = (advances w s i b).leaves in
        walk_leads w most message c group (advanced w s i) (still_for w group s (advanced w s i).0 l.same_top l.same_target g.0) (advanced_goes w s i g.1 b) m
    by to_begin (node o) g m b = absurd b
    by to_begin stored g m b = absurd b
    by to_begin (reply octets) g m b = absurd b
    by (to_end o) (node n) g m b = absurd b
    by (to_end o) stored g m b = absurd b
    by (to_end o) (reply octets) g m b = absurd b
    by for_nothing i g m b = absurd b

-- and so does its beginning
pub begun_leads : (w : World) (most : ℕ) (message : List ℕ) (c : Course) → begun w.anchors most message ≡ Ok c → LeadsAt w most message c c.waits
begun_leads w most message c e = by_sections (sections_of message) refl e
  where
    Sections : Type 0
    Sections = List Question × List Record × List Record

    by_answers : Replies → List Group → Option (List Group) → Option Both
    by_answers replies authorities answers = answers >>= λ gs. both_of (judged_all w replies gs) (judged_all w replies authorities)

    known : (s : Sections) (replies : Replies) → sections_of message ≡ Some s
        → judged_alone w most replies message ≡ by_answers replies (groups_of s.2) (moved w.anchors most (groups_of s.1))
    known s replies f = ap (λ (o : Option Sections). o >>= λ x. by_answers replies (groups_of x.2) (moved w.anchors most (groups_of x.1))) f

    by_moved : (s : Sections) → sections_of message ≡ Some s → (m : Option (List Group)) → moved w.anchors most (groups_of s.1) ≡ m
        → LeadsAt w most message (begun_with most message s.0 m (groups_of s.2)) (begun_with most message s.0 m (groups_of s.2)).waits
    by_moved s f None g = (λ replies. known s replies f ∙ ap (by_answers replies (groups_of s.2)) g, refl)
    by_moved s f (Some answers) g = record {
      none_bogus = refl;
      comes_to = λ like replies a.
          ap (λ (n : ℕ). split_by n (behind [] (judged_all w replies (answers ++ groups_of s.2)))) (sym (zero-add (length answers)))
          ∙ (judged_apart w replies answers (groups_of s.2) []
          ∙ (ap (λ (x : AllJudged). both_of x (judged_all w replies (groups_of s.2))) (first_of (judged_all w replies answers))
          ∙ sym (known s replies f ∙ ap (by_answers replies (groups_of s.2)) g)));
    }
      where
        first_of : (x : AllJudged) → behind [] x ≡ x
        first_of (all js) = refl
        first_of (one_bogus cause links) = refl

    by_sections : (x : Option Sections) → sections_of message ≡ x → begun_by w.anchors most message x ≡ Ok c → LeadsAt w most message c c.waits
    by_sections None f g = absurd cc
    by_sections (Some s) f g =
        let same : begun_with most message s.0 (moved w.anchors most (groups_of s.1)) (groups_of s.2) ≡ c = cc in
        subst (λ (d : Course). LeadsAt w most message d d.waits) same (by_moved s f (moved w.anchors most (groups_of s.1)) refl)
