-- Where judging has come to its end with every group, the judged groups are those of the message, each of them sound.
use Rattle.std.proofs.Common.{◌≡◌, ℕ, Bool, true, false, List, [], ◌∷◌, ◌++◌, take, drop, map, Some, refl, sym, ap, ◌∙◌, subst, append-nil, append_assoc}
use Rattle.std.specs.Prelude.{◌≢◌, ◌||◌}
use Rattle.std.specs.List.{AllByRecursion, list_any}
use Rattle.std.proofs.Math.Seq.{take-append_seam, drop-append_seam}
use Rattle.std.proofs.lemmas.List.{take-map, drop-map, take-append-drop}
use Rattle.dsec_spec.specs.Records.{Record}
use Rattle.dsec_spec.specs.Groups.{Group}
use Rattle.dsec_nodes.specs.World.{World}
use Rattle.dsec_nodes.specs.Machine.{Walking, Step, Input, begin, node, stored, reply, advanced, node_get, node_put, ask, done}
use Rattle.dsec_nodes.specs.SoundSteps.{InputKept}
use Rattle.dsec_nodes.specs.SoundFindings.{IsFound, IsSure}
use Rattle.dsec_nodes.specs.Judging.{Finding, is_shown, has_no_set, is_insecure, is_bogus, is_indeterminate, Judged, by_node}
use Rattle.dsec_course.specs.Course.{Waiting, to_begin, to_end, for_walk, for_nothing, Course, CourseAnswers, Way, at_once, by_walk, way_of}
use Rattle.dsec_course.specs.Advancing.{with_judged, with_walk, by_way, going_on, by_found, by_step, by_waiting, course_advanced}
use Rattle.dsec_course.specs.Justified.{IsOpen, SoundCourseAt, SoundCourse}
use Rattle.dsec_course.proofs.GroupLaws.{WayIs, way_is}
use Rattle.dsec_course.proofs.SoundLaws.{course_sound, more_groups}
use Rattle.dsec_cut.specs.Ended.{is_found_bogus, both_in, AreJudged}

-- judging has come to its end with every group, of which there is one, and none is bogus
pub record IsWhole (c : Course) : Type 0 where
  pub over : c.waits ≡ for_nothing
  pub none_left : c.left ≡ []
  pub none_bogus : list_any (λ j. is_found_bogus j.finding) c.judged ≡ false
  pub some : c.judged ≢ []

-- a bogus group among those that are judged is found
last_bogus : (js : List Judged) (j : Judged) → is_found_bogus j.finding ≡ true → list_any (λ (x : Judged). is_found_bogus x.finding) (js ++ j ∷ []) ≡ false → ⊥
last_bogus [] j b e = by (is_found_bogus j.finding) b e
  where
    by : (x : Bool) → x ≡ true → (x || false) ≡ false → ⊥
    by true f g = cc
    by false f g = cc
last_bogus (k ∷ js) j b e = by (is_found_bogus k.finding) (last_bogus js j b) e
  where
    by : (x : Bool) → (list_any (λ (y : Judged). is_found_bogus y.finding) (js ++ j ∷ []) ≡ false → ⊥)
        → (x || list_any (λ (y : Judged). is_found_bogus y.finding) (js ++ j ∷ [])) ≡ false → ⊥
    by true later f = cc
    by false later f = later f

-- where none is, each is sure
sure_one : (f : Finding) → is_found_bogus f ≡ false → IsSure f
sure_one (is_bogus cause links) e = absurd cc
sure_one (is_shown links last signature) e = tt
sure_one has_no_set e = tt
sure_one (is_insecure cause signed) e = tt
sure_one is_indeterminate e = tt

all_sure : (js : List Judged) → list_any (λ (x : Judged). is_found_bogus x.finding) js ≡ false → AllByRecursion (λ (x : Judged). IsSure x.finding) js
all_sure [] e = tt
all_sure (j ∷ js) e = by (is_found_bogus j.finding) refl (all_sure js) e
  where
    by : (x : Bool) → is_found_bogus j.finding ≡ x
        → (list_any (λ (y : Judged). is_found_bogus y.finding) js ≡ false → AllByRecursion (λ (y : Judged). IsSure y.finding) js)
        → (x || list_any (λ (y : Judged). is_found_bogus y.finding) js) ≡ false → IsSure j.finding × AllByRecursion (λ (y : Judged). IsSure y.finding) js
    by true f later g = absurd cc
    by false f later g = (sure_one j.finding f, later g)

-- what the groups of a message are doesn't depend on what is waited for, nor on walks
open_same : (anchors : List Record) (most : ℕ) (message : List ℕ) (c : Course) (groups left : List Group) (walks : List Walking) (waits : Waiting) → IsOpen anchors most message c groups
    → IsOpen anchors most message (record { message = c.message; questions = c.questions; most = c.most; answers = c.answers; left = left; judged = c.judged; walks = walks; waits = waits }) groups
open_same anchors most message c groups left walks waits o =
    record { answers = o.answers; authorities = o.authorities; read = o.read; split = o.split; in_order = o.in_order }

-- one more of them is judged
open_more : (anchors : List Record) (most : ℕ) (message : List ℕ) (c : Course) (group : Group) (groups : List Group) (j : Judged) → j.group ≡ group
    → IsOpen anchors most message c (group ∷ groups) → IsOpen anchors most message (with_judged c j) groups
open_more anchors most message c group groups j e o = record {
  answers = o.answers;
  authorities = o.authorities;
  read = o.read;
  split = o.split;
  in_order = ap (λ (gs : List Group). gs ++ groups) (more_groups c.judged j group e)
      ∙ (append_assoc (map (λ (x : Judged). x.group) c.judged) (group ∷ []) groups ∙ o.in_order);
}

-- judging that goes on to the end has judged all groups of the message
going_open : (w : World) (most : ℕ) (message : List ℕ) (groups : List Group) (c : Course) → IsOpen w.anchors most message c groups
    → IsWhole (going_on w groups c).0 → IsOpen w.anchors most message (going_on w groups c).0 []
unfolding going_on
going_open w most message [] c o x = open_same w.anchors most message c [] [] c.walks for_nothing o
going_open w most message (g ∷ gs) c o x = by (going_open w most message gs) (way_of w g) (way_is w g) x
  where
    by : ((d : Course) → IsOpen w.anchors most message d gs → IsWhole (going_on w gs d).0 → IsOpen w.anchors most message (going_on w gs d).0 []) → (y : Way) → WayIs w g y
        → IsWhole (by_way g gs y (going_on w gs) c).0 → IsOpen w.anchors most message (by_way g gs y (going_on w gs) c).0 []
    by later (at_once j) once z = later (with_judged c j) (open_more w.anchors most message c g gs j once.its o) z
    by later (by_walk top) needs z = let over = z.over in absurd cc

-- so has one after a step of a walk for a group
step_open : (w : World) (most : ℕ) (message : List ℕ) (c : Course) (group : Group) (s : Walking) (x : Step) → IsOpen w.anchors most message c (group ∷ c.left)
    → IsWhole (by_step w c group s x).0 → IsOpen w.anchors most message (by_step w c group s x).0 []
step_open w most message c group s (node_get name) o x = let over = x.over in absurd cc
step_open w most message c group s (node_put name n) o x = let over = x.over in absurd cc
step_open w most message c group s (ask name rtype) o x = let over = x.over in absurd cc
step_open w most message c group s (done n) o x = by (by_node w group n).finding refl x
  where
    d : Course
    d = with_judged (with_walk c s) (by_node w group n)

    more : IsOpen w.anchors most message d c.left
    more = open_more w.anchors most message (with_walk c s) group c.left (by_node w group n) refl (open_same w.anchors most message c (group ∷ c.left) c.left (c.walks ++ s ∷ []) c.waits o)

    by : (f : Finding) → (by_node w group n).finding ≡ f → IsWhole (by_found w d f).0 → IsOpen w.anchors most message (by_found w d f).0 []
    by (is_bogus cause links) e y = absurd (last_bogus c.judged (by_node w group n) (ap is_found_bogus e) y.none_bogus)
    by (is_shown links last signature) e y = going_open w most message c.left d more y
    by has_no_set e y = going_open w most message c.left d more y
    by (is_insecure cause signed) e y = going_open w most message c.left d more y
    by is_indeterminate e y = going_open w most message c.left d more y

-- Where a step comes to the end with every group, the judged groups are the message's
whole_open : (w : World) (most : ℕ) (message : List ℕ) (c : Course) (input : Input) → SoundCourse w most message c → CourseAnswers c.waits input
    → IsWhole (course_advanced w c input).0 → IsOpen w.anchors most message (course_advanced w c input).0 []
whole_open w most message c input h a x = by c.waits input h a x
  where
    by : (y : Waiting) (i : Input) → SoundCourseAt w most message c y → CourseAnswers y i → IsWhole (by_waiting w c i y).0
        → IsOpen w.anchors most message (by_waiting w c i y).0 []
    by to_begin begin g b z = going_open w most message c.left c g.opened z
    by (to_end o) begin g b z = absurd (z.some g.1)
    by (for_walk group s) i g b z = step_open w most message c group (advanced w s i).0 (advanced w s i).1 g.0.opened z
    by to_begin (node o) g b z = absurd b
    by to_begin stored g b z = absurd b
    by to_begin (reply octets) g b z = absurd b
    by (to_end o) (node n) g b z = absurd b
    by (to_end o) stored g b z = absurd b
    by (to_end o) (reply octets) g b z = absurd b
    by for_nothing i g b z = absurd b

-- all judged groups of a message, in its two sections
both_judged : (w : World) (most : ℕ) (message : List ℕ) (c : Course) → IsOpen w.anchors most message c [] → AllByRecursion (IsFound w) c.judged
    → list_any (λ (j : Judged). is_found_bogus j.finding) c.judged ≡ false → AreJudged w most message (both_in c)
both_judged w most message c o found none = record {
  questions = c.questions;
  read = record {
    sections = o.read.sections;
    read = o.read.read;
    asks = o.read.asks;
    answers_are = o.read.answers_are ∙ ap (λ (gs : List Group). Some gs) (sym answers);
    authorities_are = o.read.authorities_are ∙ sym authorities;
  };
  found = subst (AllByRecursion (IsFound w)) (sym (take-append-drop c.answers c.judged)) found;
  sure = subst (AllByRecursion (λ (j : Judged). IsSure j.finding)) (sym (take-append-drop c.answers c.judged)) (all_sure c.judged none);
}
  where
    in_order : map (λ (j : Judged). j.group) c.judged ≡ o.answers ++ o.authorities
    in_order = sym (append-nil (map (λ (j : Judged). j.group) c.judged)) ∙ o.in_order

    answers : map (λ (j : Judged). j.group) (take c.answers c.judged) ≡ o.answers
    answers = sym (take-map (λ (j : Judged). j.group) c.answers c.judged)
        ∙ (ap (take c.answers) in_order ∙ (ap (λ (k : ℕ). take k (o.answers ++ o.authorities)) o.split ∙ take-append_seam o.answers o.authorities))

    authorities : map (λ (j : Judged). j.group) (drop c.answers c.judged) ≡ o.authorities
    authorities = sym (drop-map (λ (j : Judged). j.group) c.answers c.judged)
        ∙ (ap (drop c.answers) in_order ∙ (ap (λ (k : ℕ). drop k (o.answers ++ o.authorities)) o.split ∙ drop-append_seam o.answers o.authorities))

-- a course whose groups are those of the message, each of them sound, where it has come to its end with every one
abbrev pub EndsJudged : World → ℕ → List ℕ → Course → Type 0
EndsJudged w most message c = IsWhole c → AreJudged w most message (both_in c)

-- a sound course ends so with each step
pub step_ends_judged : (w : World) (most : ℕ) (message : List ℕ) (c : Course) (input : Input) → SoundCourse w most message c → CourseAnswers c.waits input
    → InputKept w input → EndsJudged w most message (course_advanced w c input).0
step_ends_judged w most message c input h a k x =
    let p = (course_advanced w c input).0 in
    let sound = (course_sound w most message c input h a k).0 in
    both_judged w most message p (whole_open w most message c input h a x) (subst (SoundCourseAt w most message p) x.over sound).0 x.none_bogus
