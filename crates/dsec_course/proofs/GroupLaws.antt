-- Groups one after the other are the groups of both sections: what each comes to, and all of them.
use Rattle.std.proofs.Common.{◌≡◌, ℕ, ◌==◌, Bool, true, false, cond, List, [], ◌∷◌, ◌++◌, length, take, drop, Option, Some, None, refl, sym, ap, ◌∙◌, append_assoc}
use Rattle.std.proofs.lemmas.Bool.{eqb-true, cond-false}
use Rattle.std.proofs.lemmas.List.{length-map}
use Rattle.std.proofs.Math.Seq.{take-append_seam, drop-append_seam}
use Rattle.dsec_spec.specs.Names.{Place, place}
use Rattle.dsec_spec.specs.Records.{Record}
use Rattle.dsec_spec.specs.Messages.{Question}
use Rattle.dsec_spec.specs.Groups.{Group}
use Rattle.dsec_spec.specs.Islands.{island}
use Rattle.dsec_nodes.specs.World.{World, Replies}
use Rattle.dsec_nodes.specs.Nodes.{Node}
use Rattle.dsec_nodes.specs.Walk.{node_of}
use Rattle.dsec_nodes.specs.Likeness.{Likeness, Alike}
use Rattle.dsec_nodes.specs.Machine.{Walking}
use Rattle.dsec_nodes.specs.Judging.{Finding, is_shown, has_no_set, is_insecure, is_bogus, is_indeterminate, Judged, AllJudged, all, one_bogus, and_others, by_node, by_island, judged_of, judged_all}
use Rattle.dsec_nodes.specs.Alone.{on_questions, on_judged}
use Rattle.dsec_nodes.proofs.AlikeLaws.{judged_alike}
use Rattle.dsec_nodes.proofs.JudgingLaws.{groups_same}
use Rattle.dsec_course.specs.Course.{for_nothing, Course, end_with, Way, at_once, by_walk, way_under, way_of}
use Rattle.dsec_course.specs.Advancing.{waiting, at_last, by_way, going_on}
use Rattle.dsec_course.specs.Agreeing.{behind, on_all, IsFor}
use Rattle.dsec_course.specs.Justified.{IsFound}

-- whether judging goes on after what was found
abbrev pub passes : Finding → Bool
passes (is_bogus cause links) = false
passes (is_shown links last signature) = true
passes has_no_set = true
passes (is_insecure cause signed) = true
passes is_indeterminate = true

-- a group that is judged at once: by each table it is judged so, and judging goes on after it
pub record IsOnce (w : World) (group : Group) (j : Judged) : Type 0 where
  pub same : (replies : Replies) → judged_of w replies group ≡ j
  pub its : j.group ≡ group
  pub goes_on : passes j.finding ≡ true
  pub found : IsFound w j

-- a group that needs a walk: it has records, and this is its island
pub record NeedsWalk (w : World) (group : Group) (top : Place) : Type 0 where
  pub has_records : (length group.records == 0) ≡ false
  pub from_island : island w.anchors (place group.owner) group.rtype ≡ Some top

abbrev pub WayIs : World → Group → Way → Type 0
WayIs w group (at_once j) = IsOnce w group j
WayIs w group (by_walk top) = NeedsWalk w group top

no_records : (rs : List Record) → length rs ≡ 0 → rs ≡ []
no_records [] e = refl
no_records (r ∷ rs) e = absurd cc

-- what is judged by a choice, where the choice is known
chosen_one : (group : Group) (x : Judged) (b c : Bool) (y z : Judged) → b ≡ c → cond c y z ≡ x → cond b y z ≡ x
chosen_one group x b c y z e f = ap (λ (t : Bool). cond t y z) e ∙ f

-- how a group is judged
pub way_is : (w : World) (group : Group) → WayIs w group (way_of w group)
way_is w group = by_records (length group.records == 0) refl
  where
    no_set : Judged
    no_set = record { group = group; signer = []; finding = has_no_set }

    by_top : (length group.records == 0) ≡ false → (o : Option Place) → island w.anchors (place group.owner) group.rtype ≡ o
        → WayIs w group (way_under group o)
    by_top some None e = record {
      same = λ replies. cond-false (length group.records == 0) no_set (by_island w replies group (island w.anchors (place group.owner) group.rtype)) some ∙ ap (by_island w replies group) e;
      its = refl;
      goes_on = refl;
      found = e;
    }
    by_top some (Some top) e = record { has_records = some; from_island = e }

    by_records : (b : Bool) → (length group.records == 0) ≡ b
        → WayIs w group (cond b (at_once no_set) (way_under group (island w.anchors (place group.owner) group.rtype)))
    by_records true e = record {
      same = λ replies. chosen_one group no_set (length group.records == 0) true no_set (by_island w replies group (island w.anchors (place group.owner) group.rtype)) e refl;
      its = refl;
      goes_on = refl;
      found = no_records group.records (eqb-true (length group.records) 0 e);
    }
    by_records false e = by_top e (island w.anchors (place group.owner) group.rtype) refl

-- a group whose walk comes to a node like the recursion's is judged by it as by the recursion
pub by_its_node : (like : Likeness) (w : World) (replies : Replies) (group : Group) (s : Walking) (n : Node) → IsFor w group s
    → Alike like (node_of w replies s.top s.target) n → judged_of w replies group ≡ by_node w group n
by_its_node like w replies group s n f e =
    cond-false (length group.records == 0) (record { group = group; signer = []; finding = has_no_set }) (by_island w replies group (island w.anchors (place group.owner) group.rtype)) f.has_records
    ∙ (ap (by_island w replies group) f.from_island
    ∙ (ap (λ (t : Place). by_node w group (node_of w replies s.top t)) (sym f.to_signer) ∙ judged_alike like w group (node_of w replies s.top s.target) n e))

-- a judged group that isn't bogus goes to those before it
pub behind_one : (js : List Judged) (j : Judged) (f : Finding) (rest : AllJudged) → passes f ≡ true
    → behind js (and_others j f rest) ≡ behind (js ++ j ∷ []) rest
behind_one js j (is_bogus cause links) rest e = absurd cc
behind_one js j (is_shown links last signature) (all later) e = ap all (sym (append_assoc js (j ∷ []) later))
behind_one js j has_no_set (all later) e = ap all (sym (append_assoc js (j ∷ []) later))
behind_one js j (is_insecure cause signed) (all later) e = ap all (sym (append_assoc js (j ∷ []) later))
behind_one js j is_indeterminate (all later) e = ap all (sym (append_assoc js (j ∷ []) later))
behind_one js j (is_shown links last signature) (one_bogus cause other) e = refl
behind_one js j has_no_set (one_bogus cause other) e = refl
behind_one js j (is_insecure cause signed) (one_bogus cause2 other) e = refl
behind_one js j is_indeterminate (one_bogus cause other) e = refl

-- judging the first of groups
pub judged_first : (w : World) (replies : Replies) (js : List Judged) (group : Group) (groups : List Group) (j : Judged)
    → judged_of w replies group ≡ j → passes j.finding ≡ true
    → behind js (judged_all w replies (group ∷ groups)) ≡ behind (js ++ j ∷ []) (judged_all w replies groups)
unfolding judged_all
judged_first w replies js group groups j e p =
    ap (λ (x : Judged). behind js (and_others x x.finding (judged_all w replies groups))) e ∙ behind_one js j j.finding (judged_all w replies groups) p

-- the first of groups is bogus
pub judged_bogus : (w : World) (replies : Replies) (group : Group) (groups : List Group) (j : Judged) (f : Finding) (x : AllJudged)
    → judged_of w replies group ≡ j → j.finding ≡ f → and_others j f (judged_all w replies groups) ≡ x
    → judged_all w replies (group ∷ groups) ≡ x
unfolding judged_all
judged_bogus w replies group groups j f x e g h =
    ap (λ (y : Judged). and_others y y.finding (judged_all w replies groups)) e ∙ (ap (λ (y : Finding). and_others j y (judged_all w replies groups)) g ∙ h)

-- those of one section and then those of another
abbrev pub and_then : AllJudged → AllJudged → AllJudged
and_then (all js) later = behind js later
and_then (one_bogus cause links) later = one_bogus cause links

others_then : (j : Judged) (f : Finding) (a b : AllJudged) → and_others j f (and_then a b) ≡ and_then (and_others j f a) b
others_then j (is_bogus cause links) a b = refl
others_then j (is_shown links last signature) (one_bogus cause other) b = refl
others_then j has_no_set (one_bogus cause other) b = refl
others_then j (is_insecure cause signed) (one_bogus cause2 other) b = refl
others_then j is_indeterminate (one_bogus cause other) b = refl
others_then j (is_shown links last signature) (all js) (all later) = refl
others_then j has_no_set (all js) (all later) = refl
others_then j (is_insecure cause signed) (all js) (all later) = refl
others_then j is_indeterminate (all js) (all later) = refl
others_then j (is_shown links last signature) (all js) (one_bogus cause other) = refl
others_then j has_no_set (all js) (one_bogus cause other) = refl
others_then j (is_insecure cause signed) (all js) (one_bogus cause2 other) = refl
others_then j is_indeterminate (all js) (one_bogus cause other) = refl

behind_none : (x : AllJudged) → x ≡ behind [] x
behind_none (all js) = refl
behind_none (one_bogus cause links) = refl

-- judging the groups of two sections, one after the other
pub judged_both : (w : World) (replies : Replies) (answers authorities : List Group)
    → judged_all w replies (answers ++ authorities) ≡ and_then (judged_all w replies answers) (judged_all w replies authorities)
unfolding judged_all
judged_both w replies [] authorities = behind_none (judged_all w replies authorities)
judged_both w replies (g ∷ gs) authorities =
    let j = judged_of w replies g in
    ap (and_others j j.finding) (judged_both w replies gs authorities) ∙ others_then j j.finding (judged_all w replies gs) (judged_all w replies authorities)

-- the outcome of a message by the groups of both sections, one after the other
pub on_both : (w : World) (most : ℕ) (replies : Replies) (message : List ℕ) (questions : List Question) (answers authorities : List Group)
    → on_all w most message questions (length answers) (behind [] (judged_all w replies (answers ++ authorities)))
    ≡ on_judged w most message questions (judged_all w replies answers) (judged_all w replies authorities)
on_both w most replies message questions answers authorities =
    ap (on_all w most message questions (length answers)) (sym (behind_none (judged_all w replies (answers ++ authorities))) ∙ judged_both w replies answers authorities)
    ∙ by (judged_all w replies answers) (judged_all w replies authorities) refl
  where
    by : (a b : AllJudged) → judged_all w replies answers ≡ a
        → on_all w most message questions (length answers) (and_then a b) ≡ on_judged w most message questions a b
    by (one_bogus cause links) b e = refl
    by (all js) (one_bogus cause links) e = refl
    by (all js) (all beside) e =
        let long : length answers ≡ length js = ap (length {A = Group}) (sym (groups_same w replies answers js e)) ∙ length-map js (λ (j : Judged). j.group) in
        ap (λ (k : ℕ). on_questions w most message questions (take k (js ++ beside)) (drop k (js ++ beside))) long
        ∙ (ap (λ (xs : List Judged). on_questions w most message questions xs (drop (length js) (js ++ beside))) (take-append_seam js beside)
        ∙ ap (on_questions w most message questions js) (drop-append_seam js beside))

-- judging goes on where no group is left, or by the first
pub going_none : (w : World) (c : Course) → going_on w [] c ≡ (waiting c [] for_nothing, end_with (at_last w c))
unfolding going_on
going_none w c = refl

pub going_first : (w : World) (group : Group) (later : List Group) (c : Course)
    → going_on w (group ∷ later) c ≡ by_way group later (way_of w group) (going_on w later) c
unfolding going_on
going_first w group later c = refl
