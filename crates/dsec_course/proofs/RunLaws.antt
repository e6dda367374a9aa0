-- A message judged over nodes that are of a table, and over empty caches, ends with the outcome of the recursion.
use Rattle.std.proofs.Common.{◌≡◌, ◌⊎◌, ℕ, ◌*◌, ◌≤◌, List, [], ◌∷◌, ◌++◌, length, Option, Result, Ok, refl, sym, ap, ◌∙◌, subst, inl, inr, arith, append-nil}
use Rattle.std.specs.Prelude.{Contains}
use Rattle.std.specs.List.{AllByRecursion}
use Rattle.dsec_spec.specs.Names.{Place, IsName}
use Rattle.dsec_spec.specs.Groups.{Group}
use Rattle.dsec_spec.proofs.Members.{in_either, not_in_none}
use Rattle.dsec_nodes.specs.World.{World, Replies}
use Rattle.dsec_nodes.specs.Nodes.{Node, Kept}
use Rattle.dsec_nodes.specs.Likeness.{Likeness, wholly}
use Rattle.dsec_nodes.specs.Machine.{Question as Asked, Input, begin, node, stored, reply}
use Rattle.dsec_nodes.specs.InStep.{AskedOf}
use Rattle.dsec_nodes.specs.Outcomes.{Outcome}
use Rattle.dsec_nodes.specs.Alone.{Refusal, alone}
use Rattle.dsec_course.specs.Course.{Waiting, to_begin, to_end, for_walk, for_nothing, Course, CourseStep, get_node, put_node, ask_for, end_with, CourseAnswers, Awaits, groups_in, walks_in, asked_in, asked_by}
use Rattle.dsec_course.specs.Advancing.{begun, course_advanced}
use Rattle.dsec_course.specs.Agreeing.{CourseOf, CourseInStep, CourseStepIs, CourseGoes}
use Rattle.dsec_course.specs.Justified.{SoundCourse, SoundGoing}
use Rattle.dsec_course.specs.Hearing.{Run, put_by, first_run, ran_on, GivenFrom, AreHeard, after_heard, IsOfTable, Traces, HoldsRun}
use Rattle.dsec_nodes.proofs.Each.{all_front, all_map}
use Rattle.dsec_course.proofs.AgreeingLaws.{course_goes}
use Rattle.dsec_course.proofs.SoundLaws.{course_sound}
use Rattle.dsec_course.proofs.BeginningLaws.{begun_in_step, begun_sound, begun_waits}
use Rattle.dsec_course.proofs.TraceLaws.{IsGiven, Trace, in_longer, walks_of, given_on, put_kept, put_counts, put_of_table, input_kept}
use Rattle.dsec_course.proofs.AskingLaws.{course_asks, groups_stay}
use Rattle.dsec_course.proofs.LabelLaws.{most_for_names, begun_named}
use Rattle.dsec_course.proofs.StepLaws.{asked_grows, course_awaits}

-- a run from a course that is sound and in step goes on so
run_on : (w : World) (most : ℕ) (message : List ℕ) (held : Node → Type 0) (r : Run) (input : Input)
    → ((n : Node) → held n → Kept w.accepts n) → SoundCourse w most message r.course → CourseInStep w most message r.course
    → Traces w held r → AllByRecursion (λ (g : Group). IsName g.owner) (groups_in r.course) → CourseAnswers r.course.waits input
    → GivenFrom held r.puts input → HoldsRun w most message held (ran_on w r input)
run_on w most message held r input kept sound steps t named a from = record {
  named = subst (AllByRecursion (λ (g : Group). IsName g.owner)) (sym (groups_stay w r.course input a)) named;
  sound = going;
  goes = goes;
  awaits = course_awaits w most message r.course input sound a;
  traced = record {
    given = all_map (Trace w held r.puts) (Trace w held (r.puts ++ put_by p.1)) (walks_in p.0)
        (λ s x. all_map (IsGiven w held r.puts s.top) (IsGiven w held (r.puts ++ put_by p.1) s.top) s.got (λ n y. (longer n y.0, y.1)) x) given;
    kept = λ n there. elim (in_either n r.puts (put_by p.1) there) [
      | inl old ↦ t.kept n old
      | inr new ↦ put_kept w most message p.1 p.0.waits going.1 n new
    ];
    counting = λ n there. elim (in_either n r.puts (put_by p.1) there) [
      | inl old ↦ t.counting n old
      | inr new ↦ put_counts w most message p.1 p.0.waits going.1 n new
    ];
    of_table = λ like replies h asked n there.
        let old : (m : Node) → Contains r.puts m → IsOfTable like w replies m = t.of_table like replies h (before replies asked) in
        elim (in_either n r.puts (put_by p.1) there) [
          | inl x ↦ old n x
          | inr x ↦ put_of_table like w most replies message p.1 p.0.waits going.1 (goes.says like replies (walks_of like w replies held r.puts (walks_in p.0) h old given asked)) n x
        ];
  };
}
  where
    p : Course × CourseStep
    p = course_advanced w r.course input

    going : SoundGoing w most message p
    going = course_sound w most message r.course input sound a (input_kept w held r.puts input kept t.kept from)

    goes : CourseGoes w most message p
    goes = course_goes w most message r.course input steps a

    given : AllByRecursion (Trace w held r.puts) (walks_in p.0)
    given = given_on w held r.puts r.course input a from t.given

    longer : (n : Node) → held n ⊎ Contains r.puts n → held n ⊎ Contains (r.puts ++ put_by p.1) n
    longer n x = elim x [ inl y ↦ inl y | inr y ↦ inr (in_longer r.puts (put_by p.1) n y) ]

    before : (replies : Replies) → AskedOf replies (asked_in p.0) → AskedOf replies (asked_in r.course)
    before replies h =
        let Answered : Asked → Type 0 = λ q. replies q.name q.rtype ≡ q.reply in
        all_front Answered (asked_in r.course) (asked_by r.course.waits input)
        (subst (AllByRecursion Answered) (asked_grows w most message r.course input sound a) h)

-- A run goes on soundly and in step, whatever it is given of what was held, kept, and of what it has put
pub run_goes_on : (w : World) (most : ℕ) (message : List ℕ) (held : Node → Type 0) (r : Run) (input : Input)
    → ((n : Node) → held n → Kept w.accepts n) → HoldsRun w most message held r → CourseAnswers r.course.waits input
    → GivenFrom held r.puts input → HoldsRun w most message held (ran_on w r input)
run_goes_on w most message held r input kept h a from = run_on w most message held r input kept h.sound.0 h.goes.in_step h.traced h.named a from

-- a message begins a run
pub run_begins : (w : World) (most : ℕ) (message : List ℕ) (held : Node → Type 0) (c : Course) → ((n : Node) → held n → Kept w.accepts n)
    → begun w.anchors most message ≡ Ok c → HoldsRun w most message held (first_run w c)
run_begins w most message held c kept e =
    let n = begun_waits w.anchors most message c e in
    run_on w most message held (record { course = c; step = get_node []; puts = [] }) begin kept (begun_sound w most message c e) (begun_in_step w most message c e) (record {
      given = subst (AllByRecursion (Trace w held [])) (sym n.no_walks) tt;
      kept = λ x there. absurd (not_in_none x there);
      counting = λ x there. absurd (not_in_none x there);
      of_table = λ like replies h asked x there. absurd (not_in_none x there);
    }) (subst (AllByRecursion (λ (g : Group). IsName g.owner)) (sym n.groups_are) (begun_named w.anchors most message c e)) n.begins tt

-- a run asks at most 255 questions for each group of its message (RFC 1035 2.3.4, RFC 4035 5.2)
pub run_asks : (w : World) (most : ℕ) (message : List ℕ) (held : Node → Type 0) (r : Run) → HoldsRun w most message held r
    → length (asked_in r.course) ≤ 255 * length (groups_in r.course)
run_asks w most message held r h =
    omega (arith, course_asks w most message r.course h.sound.0, most_for_names w (groups_in r.course) h.named)

-- a reply is kept with the question of the step that it answers
pub run_asked : (w : World) (most : ℕ) (message : List ℕ) (held : Node → Type 0) (r : Run) (name : Place) (rtype : ℕ) (octets : Option (List ℕ))
    → HoldsRun w most message held r → r.step ≡ ask_for name rtype
    → asked_in (ran_on w r (reply octets)).course ≡ asked_in r.course ++ record { name = name; rtype = rtype; reply = octets } ∷ []
run_asked w most message held r name rtype octets h e =
    let a = subst (λ (x : CourseStep). Awaits x r.course.waits) e h.awaits octets in
    asked_grows w most message r.course (reply octets) h.sound.0 a.0 ∙ ap (λ (qs : List Asked). asked_in r.course ++ qs) a.1

-- a node that is got, or put, asks nothing
unasked_node : (waits : Waiting) (o : Option Node) → asked_by waits (node o) ≡ []
unasked_node to_begin o = refl
unasked_node (to_end x) o = refl
unasked_node (for_walk group s) o = refl
unasked_node for_nothing o = refl

unasked_put : (waits : Waiting) → asked_by waits stored ≡ []
unasked_put to_begin = refl
unasked_put (to_end x) = refl
unasked_put (for_walk group s) = refl
unasked_put for_nothing = refl

pub run_got : (w : World) (most : ℕ) (message : List ℕ) (held : Node → Type 0) (r : Run) (name : Place) (o : Option Node)
    → HoldsRun w most message held r → r.step ≡ get_node name → asked_in (ran_on w r (node o)).course ≡ asked_in r.course
run_got w most message held r name o h e =
    let a = subst (λ (x : CourseStep). Awaits x r.course.waits) e h.awaits o in
    asked_grows w most message r.course (node o) h.sound.0 a
    ∙ (ap (λ (qs : List Asked). asked_in r.course ++ qs) (unasked_node r.course.waits o) ∙ append-nil (asked_in r.course))

pub run_put : (w : World) (most : ℕ) (message : List ℕ) (held : Node → Type 0) (r : Run) (name : Place) (n : Node)
    → HoldsRun w most message held r → r.step ≡ put_node name n → asked_in (ran_on w r stored).course ≡ asked_in r.course
run_put w most message held r name n h e =
    let a = subst (λ (x : CourseStep). Awaits x r.course.waits) e h.awaits in
    asked_grows w most message r.course stored h.sound.0 a
    ∙ (ap (λ (qs : List Asked). asked_in r.course ++ qs) (unasked_put r.course.waits) ∙ append-nil (asked_in r.course))

-- where what was held is of a table, and the replies are the table's, so are the nodes that a message was given
pub run_of_table : (like : Likeness) (w : World) (most : ℕ) (message : List ℕ) (held : Node → Type 0) (r : Run) (replies : Replies) → HoldsRun w most message held r
    → ((n : Node) → held n → IsOfTable like w replies n) → AskedOf replies (asked_in r.course) → CourseOf like w replies r.course
run_of_table like w most message held r replies h of asked =
    walks_of like w replies held r.puts (walks_in r.course) of (h.traced.of_table like replies of asked) h.traced.given asked

-- an end comes where nothing is waited for, with the outcome of the recursion
ends_so : (like : Likeness) (w : World) (most : ℕ) (replies : Replies) (message : List ℕ) (waits : Waiting) (x : Result Outcome Refusal)
    → CourseStepIs like w most replies message waits (end_with x) → x ≡ alone w most replies message
ends_so like w most replies message for_nothing x h = h
ends_so like w most replies message to_begin x h = absurd h
ends_so like w most replies message (to_end o) x h = absurd h
ends_so like w most replies message (for_walk group s) x h = absurd h

-- A message that was judged over nodes of a table, with the table's replies, ends with the outcome of the recursion, whenever the nodes were made
pub run_ends : (like : Likeness) (w : World) (most : ℕ) (message : List ℕ) (held : Node → Type 0) (r : Run) (replies : Replies) (x : Result Outcome Refusal)
    → HoldsRun w most message held r → ((n : Node) → held n → IsOfTable like w replies n) → AskedOf replies (asked_in r.course)
    → r.step ≡ end_with x → x ≡ alone w most replies message
run_ends like w most message held r replies x h of asked e =
    ends_so like w most replies message r.course.waits x
    (subst (CourseStepIs like w most replies message r.course.waits) e (h.goes.says like replies (run_of_table like w most message held r replies h of asked)))

-- what was heard leaves a run so
pub heard_holds : (w : World) (most : ℕ) (message : List ℕ) (held : Node → Type 0) (inputs : List Input) (r : Run)
    → ((n : Node) → held n → Kept w.accepts n) → HoldsRun w most message held r → AreHeard w held r inputs
    → HoldsRun w most message held (after_heard w r inputs)
heard_holds w most message held [] r kept h a = h
heard_holds w most message held (i ∷ inputs) r kept h a =
    heard_holds w most message held inputs (ran_on w r i) kept (run_goes_on w most message held r i kept h a.0 a.1) a.2

-- one more input is heard
pub heard_more : (w : World) (held : Node → Type 0) (inputs : List Input) (r : Run) (i : Input) → AreHeard w held r inputs
    → CourseAnswers (after_heard w r inputs).course.waits i → GivenFrom held (after_heard w r inputs).puts i
    → AreHeard w held r (inputs ++ i ∷ [])
heard_more w held [] r i h a f = (a, f, tt)
heard_more w held (j ∷ inputs) r i h a f = (h.0, h.1, heard_more w held inputs (ran_on w r j) i h.2 a f)

pub after_more : (w : World) (inputs : List Input) (r : Run) (i : Input)
    → after_heard w r (inputs ++ i ∷ []) ≡ ran_on w (after_heard w r inputs) i
after_more w [] r i = refl
after_more w (j ∷ inputs) r i = after_more w inputs (ran_on w r j) i

-- From empty caches: whatever a message was given is what it has put, so by each table that agrees with its replies it ends with the outcome of
-- the recursion (RFC 4033 5)
pub ends_from_nothing : (w : World) (most : ℕ) (message : List ℕ) (c : Course) (inputs : List Input) (x : Result Outcome Refusal)
    → begun w.anchors most message ≡ Ok c → AreHeard w (λ (n : Node). ⊥) (first_run w c) inputs
    → (after_heard w (first_run w c) inputs).step ≡ end_with x
    → (replies : Replies) → AskedOf replies (asked_in (after_heard w (first_run w c) inputs).course) → x ≡ alone w most replies message
ends_from_nothing w most message c inputs x e heard ends replies asked =
    let none : Node → Type 0 = λ n. ⊥ in
    let h = heard_holds w most message none inputs (first_run w c) (λ n b. absurd b) (run_begins w most message none c (λ n b. absurd b) e) heard in
    run_ends wholly w most message none (after_heard w (first_run w c) inputs) replies x h (λ n b. absurd b) asked ends
