-- A message goes on by each step that is served, and keeps what it promises.
use Rattle.std.proofs.Common.{◌≡◌, ℕ, List, [], ◌∷◌, ◌++◌, Option, Some, None, IfSome, Ok, refl, sym, ap, ◌∙◌, subst, append-nil}
use Rattle.std.specs.Prelude.{Contains}
use Rattle.std.specs.List.{flat_map}
use Rattle.dsec_spec.specs.Names.{Place}
use Rattle.dsec_spec.specs.Outside.{Table}
use Rattle.dsec_spec.proofs.Members.{first_in, in_front, in_back}
use Rattle.dsec_nodes.specs.World.{World}
use Rattle.dsec_nodes.specs.Nodes.{Node, Kept}
use Rattle.dsec_nodes.specs.Machine.{Question as Asked, Walking, Input, begin, node, stored, reply}
use Rattle.dsec_node.specs.Caches.{Held, Lasting, IsHeld}
use Rattle.dsec_course.specs.Course.{Waiting, to_begin, to_end, for_walk, for_nothing, Course, CourseStep, get_node, put_node, ask_for, end_with, CourseAnswers, Awaits, asked_in, asked_by}
use Rattle.dsec_course.specs.Advancing.{begun}
use Rattle.dsec_course.specs.Justified.{CourseStepSound}
use Rattle.dsec_course.specs.Hearing.{Run, put_by, first_run, ran_on, GivenFrom, after_heard, HoldsRun}
use Rattle.dsec_course.proofs.BeginningLaws.{begun_sound, begun_waits}
use Rattle.dsec_course.proofs.RunLaws.{run_begins, run_asked, run_got, run_put, heard_holds, heard_more, after_more}
use Rattle.dsec_course.proofs.StepLaws.{asked_grows}
use Rattle.dsec_context.specs.Outside.{Outside, AreCounted, WasHeld, HoldsMore, IsServed}
use Rattle.dsec_context.specs.Finding.{calls_by, LeadTo, AreStored}
use Rattle.dsec_context.specs.Serving.{calls_in, IsServing}
use Rattle.dsec_lookup.proofs.CountLaws.{counted_more, counted_same, counted_none}
use Rattle.dsec_lookup.proofs.HoldingLaws.{more_none, more_puts, more_kept, more_added, given_from}
use Rattle.dsec_lookup.proofs.FindingLaws.{lead_on, led_so_far, lead_nowhere, stored_none, stored_got, stored_more}

-- what has come so far is sound and in step
pub serving_holds : (w : World) (most : ℕ) (message : List ℕ) (table : Option Table) (before now : Outside) (r : Run)
    → IsServing w most message table before now r → HoldsRun w most message (WasHeld w.accepts before.held) r
serving_holds w most message table before now r s =
    let held : Node → Type 0 = WasHeld w.accepts before.held in
    let kept : (n : Node) → held n → Kept w.accepts n = λ n x. x.0 in
    subst (HoldsRun w most message held) s.comes_to
    (heard_holds w most message held s.inputs (first_run w s.course) kept (run_begins w most message held s.course kept s.begins) s.heard)

-- what was put is among what the steps so far put
pub serving_listed : (w : World) (most : ℕ) (message : List ℕ) (table : Option Table) (before now : Outside) (r : Run)
    (s : IsServing w most message table before now r) (n : Node) → Contains s.stored n → Contains r.puts n
serving_listed w most message table before now r s n there =
    subst (λ (ns : List Node). Contains ns n) (sym s.puts_are) (in_front n s.stored (put_by r.step) there)

-- the calls of one more input
pub calls_more : (w : World) (first now next : Option Lasting) (inputs : List Input) (r : Run) (i : Input) → LeadTo first (calls_in w r inputs) now
    → LeadTo now (calls_by (after_heard w r inputs).step i) next → LeadTo first (calls_in w r (inputs ++ i ∷ [])) next
calls_more w first now next [] r i h f =
    lead_on first next next (calls_by r.step i) [] (subst (λ (o : Option Lasting). LeadTo o (calls_by r.step i) next) h f) refl
calls_more w first now next (j ∷ inputs) r i h f =
    let so_far = led_so_far first now (calls_by r.step j) (calls_in w (ran_on w r j) inputs) h in
    lead_on first so_far.0 next (calls_by r.step j) (calls_in w (ran_on w r j) (inputs ++ i ∷ [])) so_far.1
    (calls_more w so_far.0 now next inputs (ran_on w r j) i so_far.2 f)

-- where caches may forget, or don't tell, nothing is said
pub of_no_caches : (w : World) (inputs : List Input) (r : Run) → LeadTo None (calls_in w r inputs) None
of_no_caches w inputs r = lead_nowhere (calls_in w r inputs)

-- nothing is asked at the beginning
unasked_begin : (waits : Waiting) → asked_by waits begin ≡ []
unasked_begin to_begin = refl
unasked_begin (to_end x) = refl
unasked_begin (for_walk group s) = refl
unasked_begin for_nothing = refl

pub begins_unasked : (w : World) (most : ℕ) (message : List ℕ) (c : Course) → begun w.anchors most message ≡ Ok c → asked_in (first_run w c).course ≡ []
begins_unasked w most message c e =
    let n = begun_waits w.anchors most message c e in
    asked_grows w most message c begin (begun_sound w most message c e) n.begins
    ∙ (ap (λ (qs : List Asked). asked_in c ++ qs) (unasked_begin c.waits)
    ∙ (append-nil (asked_in c) ∙ ap (λ (ws : List Walking). flat_map (λ (s : Walking). s.asked) ws) n.no_walks))

-- a message begins
pub serving_begins : (w : World) (most : ℕ) (message : List ℕ) (table : Option Table) (before : Outside) (c : Course) → begun w.anchors most message ≡ Ok c
    → IsServing w most message table before before (first_run w c)
serving_begins w most message table before c e = record {
  course = c;
  begins = e;
  inputs = [];
  heard = tt;
  comes_to = refl;
  counted = subst (λ (qs : List Asked). AreCounted table before before qs 0) (sym (begins_unasked w most message c e)) (counted_none table before);
  stored = [];
  puts_are = refl;
  holds_more = more_none before.held;
  found = refl;
  lasts = stored_none before.lasting;
}

-- it goes on by an input that answers
on_by : (w : World) (most : ℕ) (message : List ℕ) (table : Option Table) (before now next : Outside) (r : Run) (i : Input)
    → IsServing w most message table before now r → CourseAnswers r.course.waits i → GivenFrom (WasHeld w.accepts before.held) r.puts i
    → AreCounted table before next (asked_in (ran_on w r i).course) 0 → HoldsMore before.held next.held r.puts
    → LeadTo now.lasting (calls_by r.step i) next.lasting → AreStored before.lasting next.lasting r.puts
    → IsServing w most message table before next (ran_on w r i)
on_by w most message table before now next r i s a from counted more found lasts =
    let held : Node → Type 0 = WasHeld w.accepts before.held in
    let first : Run = first_run w s.course in
    record {
      course = s.course;
      begins = s.begins;
      inputs = s.inputs ++ i ∷ [];
      heard = heard_more w held s.inputs first i s.heard (subst (λ (x : Run). CourseAnswers x.course.waits i) (sym s.comes_to) a)
          (subst (λ (x : Run). GivenFrom held x.puts i) (sym s.comes_to) from);
      comes_to = after_more w s.inputs first i ∙ ap (λ (x : Run). ran_on w x i) s.comes_to;
      counted = counted;
      stored = r.puts;
      puts_are = refl;
      holds_more = more;
      found = calls_more w before.lasting now.lasting next.lasting s.inputs first i s.found
          (subst (λ (x : Run). LeadTo now.lasting (calls_by x.step i) next.lasting) (sym s.comes_to) found);
      lasts = lasts;
    }

-- a node is put for its own name
named_by : (w : World) (most : ℕ) (message : List ℕ) (name : Place) (n : Node) (waits : Waiting) → CourseStepSound w most message (put_node name n) waits
    → n.name ≡ name
named_by w most message name n (for_walk group s) h = h.0.0.1
named_by w most message name n to_begin h = absurd h
named_by w most message name n (to_end x) h = absurd h
named_by w most message name n for_nothing h = absurd h

pub serving_named : (w : World) (most : ℕ) (message : List ℕ) (table : Option Table) (before now : Outside) (r : Run)
    → IsServing w most message table before now r → (name : Place) (n : Node) → r.step ≡ put_node name n → n.name ≡ name
serving_named w most message table before now r s name n e =
    named_by w most message name n r.course.waits
    (subst (λ (z : CourseStep). CourseStepSound w most message z r.course.waits) e (serving_holds w most message table before now r s).sound.1)

-- A step that is served takes a message on
pub serving_goes_on : (w : World) (most : ℕ) (message : List ℕ) (table : Option Table) (before now next : Outside) (r : Run) (i : Input)
    → IsServing w most message table before now r → IsServed w.accepts table now next r.step i
    → IsServing w most message table before next (ran_on w r i)
serving_goes_on w most message table before now next r i s served = by r.step i refl served
  where
    held : Node → Type 0
    held = WasHeld w.accepts before.held

    h : HoldsRun w most message held r
    h = serving_holds w most message table before now r s

    unasked : (j : Input) → asked_in (ran_on w r j).course ≡ asked_in r.course → next.asked ≡ now.asked → next.faults ≡ now.faults
        → next.heard ≡ now.heard → AreCounted table before next (asked_in (ran_on w r j).course) 0
    unasked j e a f h = subst (λ (qs : List Asked). AreCounted table before next qs 0) (sym e) (counted_same table before now next (asked_in r.course) s.counted a f h)

    own : (name : Place) (n : Node) → r.step ≡ put_node name n → n.name ≡ name
    own = serving_named w most message table before now r s

    from : (name : Place) (o : Option Node) → IfSome o (λ n. Kept w.accepts n × IsHeld now.held name n) → GivenFrom held s.stored (node o)
    from name None x = tt
    from name (Some n) x = given_from w.accepts before.held now.held s.stored name n s.holds_more x.0 x.1

    -- what was put so far, where a step puts these nodes
    done : (x : CourseStep) → r.step ≡ x → s.stored ++ put_by x ≡ r.puts
    done x e = sym (s.puts_are ∙ ap (λ (z : CourseStep). s.stored ++ put_by z) e)

    none_more : (x : CourseStep) → r.step ≡ x → put_by x ≡ [] → s.stored ≡ r.puts
    none_more x e none = sym (append-nil s.stored) ∙ (ap (λ (ns : List Node). s.stored ++ ns) (sym none) ∙ done x e)

    -- a step that puts nothing leaves it
    kept : (x : CourseStep) → r.step ≡ x → put_by x ≡ [] → AreStored before.lasting next.lasting s.stored → AreStored before.lasting next.lasting r.puts
    kept x e none k = subst (AreStored before.lasting next.lasting) (none_more x e none) k

    -- the calls of a step
    by_calls : (x : CourseStep) (j : Input) → r.step ≡ x → LeadTo now.lasting (calls_by x j) next.lasting → LeadTo now.lasting (calls_by r.step j) next.lasting
    by_calls x j e k = subst (λ (z : CourseStep). LeadTo now.lasting (calls_by z j) next.lasting) (sym e) k

    by : (x : CourseStep) (j : Input) → r.step ≡ x → IsServed w.accepts table now next x j → IsServing w most message table before next (ran_on w r j)
    by (get_node name) (node o) e y =
        on_by w most message table before now next r (node o) s (subst (λ (z : CourseStep). Awaits z r.course.waits) e h.awaits o)
        (subst (λ (ns : List Node). GivenFrom held ns (node o)) (none_more (get_node name) e refl) (from name o y.3))
        (unasked (node o) (run_got w most message held r name o h e) y.2.0 y.2.1 y.2.2)
        (subst (HoldsMore before.held next.held) (none_more (get_node name) e refl) (more_kept before.held now.held next.held s.stored s.holds_more y.0))
        (by_calls (get_node name) (node o) e (next.lasting, y.1, refl))
        (kept (get_node name) e refl (stored_got before.lasting now.lasting next.lasting s.stored name o s.lasts y.1))
    by (put_node name n) stored e y =
        on_by w most message table before now next r stored s (subst (λ (z : CourseStep). Awaits z r.course.waits) e h.awaits) tt
        (unasked stored (run_put w most message held r name n h e) y.2.0 y.2.1 y.2.2)
        (subst (HoldsMore before.held next.held) (done (put_node name n) e)
        (more_added before.held now.held next.held (s.stored ++ n ∷ []) name n (more_puts before.held now.held s.stored (n ∷ []) s.holds_more) y.0
        (in_back n s.stored (n ∷ []) (first_in n [])) (own name n e)))
        (by_calls (put_node name n) stored e (next.lasting, y.1, refl))
        (subst (AreStored before.lasting next.lasting) (done (put_node name n) e)
        (stored_more before.lasting now.lasting next.lasting s.stored name n s.lasts y.1 (own name n e)))
    by (ask_for name rtype) (reply octets) e y =
        on_by w most message table before now next r (reply octets) s (subst (λ (z : CourseStep). Awaits z r.course.waits) e h.awaits octets).0 tt
        (subst (λ (qs : List Asked). AreCounted table before next qs 0) (sym (run_asked w most message held r name rtype octets h e))
        (counted_more table before now next (asked_in r.course) name rtype octets s.counted y.2 y.3 y.4 y.5))
        (subst (λ (z : Option Held). HoldsMore before.held z r.puts) (sym y.0)
        (subst (HoldsMore before.held now.held) (none_more (ask_for name rtype) e refl) s.holds_more))
        (by_calls (ask_for name rtype) (reply octets) e y.1)
        (kept (ask_for name rtype) e refl (subst (λ (z : Option Lasting). AreStored before.lasting z s.stored) (sym y.1) s.lasts))
    by (get_node name) begin e y = absurd y
    by (get_node name) stored e y = absurd y
    by (get_node name) (reply octets) e y = absurd y
    by (put_node name n) begin e y = absurd y
    by (put_node name n) (node o) e y = absurd y
    by (put_node name n) (reply octets) e y = absurd y
    by (ask_for name rtype) begin e y = absurd y
    by (ask_for name rtype) (node o) e y = absurd y
    by (ask_for name rtype) stored e y = absurd y
    by (end_with x) j e y = absurd y
