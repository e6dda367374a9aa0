-- A walk goes on by each step that is served, and its questions are counted.
use Rattle.std.proofs.Common.{◌≡◌, ℕ, ◌+◌, ◌-◌, ◌*◌, ◌≤◌, List, [], ◌∷◌, ◌++◌, length, take, Option, Some, None, IfSome, refl, sym, ap, ◌∙◌, subst, arith, append-nil}
use Rattle.std.specs.Prelude.{Contains}
use Rattle.std.proofs.lemmas.List.{length-append}
use Rattle.dsec_spec.specs.Names.{Place}
use Rattle.dsec_spec.specs.Outside.{Table, risen}
use Rattle.dsec_spec.proofs.Members.{first_in, in_front, in_back}
use Rattle.dsec_nodes.specs.World.{World}
use Rattle.dsec_nodes.specs.Nodes.{Node, Kept}
use Rattle.dsec_nodes.specs.Machine.{Question as Asked, Step, node_get, node_put, ask, Input, begin, node, stored, reply, started, asked_type, Answers}
use Rattle.dsec_nodes.proofs.CountLaws.{asked_at_most}
use Rattle.dsec_node.specs.Caches.{Held, Lasting, IsHeld, Adds}
use Rattle.dsec_course.specs.Course.{get_node, put_node, ask_for}
use Rattle.dsec_course.specs.Hearing.{GivenFrom}
use Rattle.dsec_course.specs.Justified.{most_on}
use Rattle.dsec_course.proofs.WalkPuts.{PutUnder}
use Rattle.dsec_course.proofs.WalkSteps.{WalkAwaits, asked_after, advances}
use Rattle.dsec_lookup.specs.Outside.{Outside, AreCounted, WasHeld, HoldsMore, IsServed}
use Rattle.dsec_lookup.specs.Finding.{LeadTo, AreStored}
use Rattle.dsec_lookup.proofs.CountLaws.{counted_more, counted_same, counted_none, counted_lost}
use Rattle.dsec_lookup.proofs.HoldingLaws.{more_none, more_puts, more_kept, more_added, given_from}
use Rattle.dsec_lookup.proofs.FindingLaws.{lead_on, led_so_far, stored_none, stored_got, stored_more}
use Rattle.dsec_single.specs.Trips.{Trip, put_in, first_trip, trip_on, after_given, calls_for, calls_in, IsTrip}
use Rattle.dsec_single.proofs.TripLaws.{HoldsTrip, trip_begins, trip_goes_on, given_holds, given_more, after_more}

-- what was asked after an input that answers
pub asked_is : (w : World) (held : Node → Type 0) (top target : Place) (t : Trip) (i : Input) → HoldsTrip w held top target t → Answers t.walk.phase i
    → (trip_on w t i).walk.asked ≡ asked_after t.walk i
asked_is w held top target t i h a = (advances w t.walk i a).leaves.asked_is h.under_way.is_counted.waits

-- a walk on its way asks no more than it may
few_of : (w : World) (held : Node → Type 0) (top target : Place) (t : Trip) → HoldsTrip w held top target t → length t.walk.asked ≤ most_on (top, target)
few_of w held top target t h =
    subst (λ (p : Place). length t.walk.asked ≤ 1 + 2 * (length target - length p)) h.same_top
    (subst (λ (p : Place). length t.walk.asked ≤ 1 + 2 * (length p - length t.walk.top)) h.same_target (asked_at_most w t.walk h.under_way.is_sound h.under_way.is_counted))

-- what has come so far is sound and in step
pub trip_holds : (w : World) (table : Option Table) (before now : Outside) (top target : Place) (lost : ℕ) (t : Trip)
    → IsTrip w table before now top target lost t → HoldsTrip w (WasHeld w.accepts before.held) top target t
trip_holds w table before now top target lost t s =
    let held : Node → Type 0 = WasHeld w.accepts before.held in
    let kept : (n : Node) → held n → Kept w.accepts n = λ n x. x.0 in
    subst (HoldsTrip w held top target) s.comes_to
    (given_holds w held top target s.inputs (first_trip w top target) kept (trip_begins w held top target kept s.below s.shorter) s.given)

-- what was put is among what the steps so far put
pub trip_listed : (w : World) (table : Option Table) (before now : Outside) (top target : Place) (lost : ℕ) (t : Trip)
    (s : IsTrip w table before now top target lost t) (n : Node) → Contains s.stored n → Contains t.puts n
trip_listed w table before now top target lost t s n there =
    subst (λ (ns : List Node). Contains ns n) (sym s.puts_are) (in_front n s.stored (put_in t.step) there)

-- a walk begins
pub trip_first : (w : World) (table : Option Table) (before : Outside) (top target : Place) → top ≡ take (length top) target → length top ≤ length target
    → IsTrip w table before before top target 0 (first_trip w top target)
trip_first w table before top target below le =
    let held : Node → Type 0 = WasHeld w.accepts before.held in
    let h = trip_begins w held top target (λ n x. x.0) below le in
    let few = few_of w held top target (first_trip w top target) h in
    let none : (first_trip w top target).walk.asked ≡ [] = (advances w (started top target) begin tt).leaves.asked_is tt in
    record {
      below = below;
      shorter = le;
      inputs = [];
      given = tt;
      comes_to = refl;
      counted = subst (λ (qs : List Asked). AreCounted table before before qs 0) (sym none) (counted_none table before);
      few = omega (arith, few);
      stored = [];
      puts_are = refl;
      holds_more = more_none before.held;
      found = refl;
      lasts = stored_none before.lasting;
    }

-- the calls of one more input
calls_more : (w : World) (first now next : Option Lasting) (inputs : List Input) (t : Trip) (i : Input) → LeadTo first (calls_in w t inputs) now
    → LeadTo now (calls_for (after_given w t inputs).step i) next → LeadTo first (calls_in w t (inputs ++ i ∷ [])) next
calls_more w first now next [] t i h f =
    lead_on first next next (calls_for t.step i) [] (subst (λ (o : Option Lasting). LeadTo o (calls_for t.step i) next) h f) refl
calls_more w first now next (j ∷ inputs) t i h f =
    let so_far = led_so_far first now (calls_for t.step j) (calls_in w (trip_on w t j) inputs) h in
    lead_on first so_far.0 next (calls_for t.step j) (calls_in w (trip_on w t j) (inputs ++ i ∷ [])) so_far.1
    (calls_more w so_far.0 now next inputs (trip_on w t j) i so_far.2 f)

-- it goes on by an input that answers
on_by : (w : World) (table : Option Table) (before now next : Outside) (top target : Place) (t : Trip) (i : Input)
    → IsTrip w table before now top target 0 t → Answers t.walk.phase i → GivenFrom (WasHeld w.accepts before.held) t.puts i
    → AreCounted table before next (trip_on w t i).walk.asked 0 → HoldsMore before.held next.held t.puts
    → LeadTo now.lasting (calls_for t.step i) next.lasting → AreStored before.lasting next.lasting t.puts → IsTrip w table before next top target 0 (trip_on w t i)
on_by w table before now next top target t i s a from counted more found lasts =
    let held : Node → Type 0 = WasHeld w.accepts before.held in
    let first : Trip = first_trip w top target in
    let h = trip_goes_on w held top target t i (λ n x. x.0) (trip_holds w table before now top target 0 t s) a from in
    let few = few_of w held top target (trip_on w t i) h in
    record {
      below = s.below;
      shorter = s.shorter;
      inputs = s.inputs ++ i ∷ [];
      given = given_more w held s.inputs first i s.given (subst (λ (x : Trip). Answers x.walk.phase i) (sym s.comes_to) a)
          (subst (λ (x : Trip). GivenFrom held x.puts i) (sym s.comes_to) from);
      comes_to = after_more w s.inputs first i ∙ ap (λ (x : Trip). trip_on w x i) s.comes_to;
      counted = counted;
      few = omega (arith, few);
      stored = t.puts;
      puts_are = refl;
      holds_more = more;
      found = calls_more w before.lasting now.lasting next.lasting s.inputs first i s.found
          (subst (λ (x : Trip). LeadTo now.lasting (calls_for x.step i) next.lasting) (sym s.comes_to) found);
      lasts = lasts;
    }

module _ (w : World) (table : Option Table) (before now next : Outside) (top target : Place) (t : Trip) (s : IsTrip w table before now top target 0 t) where
  holds : HoldsTrip w (WasHeld w.accepts before.held) top target t
  holds = trip_holds w table before now top target 0 t s

  -- what waits for an answer to this step
  waits : (x : Step) → t.step ≡ x → WalkAwaits x t.walk
  waits x e = subst (λ (y : Step). WalkAwaits y t.walk) e holds.awaits

  unasked : (i : Input) → Answers t.walk.phase i → asked_after t.walk i ≡ t.walk.asked → next.asked ≡ now.asked → next.faults ≡ now.faults
      → next.heard ≡ now.heard → AreCounted table before next (trip_on w t i).walk.asked 0
  unasked i a e b f h = subst (λ (qs : List Asked). AreCounted table before next qs 0)
      (sym (asked_is w (WasHeld w.accepts before.held) top target t i holds a ∙ e)) (counted_same table before now next t.walk.asked s.counted b f h)

  from_held : (name : Place) (o : Option Node) → IfSome o (λ n. Kept w.accepts n × IsHeld now.held name n)
      → GivenFrom (WasHeld w.accepts before.held) s.stored (node o)
  from_held name None x = tt
  from_held name (Some n) x = given_from w.accepts before.held now.held s.stored name n s.holds_more x.0 x.1

  -- the question of a step with its reply
  asked_one : (name : Place) (rtype : ℕ) (octets : Option (List ℕ)) → t.step ≡ ask name rtype
      → (trip_on w t (reply octets)).walk.asked ≡ t.walk.asked ++ record { name = name; rtype = rtype; reply = octets } ∷ []
  asked_one name rtype octets e =
      let a = waits (ask name rtype) e in
      asked_is w (WasHeld w.accepts before.held) top target t (reply octets) holds (a.0 octets)
      ∙ (ap (λ (p : Place). t.walk.asked ++ record { name = p; rtype = asked_type t.walk.phase t.walk.reached; reply = octets } ∷ []) (sym a.1)
      ∙ ap (λ (k : ℕ). t.walk.asked ++ record { name = name; rtype = k; reply = octets } ∷ []) (sym a.2))

  -- what was put so far, where a step puts these nodes
  done_so : (x : Step) → t.step ≡ x → s.stored ++ put_in x ≡ t.puts
  done_so x e = sym (s.puts_are ∙ ap (λ (z : Step). s.stored ++ put_in z) e)

  none_more : (x : Step) → t.step ≡ x → put_in x ≡ [] → s.stored ≡ t.puts
  none_more x e none = sym (append-nil s.stored) ∙ (ap (λ (ns : List Node). s.stored ++ ns) (sym none) ∙ done_so x e)

  -- a step that puts nothing leaves it
  kept_so : (x : Step) → t.step ≡ x → put_in x ≡ [] → AreStored before.lasting next.lasting s.stored → AreStored before.lasting next.lasting t.puts
  kept_so x e none k = subst (AreStored before.lasting next.lasting) (none_more x e none) k

  -- the calls of a step
  by_calls : (x : Step) (i : Input) → t.step ≡ x → LeadTo now.lasting (calls_for x i) next.lasting → LeadTo now.lasting (calls_for t.step i) next.lasting
  by_calls x i e k = subst (λ (z : Step). LeadTo now.lasting (calls_for z i) next.lasting) (sym e) k

  -- a node is put for its own name, and is among the puts
  own : (name : Place) (n : Node) → t.step ≡ node_put name n → n.name ≡ name
  own name n e = (subst (λ (x : Step). PutUnder w t.walk.top x) e holds.put_is).0.0.1

  added : (name : Place) (n : Node) → t.step ≡ node_put name n → Adds now.held next.held name n → HoldsMore before.held next.held t.puts
  added name n e y =
      subst (HoldsMore before.held next.held) (done_so (node_put name n) e)
      (more_added before.held now.held next.held (s.stored ++ n ∷ []) name n (more_puts before.held now.held s.stored (n ∷ []) s.holds_more) y
      (in_back n s.stored (n ∷ []) (first_in n [])) (own name n e))

  -- a node that is held, or none, is given
  pub trip_gets : (name : Place) (o : Option Node) → t.step ≡ node_get name → IsServed w.accepts table now next (get_node name) (node o)
      → IsTrip w table before next top target 0 (trip_on w t (node o))
  trip_gets name o e y =
      on_by w table before now next top target t (node o) s (waits (node_get name) e o)
      (subst (λ (ns : List Node). GivenFrom (WasHeld w.accepts before.held) ns (node o)) (none_more (node_get name) e refl) (from_held name o y.3))
      (unasked (node o) (waits (node_get name) e o) refl y.2.0 y.2.1 y.2.2)
      (subst (HoldsMore before.held next.held) (none_more (node_get name) e refl) (more_kept before.held now.held next.held s.stored s.holds_more y.0))
      (by_calls (node_get name) (node o) e (next.lasting, y.1, refl))
      (kept_so (node_get name) e refl (stored_got before.lasting now.lasting next.lasting s.stored name o s.lasts y.1))

  -- a node is put
  pub trip_puts : (name : Place) (n : Node) → t.step ≡ node_put name n → IsServed w.accepts table now next (put_node name n) stored
      → IsTrip w table before next top target 0 (trip_on w t stored)
  trip_puts name n e y =
      on_by w table before now next top target t stored s (waits (node_put name n) e) tt (unasked stored (waits (node_put name n) e) refl y.2.0 y.2.1 y.2.2)
      (added name n e y.0) (by_calls (node_put name n) stored e (next.lasting, y.1, refl))
      (subst (AreStored before.lasting next.lasting) (done_so (node_put name n) e)
      (stored_more before.lasting now.lasting next.lasting s.stored name n s.lasts y.1 (own name n e)))

  -- a reply is heard
  pub trip_hears : (name : Place) (rtype : ℕ) (octets : Option (List ℕ)) → t.step ≡ ask name rtype
      → IsServed w.accepts table now next (ask_for name rtype) (reply octets) → IsTrip w table before next top target 0 (trip_on w t (reply octets))
  trip_hears name rtype octets e y =
      on_by w table before now next top target t (reply octets) s ((waits (ask name rtype) e).0 octets) tt
      (subst (λ (qs : List Asked). AreCounted table before next qs 0) (sym (asked_one name rtype octets e))
      (counted_more table before now next t.walk.asked name rtype octets s.counted y.2 y.3 y.4 y.5))
      (subst (λ (z : Option Held). HoldsMore before.held z t.puts) (sym y.0) (subst (HoldsMore before.held now.held) (none_more (ask name rtype) e refl) s.holds_more))
      (by_calls (ask name rtype) (reply octets) e y.1)
      (kept_so (ask name rtype) e refl (subst (λ (z : Option Lasting). AreStored before.lasting z s.stored) (sym y.1) s.lasts))

  -- a question finds no memory
  pub trip_lost : (name : Place) (rtype : ℕ) → t.step ≡ ask name rtype → next.held ≡ now.held → next.lasting ≡ now.lasting → next.asked ≡ risen now.asked
      → next.faults ≡ now.faults → next.heard ≡ now.heard → IsTrip w table before next top target 1 t
  trip_lost name rtype e same kept a f h =
      let held : Node → Type 0 = WasHeld w.accepts before.held in
      let one : Asked = record { name = name; rtype = rtype; reply = None } in
      let more = few_of w held top target (trip_on w t (reply None))
      (trip_goes_on w held top target t (reply None) (λ n x. x.0) holds ((waits (ask name rtype) e).0 None) tt) in
      let longer = ap length (asked_one name rtype None e) ∙ length-append t.walk.asked (one ∷ []) in
      record {
        below = s.below;
        shorter = s.shorter;
        inputs = s.inputs;
        given = s.given;
        comes_to = s.comes_to;
        counted = counted_lost table before now next t.walk.asked s.counted a f h;
        few = omega (arith, more, longer);
        stored = s.stored;
        puts_are = s.puts_are;
        holds_more = subst (λ (z : Option Held). HoldsMore before.held z s.stored) (sym same) s.holds_more;
        found = subst (λ (z : Option Lasting). LeadTo before.lasting (calls_in w (first_trip w top target) s.inputs) z) (sym kept) s.found;
        lasts = subst (λ (z : Option Lasting). AreStored before.lasting z s.stored) (sym kept) s.lasts;
      }
