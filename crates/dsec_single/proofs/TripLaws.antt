-- A walk over nodes that were held and an upstream goes on soundly and in step, whatever it is given of what was held, kept, and of what it has put.
use Rattle.std.proofs.Common.{◌≡◌, ◌⊎◌, ◌≤◌, List, [], ◌∷◌, ◌++◌, length, take, refl, sym, ◌∙◌, subst, inl, inr}
use Rattle.std.specs.Prelude.{Contains}
use Rattle.dsec_spec.specs.Names.{Place}
use Rattle.dsec_spec.proofs.Members.{not_in_none, in_either}
use Rattle.dsec_nodes.specs.World.{World, Replies}
use Rattle.dsec_nodes.specs.Nodes.{Node, Kept}
use Rattle.dsec_nodes.specs.Machine.{Question as Asked, Walking, Step, node_get, node_put, ask, done, Input, begin, node, stored, reply, started, name_at, asked_type, advanced, Answers}
use Rattle.dsec_nodes.specs.Likeness.{Likeness}
use Rattle.dsec_nodes.specs.InStep.{AskedOf, InStep, StepIs, Goes}
use Rattle.dsec_nodes.specs.SoundSteps.{InputKept, StepKept, Sound}
use Rattle.dsec_nodes.proofs.CountLaws.{started_counted}
use Rattle.dsec_nodes.proofs.MachineLaws.{advanced_goes, started_in_step}
use Rattle.dsec_nodes.proofs.SoundWalk.{advanced_sound, started_sound}
use Rattle.dsec_course.specs.Hearing.{GivenFrom, IsOfTable, CountsAt}
use Rattle.dsec_nodes.proofs.Each.{all_front, all_map}
use Rattle.dsec_course.proofs.TraceLaws.{IsGiven, Trace, got_of, in_longer, input_kept, only, put_under_table, trace_more, under_counts}
use Rattle.dsec_course.proofs.WalkPuts.{PutUnder, put_under}
use Rattle.dsec_course.proofs.WalkSteps.{WalkAwaits, HasReached, asked_after, Advances, advances}
use Rattle.dsec_walk.specs.UnderWay.{IsUnderWay}
use Rattle.dsec_walk.proofs.UnderWayLaws.{advanced_under_way}
use Rattle.dsec_single.specs.Trips.{Trip, put_in, trip_at, first_trip, trip_on, AreGiven, after_given}
use Rattle.dsec_single.proofs.NameLaws.{IsNamed, EndsAtTarget, Names, advanced_names}

-- What holds of a walk on its way. It is from an island to a name, sound and in step, and waits for what answers its step; the nodes that it has
-- taken were held before or put, and count under the island; those that it has put are kept and count, and by each table of which the held nodes
-- and its replies are, so are they
pub record HoldsTrip (w : World) (held : Node → Type 0) (top target : Place) (t : Trip) : Type 0 where
  pub same_top : t.walk.top ≡ top
  pub same_target : t.walk.target ≡ target
  pub under_way : IsUnderWay w t.walk
  pub step_kept : StepKept w t.walk.top t.step
  pub put_is : PutUnder w t.walk.top t.step
  pub goes : Goes w (t.walk, t.step)
  pub awaits : WalkAwaits t.step t.walk
  pub reached : HasReached t.step t.walk.reached
  pub named : IsNamed t.walk t.walk.reached
  pub at_end : EndsAtTarget t.walk t.step
  pub given : Trace w held t.puts t.walk
  pub kept : (n : Node) → Contains t.puts n → Kept w.accepts n
  pub counting : (n : Node) → Contains t.puts n → (top : Place) × CountsAt w n top
  pub of_table : (like : Likeness) (replies : Replies) → ((n : Node) → held n → IsOfTable like w replies n) → AskedOf replies t.walk.asked
      → (n : Node) → Contains t.puts n → IsOfTable like w replies n

-- a node that a step puts is kept
put_kept : (w : World) (top : Place) (x : Step) → PutUnder w top x → (n : Node) → Contains (put_in x) n → Kept w.accepts n
put_kept w top (node_put name m) h n there = subst (Kept w.accepts) (only m n there) h.0.0.0
put_kept w top (node_get name) h n there = absurd (not_in_none n there)
put_kept w top (ask name rtype) h n there = absurd (not_in_none n there)
put_kept w top (done m) h n there = absurd (not_in_none n there)

-- and counts
put_counts : (w : World) (top : Place) (x : Step) → PutUnder w top x → (n : Node) → Contains (put_in x) n → (island : Place) × CountsAt w n island
put_counts w top (node_put name m) h n there =
    subst (λ (y : Node). (island : Place) × CountsAt w y island) (only m n there) (top, under_counts w top name m h.0 h.1)
put_counts w top (node_get name) h n there = absurd (not_in_none n there)
put_counts w top (ask name rtype) h n there = absurd (not_in_none n there)
put_counts w top (done m) h n there = absurd (not_in_none n there)

-- and of the table, where what was given is
put_of_table : (like : Likeness) (w : World) (replies : Replies) (s : Walking) (x : Step) → PutUnder w s.top x → StepIs like w replies s x → (n : Node) → Contains (put_in x) n
    → IsOfTable like w replies n
put_of_table like w replies s (node_put name m) h is n there =
    subst (IsOfTable like w replies) (only m n there) (put_under_table like w replies s.top name m h.0 h.1 is)
put_of_table like w replies s (node_get name) h is n there = absurd (not_in_none n there)
put_of_table like w replies s (ask name rtype) h is n there = absurd (not_in_none n there)
put_of_table like w replies s (done m) h is n there = absurd (not_in_none n there)

-- what was asked before an input is of a table where what is asked after it is
asked_before : (replies : Replies) (s : Walking) (i : Input) → AskedOf replies (asked_after s i) → AskedOf replies s.asked
asked_before replies s begin h = h
asked_before replies s (node o) h = h
asked_before replies s stored h = h
asked_before replies s (reply octets) h =
    all_front (λ (q : Asked). replies q.name q.rtype ≡ q.reply) s.asked (record { name = name_at s; rtype = asked_type s.phase s.reached; reply = octets } ∷ []) h

-- a walk that is sound, in step, and of what it was given, goes on so
go_on : (w : World) (held : Node → Type 0) (top target : Place) (puts : List Node) (s : Walking) (input : Input) → ((n : Node) → held n → Kept w.accepts n)
    → s.top ≡ top → s.target ≡ target → IsUnderWay w s → InStep w s → IsNamed s s.reached → Trace w held puts s
    → ((n : Node) → Contains puts n → Kept w.accepts n) → ((n : Node) → Contains puts n → (island : Place) × CountsAt w n island)
    → ((like : Likeness) (replies : Replies) → ((n : Node) → held n → IsOfTable like w replies n) → AskedOf replies s.asked → (n : Node) → Contains puts n
    → IsOfTable like w replies n)
    → Answers s.phase input → GivenFrom held puts input → HoldsTrip w held top target (trip_at puts (advanced w s input))
go_on w held top target puts s input kept same_top same_target under_way steps named given puts_kept counting of_table a from = record {
  same_top = l.leaves.same_top ∙ same_top;
  same_target = l.leaves.same_target ∙ same_target;
  under_way = advanced_under_way w s input under_way a input_is;
  step_kept = going.1;
  put_is = subst (λ (q : Place). PutUnder w q p.1) (sym l.leaves.same_top) under;
  goes = goes;
  awaits = l.leaves.awaits under_way.is_counted.waits;
  reached = l.leaves.reached;
  named = names.named;
  at_end = names.at_end;
  given = all_map (IsGiven w held puts p.0.top) (IsGiven w held (puts ++ put_in p.1) p.0.top) p.0.got (λ n y. (longer n y.0, y.1)) traced;
  kept = λ n there. elim (in_either n puts (put_in p.1) there) [
    | inl old ↦ puts_kept n old
    | inr new ↦ put_kept w s.top p.1 under n new
  ];
  counting = λ n there. elim (in_either n puts (put_in p.1) there) [
    | inl old ↦ counting n old
    | inr new ↦ put_counts w s.top p.1 under n new
  ];
  of_table = λ like replies h asked n there.
      let before : AskedOf replies s.asked = asked_before replies s input (subst (AskedOf replies) (l.leaves.asked_is under_way.is_counted.waits) asked) in
      let old : (m : Node) → Contains puts m → IsOfTable like w replies m = of_table like replies h before in
      elim (in_either n puts (put_in p.1) there) [
        | inl x ↦ old n x
        | inr x ↦ put_of_table like w replies p.0 p.1 (subst (λ (q : Place). PutUnder w q p.1) (sym l.leaves.same_top) under)
            (goes.says like replies asked (got_of like w replies held puts p.0 h old traced)) n x
      ];
}
  where
    p : Walking × Step
    p = advanced w s input

    l : Advances w s input
    l = advances w s input a

    input_is : InputKept w input
    input_is = input_kept w held puts input kept puts_kept from

    going : Sound w p
    going = advanced_sound w s input under_way.is_sound a input_is

    goes : Goes w p
    goes = advanced_goes w s input steps a

    names : Names p
    names = advanced_names w s input under_way.is_sound named a

    under : PutUnder w s.top p.1
    under = put_under w s input under_way.is_sound a

    traced : Trace w held puts p.0
    traced = trace_more w held puts s p.0 input l.got l.leaves.same_top l.leaves.got_is l.more from given

    longer : (n : Node) → held n ⊎ Contains puts n → held n ⊎ Contains (puts ++ put_in p.1) n
    longer n x = elim x [ inl y ↦ inl y | inr y ↦ inr (in_longer puts (put_in p.1) n y) ]

-- A walk on its way goes on
pub trip_goes_on : (w : World) (held : Node → Type 0) (top target : Place) (t : Trip) (input : Input) → ((n : Node) → held n → Kept w.accepts n)
    → HoldsTrip w held top target t → Answers t.walk.phase input → GivenFrom held t.puts input → HoldsTrip w held top target (trip_on w t input)
trip_goes_on w held top target t input kept h a from =
    go_on w held top target t.puts t.walk input kept h.same_top h.same_target h.under_way h.goes.in_step h.named h.given h.kept h.counting h.of_table a from

-- and it begins
pub trip_begins : (w : World) (held : Node → Type 0) (top target : Place) → ((n : Node) → held n → Kept w.accepts n) → top ≡ take (length top) target
    → length top ≤ length target → HoldsTrip w held top target (first_trip w top target)
trip_begins w held top target kept below le =
    go_on w held top target [] (started top target) begin kept refl refl under_way
    (started_in_step w top target below le) tt tt (λ n there. absurd (not_in_none n there)) (λ n there. absurd (not_in_none n there)) (λ like replies h asked n there. absurd (not_in_none n there)) tt tt
  where
    under_way : IsUnderWay w (started top target)
    under_way = record { is_sound = started_sound w top target below le; is_counted = started_counted top target; in_zone = tt }

-- after all inputs it is so
pub given_holds : (w : World) (held : Node → Type 0) (top target : Place) (inputs : List Input) (t : Trip) → ((n : Node) → held n → Kept w.accepts n)
    → HoldsTrip w held top target t → AreGiven w held t inputs → HoldsTrip w held top target (after_given w t inputs)
given_holds w held top target [] t kept h a = h
given_holds w held top target (i ∷ inputs) t kept h a =
    given_holds w held top target inputs (trip_on w t i) kept (trip_goes_on w held top target t i kept h a.0 a.1) a.2

-- one input more
pub given_more : (w : World) (held : Node → Type 0) (inputs : List Input) (t : Trip) (i : Input) → AreGiven w held t inputs
    → Answers (after_given w t inputs).walk.phase i → GivenFrom held (after_given w t inputs).puts i → AreGiven w held t (inputs ++ i ∷ [])
given_more w held [] t i h a from = (a, from, tt)
given_more w held (x ∷ inputs) t i h a from = (h.0, h.1, given_more w held inputs (trip_on w t x) i h.2 a from)

pub after_more : (w : World) (inputs : List Input) (t : Trip) (i : Input) → after_given w t (inputs ++ i ∷ []) ≡ trip_on w (after_given w t inputs) i
after_more w [] t i = refl
after_more w (x ∷ inputs) t i = after_more w inputs (trip_on w t x) i
