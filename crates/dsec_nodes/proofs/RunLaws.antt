-- However a walk is served by a table, it ends with the node that the recursion makes.
use Rattle.std.proofs.Common.{◌≡◌, ℕ, ◌≤◌, ◌&&◌, Bool, true, false, cond, List, [], ◌∷◌, ◌++◌, length, take, Option, Some, None, refl, sym, ap, ◌∙◌, subst}
use Rattle.std.specs.List.{AllByRecursion}
use Rattle.std.proofs.lemmas.Bool.{and_parts}
use Rattle.dsec_spec.specs.Names.{Place}
use Rattle.dsec_spec.specs.Numbers.{DS, DNSKEY}
use Rattle.dsec_nodes.specs.World.{World, Replies}
use Rattle.dsec_nodes.specs.Nodes.{Node, Standing, apex, within, insecure, bogus}
use Rattle.dsec_nodes.specs.Replies.{read_reply}
use Rattle.dsec_nodes.specs.ByDs.{Pending, Below, made, asks, by_ds_reply, by_key_reply}
use Rattle.dsec_nodes.specs.Walk.{by_anchor_reply, Reached, held_keys, may_stand, node_of}
use Rattle.dsec_nodes.specs.Machine.{in_phase, node_get, done, started, Question, Phase, begins, gets, asks_first, asks_keys, puts, ends, Walking, Step, Input, begin, node, stored, reply, name_at, type_at, asked_type, is_further, ahead, ahead_from, with_got, asking, given, heard, made_by, making, below_by, first_reply, key_reply, replied, advanced, Answers}
use Rattle.dsec_nodes.specs.Likeness.{Likeness, seen, Alike}
use Rattle.dsec_nodes.specs.InStep.{AskedOf, GotOf, Goes, StepIs}
use Rattle.dsec_nodes.specs.Taking.{counts}
use Rattle.dsec_nodes.specs.Runs.{ServedBy, AreServed, after_inputs}
use Rattle.dsec_nodes.proofs.TakingLaws.{taken}
use Rattle.dsec_nodes.proofs.MachineLaws.{advanced_goes, started_in_step}

-- one more of a list that all are
all_more : {A : Type 0} (P : A → Type 0) (xs : List A) (x : A) → AllByRecursion P xs → P x → AllByRecursion P (xs ++ x ∷ [])
all_more P [] x h p = (p, tt)
all_more P (y ∷ ys) x h p = (h.0, all_more P ys x h.1 p)

-- a walk to the same name, whose replies and nodes are still the table's
pub record StaysOf (like : Likeness) (w : World) (replies : Replies) (s t : Walking) : Type 0 where
  pub same_top : t.top ≡ s.top
  pub same_target : t.target ≡ s.target
  pub asked : AskedOf replies t.asked
  pub got : GotOf like w replies t.top t.got

-- the next step from what is reached leaves it so
ahead_stays : (like : Likeness) (w : World) (replies : Replies) (s : Walking) → AskedOf replies s.asked → GotOf like w replies s.top s.got
    → StaysOf like w replies s (ahead s).0
ahead_stays like w replies s a g = by s.reached
  where
    by_further : (x : Bool) (r : Reached)
        → StaysOf like w replies s (cond {A = Walking × Step} x (in_phase s gets, node_get (name_at s)) (in_phase s ends, done r.node)).0
    by_further true r = record { same_top = refl; same_target = refl; asked = a; got = g }
    by_further false r = record { same_top = refl; same_target = refl; asked = a; got = g }

    by : (o : Option Reached) → StaysOf like w replies s (ahead_from s o).0
    by None = record { same_top = refl; same_target = refl; asked = a; got = g }
    by (Some r) = by_further (is_further s r) r

-- what was asked, with the table's reply
heard_of : (replies : Replies) (s : Walking) (rtype : ℕ) (octets : Option (List ℕ)) → AskedOf replies s.asked
    → replies (name_at s) rtype ≡ octets → AskedOf replies (heard s rtype octets)
heard_of replies s rtype octets a e =
    all_more (λ (q : Question). replies q.name q.rtype ≡ q.reply) s.asked (record { name = name_at s; rtype = rtype; reply = octets }) a e

-- so does a node that was made
making_stays : (like : Likeness) (w : World) (replies : Replies) (s : Walking) (asked : List Question) (n : Node) → AskedOf replies asked
    → GotOf like w replies s.top s.got → StaysOf like w replies s (making s asked n).0
making_stays like w replies s asked n a g = by n.standing
  where
    by : (x : Standing) → StaysOf like w replies s (made_by s asked n x).0
    by (apex keys) = record { same_top = refl; same_target = refl; asked = a; got = g }
    by (within last) = record { same_top = refl; same_target = refl; asked = a; got = g }
    by (insecure cause signed) = record { same_top = refl; same_target = refl; asked = a; got = g }
    by (bogus cause) = record { same_top = refl; same_target = refl; asked = a; got = g }

-- the table's first reply at a name
first_stays : (like : Likeness) (w : World) (replies : Replies) (s : Walking) (octets : Option (List ℕ)) → AskedOf replies s.asked
    → GotOf like w replies s.top s.got
    → replies (name_at s) (type_at s.reached) ≡ octets → StaysOf like w replies s (first_reply w s s.reached octets).0
first_stays like w replies s octets a g e = by s.reached e
  where
    by_below : replies (name_at s) DS ≡ octets → (x : Below) → StaysOf like w replies s (below_by s (heard s DS octets) x).0
    by_below f (made n) = making_stays like w replies s (heard s DS octets) n (heard_of replies s DS octets a f) g
    by_below f (asks pending) = record { same_top = refl; same_target = refl; asked = heard_of replies s DS octets a f; got = g }

    by : (o : Option Reached) → replies (name_at s) (type_at o) ≡ octets → StaysOf like w replies s (first_reply w s o octets).0
    by None f = making_stays like w replies s (heard s DNSKEY octets) (by_anchor_reply w s.top (read_reply octets)) (heard_of replies s DNSKEY octets a f) g
    by (Some r) f = by_below f (by_ds_reply w r.zone (held_keys r.zone.standing) (name_at s) (read_reply octets))

-- the table's reply with a key set
key_stays : (like : Likeness) (w : World) (replies : Replies) (s : Walking) (pending : Pending) (octets : Option (List ℕ)) → AskedOf replies s.asked
    → GotOf like w replies s.top s.got → replies (name_at s) DNSKEY ≡ octets → (o : Option Reached)
    → StaysOf like w replies s (key_reply w s o pending octets).0
key_stays like w replies s pending octets a g e None = record { same_top = refl; same_target = refl; asked = a; got = g }
key_stays like w replies s pending octets a g e (Some r) =
    making_stays like w replies s (heard s DNSKEY octets) (by_key_reply w r.zone pending (read_reply octets)) (heard_of replies s DNSKEY octets a e) g

-- and a node of the table that was kept
given_stays : (like : Likeness) (w : World) (replies : Replies) (s : Walking) (o : Option Node) → AskedOf replies s.asked → GotOf like w replies s.top s.got
    → ServedBy like w replies s (node o) → StaysOf like w replies s (given w s o).0
given_stays like w replies s None a g v = record { same_top = refl; same_target = refl; asked = a; got = g }
given_stays like w replies s (Some n) a g v = by (counts w s.top (name_at s) n && may_stand s.reached n.standing) refl
  where
    by : (x : Bool) → (counts w s.top (name_at s) n && may_stand s.reached n.standing) ≡ x
        → StaysOf like w replies s (cond {A = Walking × Step} x (ahead (with_got s n)) (asking s)).0
    by false e = record { same_top = refl; same_target = refl; asked = a; got = g }
    by true e =
        let of : Alike like (node_of w replies s.top n.name) n = v (taken w s.top (name_at s) n (and_parts _ _ e).0) in
        let more : GotOf like w replies s.top (s.got ++ n ∷ []) = all_more (λ (x : Node). Alike like (node_of w replies s.top x.name) x) s.got n g of in
        let h = ahead_stays like w replies (with_got s n) a more in
        record { same_top = h.same_top; same_target = h.same_target; asked = h.asked; got = h.got }

-- an input that a table serves leaves a walk of it
pub advanced_stays : (like : Likeness) (w : World) (replies : Replies) (s : Walking) (input : Input) → Answers s.phase input → ServedBy like w replies s input
    → AskedOf replies s.asked → GotOf like w replies s.top s.got → StaysOf like w replies s (advanced w s input).0
advanced_stays like w replies s begin b v a g = ahead_stays like w replies s a g
advanced_stays like w replies s (node o) b v a g = given_stays like w replies s o a g v
advanced_stays like w replies s stored b v a g = ahead_stays like w replies s a g
advanced_stays like w replies s (reply octets) b v a g = by s.phase b v
  where
    by : (x : Phase) → Answers x (reply octets) → replies (name_at s) (asked_type x s.reached) ≡ octets
        → StaysOf like w replies s (replied w s x octets).0
    by asks_first c e = first_stays like w replies s octets a g e
    by (asks_keys pending) c e = key_stays like w replies s pending octets a g e s.reached
    by begins c e = absurd c
    by gets c e = absurd c
    by puts c e = absurd c
    by ends c e = absurd c

-- however a walk in step is served by the table, what it ends with is the recursion's
run_ends : (like : Likeness) (w : World) (replies : Replies) (inputs : List Input) (p : Walking × Step) (n : Node) → Goes w p → AskedOf replies p.0.asked
    → GotOf like w replies p.0.top p.0.got → AreServed like w replies p.0 inputs → (after_inputs w p inputs).1 ≡ done n
    → Alike like (node_of w replies p.0.top p.0.target) n
run_ends like w replies [] p n g a t v e = subst (λ (x : Step). StepIs like w replies p.0 x) e (g.says like replies a t)
run_ends like w replies (i ∷ inputs) p n g a t v e =
    let h = advanced_stays like w replies p.0 i v.0 v.1 a t in
    let rest = run_ends like w replies inputs (advanced w p.0 i) n (advanced_goes w p.0 i g.in_step v.0) h.asked h.got v.2 e in
    ap (λ (q : Place). seen like (node_of w replies q p.0.target)) (sym h.same_top)
    ∙ (ap (λ (q : Place). seen like (node_of w replies (advanced w p.0 i).0.top q)) (sym h.same_target) ∙ rest)

-- However a walk is served by a table, and whichever nodes of it were kept, it ends with a node like that which the recursion makes by the
-- table's replies
pub walk_ends : (like : Likeness) (w : World) (replies : Replies) (top target : Place) (input : Input) (inputs : List Input) (n : Node)
    → top ≡ take (length top) target
    → length top ≤ length target → AreServed like w replies (started top target) (input ∷ inputs)
    → (after_inputs w (advanced w (started top target) input) inputs).1 ≡ done n → Alike like (node_of w replies top target) n
walk_ends like w replies top target input inputs n below le v e =
    let h = advanced_stays like w replies (started top target) input v.0 v.1 tt tt in
    let rest = run_ends like w replies inputs (advanced w (started top target) input) n
    (advanced_goes w (started top target) input (started_in_step w top target below le) v.0) h.asked h.got v.2 e in
    ap (λ (q : Place). seen like (node_of w replies q target)) (sym h.same_top)
    ∙ (ap (λ (q : Place). seen like (node_of w replies (advanced w (started top target) input).0.top q)) (sym h.same_target) ∙ rest)
