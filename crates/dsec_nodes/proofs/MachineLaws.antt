-- A walk a step at a time is the recursion, whatever nodes of the table it is given.
use Rattle.std.proofs.Common.{◌≡◌, ℕ, ◌+◌, ◌-◌, ◌≤◌, ◌&&◌, Bool, true, false, cond, List, [], ◌∷◌, ◌++◌, length, take, Option, Some, None, refl, sym, ap, ◌∙◌, subst, arith}
use Rattle.std.specs.Prelude.{nat_le}
use Rattle.std.specs.List.{AllByRecursion}
use Rattle.std.proofs.lemmas.Bool.{and_parts, leb-false}
use Rattle.dsec_spec.specs.Names.{Place}
use Rattle.dsec_spec.specs.Numbers.{DS, DNSKEY}
use Rattle.dsec_nodes.specs.World.{World, Replies}
use Rattle.dsec_nodes.specs.Nodes.{Node, Standing, apex, within, insecure, bogus}
use Rattle.dsec_nodes.specs.Replies.{read_reply}
use Rattle.dsec_nodes.specs.ByDs.{Pending, Below, made, asks, by_ds_reply, by_key_reply}
use Rattle.dsec_nodes.specs.Walk.{by_anchor_reply, finished, Reached, held_keys, goes_on, way, node_of, may_stand}
use Rattle.dsec_nodes.specs.Machine.{started, Question, Phase, gets, asks_first, asks_keys, puts, ends, Walking, node_get, node_put, done, Input, name_at, in_phase, is_further, ahead_from, ahead, with_got, asking, given, heard, with_node, made_by, making, below_by, first_reply, key_reply, replied, advanced, IsFurther, IsAhead, Answers}
use Rattle.dsec_nodes.specs.Likeness.{Likeness, seen, Alike}
use Rattle.dsec_nodes.specs.InStep.{AskedOf, Goes, GotOf, InStep, PendingIs, ReachedIs}
use Rattle.dsec_nodes.specs.Taking.{counts}
use Rattle.dsec_nodes.proofs.AnswerCases.{each_answer}
use Rattle.dsec_nodes.proofs.TakingLaws.{taken}
use Rattle.dsec_nodes.proofs.WayLaws.{ended}
use Rattle.dsec_nodes.proofs.AlikeLaws.{goes_alike}
use Rattle.dsec_nodes.proofs.NextLaws.{NextIs, got_next, made_stands, put_is, bogus_is}

-- the last of a list that all are
pub all_last : {A : Type 0} (P : A → Type 0) (xs : List A) (x : A) → AllByRecursion P (xs ++ x ∷ []) → AllByRecursion P xs × P x
all_last P [] x h = (tt, h.0)
all_last P (y ∷ ys) x h = let r = all_last P ys x h.1 in ((h.0, r.0), r.1)

-- a walk whose phase is left open
pub record Stands (w : World) (s : Walking) : Type 0 where
  pub below : s.top ≡ take (length s.top) s.target
  pub shorter : length s.top ≤ length s.target
  pub reached_is : (like : Likeness) (replies : Replies) → AskedOf replies s.asked → GotOf like w replies s.top s.got
      → ReachedIs like w replies s s.reached

-- a walk that doesn't go on has reached the name's node
at_end : (like : Likeness) (w : World) (replies : Replies) (s : Walking) (r : Reached) → is_further s r ≡ false
    → ReachedIs like w replies s (Some r) → Alike like (node_of w replies s.top s.target) r.node
at_end like w replies s r e f = by (goes_on r.node) refl e
  where
    last : length s.target - length s.top ≡ f.0 → Alike like (node_of w replies s.top s.target) r.node
    last same = ap (λ (m : ℕ). seen like (way w replies s.top s.target m).node) same ∙ f.3.1

    by : (b : Bool) → goes_on r.node ≡ b → (b && nat_le (length s.top + s.behind) (length s.target)) ≡ false
        → Alike like (node_of w replies s.top s.target) r.node
    by true g h = let over = leb-false (length s.top + s.behind) (length s.target) h in last (omega (arith, over, f.1, f.2))
    by false g h =
        let rest : length s.target - length s.top ≡ f.0 + (length s.target - length s.top - f.0) = omega (arith, f.2) in
        let ends_there : goes_on (way w replies s.top s.target f.0).node ≡ false = goes_alike like (way w replies s.top s.target f.0).node r.node f.3.1 ∙ g in
        ap (λ (m : ℕ). seen like (way w replies s.top s.target m).node) rest
        ∙ (ap (λ (x : Reached). seen like x.node) (ended w replies s.top s.target f.0 (length s.target - length s.top - f.0) ends_there) ∙ f.3.1)

-- the next step from what is reached is the recursion's
pub ahead_goes : (w : World) (s : Walking) → Stands w s → Goes w (ahead s)
ahead_goes w s h = by s.reached refl
  where
    to_next : (o : Option Reached) → s.reached ≡ o → IsFurther s o → Goes w (in_phase s gets, node_get (name_at s))
    to_next o e f = record {
      in_step = record { below = h.below; shorter = h.shorter; is_ahead = subst (λ (x : Option Reached). IsFurther s x) (sym e) f; agrees = λ like replies a g. (h.reached_is like replies a g, tt) };
      says = λ like replies a g. refl;
    }

    by_further : (r : Reached) → s.reached ≡ Some r → (b : Bool) → is_further s r ≡ b
        → Goes w (cond b (in_phase s gets, node_get (name_at s)) (in_phase s ends, done r.node))
    by_further r e true f = to_next (Some r) e f
    by_further r e false f = record {
      in_step = record { below = h.below; shorter = h.shorter; is_ahead = tt; agrees = λ like replies a g. (h.reached_is like replies a g, tt) };
      says = λ like replies a g. at_end like w replies s r f (subst (λ (x : Option Reached). ReachedIs like w replies s x) e (h.reached_is like replies a g));
    }

    by : (o : Option Reached) → s.reached ≡ o → Goes w (ahead_from s o)
    by None e = to_next None e tt
    by (Some r) e = by_further r e (is_further s r) refl

-- what the replies of a table say of a walk
pub record Facts (like : Likeness) (w : World) (replies : Replies) (s : Walking) (n : Node) : Type 0 where
  pub reached_is : ReachedIs like w replies s s.reached
  pub next_is : NextIs like w replies s s.reached n

-- the step after a node that the recursion makes next is the recursion's
making_goes : (w : World) (s : Walking) (asked : List Question) (n : Node) → s.top ≡ take (length s.top) s.target
    → length s.top ≤ length s.target → IsFurther s s.reached
    → ((like : Likeness) (replies : Replies) → AskedOf replies asked → GotOf like w replies s.top s.got → Facts like w replies s n)
    → Goes w (making s asked n)
making_goes w s asked n below le further facts = by n.standing refl
  where
    put : Goes w (with_node s asked n puts, node_put (name_at s) n)
    put = record {
      in_step = record {
        below = below;
        shorter = le;
        is_ahead = tt;
        agrees = λ like replies a g. let f = facts like replies a g in (made_stands like w replies s s.reached n below le f.reached_is further f.next_is, tt);
      };
      says = λ like replies a g. let f = facts like replies a g in put_is like w replies s s.reached n below le f.reached_is further f.next_is;
    }

    by : (x : Standing) → n.standing ≡ x → Goes w (made_by s asked n x)
    by (apex keys) e = put
    by (within last) e = put
    by (insecure cause signed) e = put
    by (bogus cause) e = record {
      in_step = record {
        below = below;
        shorter = le;
        is_ahead = tt;
        agrees = λ like replies a g. let f = facts like replies a g in (made_stands like w replies s s.reached n below le f.reached_is further f.next_is, tt);
      };
      says = λ like replies a g. let f = facts like replies a g in bogus_is like w replies s s.reached n cause e below le f.reached_is further f.next_is;
    }

-- the phase of a walk that goes on
pub further_by : (s : Walking) (x : Phase) → s.phase ≡ x → IsAhead s s.phase → IsAhead s x
further_by s x e h = subst (IsAhead s) e h

-- a question for the next name stays in step
asking_goes : (w : World) (s : Walking) → InStep w s → IsFurther s s.reached → Goes w (asking s)
asking_goes w s h further = record {
  in_step = record { below = h.below; shorter = h.shorter; is_ahead = further; agrees = λ like replies a g. ((h.agrees like replies a g).0, tt) };
  says = λ like replies a g. (refl, refl);
}

-- so does a node of the table, whether it counts or not
given_goes : (w : World) (s : Walking) (o : Option Node) → InStep w s → IsFurther s s.reached → Goes w (given w s o)
given_goes w s None h further = asking_goes w s h further
given_goes w s (Some n) h further = by (counts w s.top (name_at s) n && may_stand s.reached n.standing) refl
  where
    by : (b : Bool) → (counts w s.top (name_at s) n && may_stand s.reached n.standing) ≡ b
        → Goes w (cond b (ahead (with_got s n)) (asking s))
    by false e = asking_goes w s h further
    by true e =
        let named : n.name ≡ name_at s = (taken w s.top (name_at s) n (and_parts _ _ e).0).named in
        ahead_goes w (with_got s n) (record {
          below = h.below;
          shorter = h.shorter;
          reached_is = λ like replies a g.
              let both = all_last (λ (x : Node). Alike like (way w replies s.top x.name (length x.name - length s.top)).node x) s.got n g in
              let f = (h.agrees like replies a both.0).0 in
              made_stands like w replies s s.reached n h.below h.shorter f further (got_next like w replies s s.reached n h.below h.shorter f further named both.1);
        })

-- the first reply at a name, and the next
first_goes : (w : World) (s : Walking) (octets : Option (List ℕ)) → InStep w s → IsFurther s s.reached
    → Goes w (first_reply w s s.reached octets)
first_goes w s octets h further = by s.reached refl
  where
    asked_before : (replies : Replies) (rtype : ℕ) → AskedOf replies (heard s rtype octets)
        → AskedOf replies s.asked × (replies (name_at s) rtype ≡ octets)
    asked_before replies rtype a = all_last (λ (q : Question). replies q.name q.rtype ≡ q.reply) s.asked (record { name = name_at s; rtype = rtype; reply = octets }) a

    by_below : (r : Reached) → s.reached ≡ Some r → (b : Below)
        → by_ds_reply w r.zone (held_keys r.zone.standing) (name_at s) (read_reply octets) ≡ b → Goes w (below_by s (heard s DS octets) b)
    by_below r e (made n) f = making_goes w s (heard s DS octets) n h.below h.shorter further (λ like replies a g.
        let before = asked_before replies DS a in
        record {
          reached_is = (h.agrees like replies before.0 g).0;
          next_is = subst (λ (x : Option Reached). NextIs like w replies s x n) (sym e)
              (ap (λ (x : Option (List ℕ)). seen like (finished w replies r.zone (name_at s) (by_ds_reply w r.zone (held_keys r.zone.standing) (name_at s) (read_reply x)))) before.1 ∙ ap (λ (x : Below). seen like (finished w replies r.zone (name_at s) x)) f);
        })
    by_below r e (asks pending) f = record {
      in_step = record {
        below = h.below;
        shorter = h.shorter;
        is_ahead = further;
        agrees = λ like replies a g.
            let before = asked_before replies DS a in (
              (h.agrees like replies before.0 g).0,
              subst (λ (x : Option Reached). PendingIs w replies s (asks_keys pending) x) (sym e)
                  (ap (λ (x : Option (List ℕ)). by_ds_reply w r.zone (held_keys r.zone.standing) (name_at s) (read_reply x)) before.1 ∙ f),
            );
      };
      says = λ like replies a g. (refl, refl);
    }

    by : (o : Option Reached) → s.reached ≡ o → Goes w (first_reply w s o octets)
    by None e = making_goes w s (heard s DNSKEY octets) (by_anchor_reply w s.top (read_reply octets)) h.below h.shorter further (λ like replies a g.
        let before = asked_before replies DNSKEY a in
        let f = (h.agrees like replies before.0 g).0 in
        let none : s.behind ≡ 0 = subst (λ (x : Option Reached). ReachedIs like w replies s x) e f in
        let top : name_at s ≡ s.top = ap (λ (m : ℕ). take m s.target) (let m : length s.top + s.behind ≡ length s.top = omega (arith, none) in m) ∙ sym h.below in
        record {
          reached_is = f;
          next_is = subst (λ (x : Option Reached). NextIs like w replies s x (by_anchor_reply w s.top (read_reply octets))) (sym e)
              (ap (λ (x : Option (List ℕ)). seen like (by_anchor_reply w s.top (read_reply x))) (ap (λ (p : Place). replies p DNSKEY) (sym top) ∙ before.1));
        })
    by (Some r) e = by_below r e (by_ds_reply w r.zone (held_keys r.zone.standing) (name_at s) (read_reply octets)) refl

-- the reply with a key set that a DS set is to admit
key_goes : (w : World) (s : Walking) (pending : Pending) (octets : Option (List ℕ)) → InStep w s → s.phase ≡ asks_keys pending
    → IsFurther s s.reached → Goes w (key_reply w s s.reached pending octets)
key_goes w s pending octets h phase further = by s.reached refl
  where
    by : (o : Option Reached) → s.reached ≡ o → Goes w (key_reply w s o pending octets)
    by None e = record {
      in_step = record { below = h.below; shorter = h.shorter; is_ahead = tt; agrees = λ like replies a g. ((h.agrees like replies a g).0, tt) };
      says = λ like replies a g. refl;
    }
    by (Some r) e = making_goes w s (heard s DNSKEY octets) (by_key_reply w r.zone pending (read_reply octets)) h.below h.shorter further (λ like replies a g.
        let before = all_last (λ (q : Question). replies q.name q.rtype ≡ q.reply) s.asked (record { name = name_at s; rtype = DNSKEY; reply = octets }) a in
        let both = h.agrees like replies before.0 g in
        let ds : by_ds_reply w r.zone (held_keys r.zone.standing) (name_at s) (read_reply (replies (name_at s) DS)) ≡ asks pending =
        subst (λ (x : Option Reached). PendingIs w replies s (asks_keys pending) x) e (subst (λ (x : Phase). PendingIs w replies s x s.reached) phase both.1) in
        record {
          reached_is = both.0;
          next_is = subst (λ (x : Option Reached). NextIs like w replies s x (by_key_reply w r.zone pending (read_reply octets))) (sym e)
              (ap (λ (x : Below). seen like (finished w replies r.zone (name_at s) x)) ds ∙ ap (λ (x : Option (List ℕ)). seen like (by_key_reply w r.zone pending (read_reply x))) before.1);
        })

-- A walk goes on in step with the recursion: where the replies are those of a table and the nodes that were given are of it, each node that is
-- put is of it, and the node that it ends with is the name's.
pub advanced_goes : (w : World) (s : Walking) (input : Input) → InStep w s → Answers s.phase input → Goes w (advanced w s input)
advanced_goes w s input h a = each_answer (λ x i. s.phase ≡ x → Goes w (advanced w s i))
    (λ e. ahead_goes w s standing)
    (λ o e. given_goes w s o h (further_by s gets e h.is_ahead))
    (λ octets e. subst (λ (x : Phase). Goes w (replied w s x octets)) (sym e) (first_goes w s octets h (further_by s asks_first e h.is_ahead)))
    (λ pending octets e. subst (λ (x : Phase). Goes w (replied w s x octets)) (sym e) (key_goes w s pending octets h e (further_by s (asks_keys pending) e h.is_ahead)))
    (λ e. ahead_goes w s standing)
    s.phase input a refl
  where
    standing : Stands w s
    standing = record { below = h.below; shorter = h.shorter; reached_is = λ like replies x g. (h.agrees like replies x g).0 }

-- a walk that hasn't begun is in step
pub started_in_step : (w : World) (top target : Place) → top ≡ take (length top) target → length top ≤ length target
    → InStep w (started top target)
started_in_step w top target below le = record { below = below; shorter = le; is_ahead = tt; agrees = λ like replies a g. (refl, tt) }
