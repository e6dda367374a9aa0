-- How many questions a walk asks.
use Rattle.std.proofs.Common.{◌≡◌, ℕ, suc, ◌+◌, ◌-◌, ◌*◌, ◌≤◌, ◌&&◌, Bool, true, false, cond, List, [], ◌∷◌, length, Option, Some, None, refl, sym, ap, ◌∙◌, subst, arith, length-append}
use Rattle.std.specs.Prelude.{nat_le}
use Rattle.std.proofs.lemmas.Bool.{and_parts, leb-true}
use Rattle.dsec_spec.specs.Names.{Place}
use Rattle.dsec_spec.specs.Numbers.{DS, DNSKEY}
use Rattle.dsec_nodes.specs.World.{World}
use Rattle.dsec_nodes.specs.Nodes.{Node, Standing, apex, within, insecure, bogus}
use Rattle.dsec_nodes.specs.Replies.{read_reply}
use Rattle.dsec_nodes.specs.ByDs.{Pending, Below, made, asks, by_ds_reply, by_key_reply}
use Rattle.dsec_nodes.specs.Walk.{goes_on, by_anchor_reply, Reached, held_keys, may_stand}
use Rattle.dsec_nodes.specs.Machine.{in_phase, node_get, done, started, Question, Phase, begins, gets, asks_first, asks_keys, puts, ends, Walking, Step, Input, name_at, is_further, ahead, ahead_from, with_got, asking, given, heard, made_by, making, below_by, first_reply, key_reply, replied, advanced, Answers, IsFurther, IsAhead}
use Rattle.dsec_nodes.specs.InStep.{most_asked, one_more, WaitsBelow, HasBegun, IsCounted}
use Rattle.dsec_nodes.specs.SoundSteps.{SoundAt, SoundStep}
use Rattle.dsec_nodes.specs.Taking.{counts}
use Rattle.dsec_nodes.proofs.AnswerCases.{each_answer}

-- the next step from what is reached asks nothing
ahead_counted : (s : Walking) → HasBegun s s.reached → length s.asked ≤ most_asked s.behind → IsCounted (ahead s).0
ahead_counted s b c = by s.reached
  where
    more : length s.asked ≤ most_asked s.behind + 0
    more = omega (arith, c)

    by_further : (x : Bool) (r : Reached)
        → IsCounted (cond {A = Walking × Step} x (in_phase s gets, node_get (name_at s)) (in_phase s ends, done r.node)).0
    by_further true r = record { begun = b; waits = tt; counted = more }
    by_further false r = record { begun = b; waits = tt; counted = more }

    by : (o : Option Reached) → IsCounted (ahead_from s o).0
    by None = record { begun = b; waits = tt; counted = more }
    by (Some r) = by_further (is_further s r) r

-- a question that was heard is one more
heard_one : (s : Walking) (rtype : ℕ) (octets : Option (List ℕ)) → length (heard s rtype octets) ≡ suc (length s.asked)
heard_one s rtype octets =
    let q : Question = record { name = name_at s; rtype = rtype; reply = octets } in
    let one : length s.asked + 1 ≡ suc (length s.asked) = omega arith in
    length-append s.asked (q ∷ []) ∙ one

-- a node that was made leaves one name more behind
making_counted : (s : Walking) (asked : List Question) (n : Node) → length asked ≤ 1 + 2 * s.behind → IsCounted (making s asked n).0
making_counted s asked n c = by n.standing
  where
    more : length asked ≤ most_asked (suc s.behind) + 0
    more = omega (arith, c)

    by : (x : Standing) → IsCounted (made_by s asked n x).0
    by (apex keys) = record { begun = omega arith; waits = tt; counted = more }
    by (within last) = record { begun = omega arith; waits = tt; counted = more }
    by (insecure cause signed) = record { begun = omega arith; waits = tt; counted = more }
    by (bogus cause) = record { begun = omega arith; waits = tt; counted = more }

-- the first reply at a name
first_counted : (w : World) (s : Walking) (octets : Option (List ℕ)) → HasBegun s s.reached → length s.asked ≤ most_asked s.behind
    → IsCounted (first_reply w s s.reached octets).0
first_counted w s octets b c = by s.reached refl
  where
    by_below : (r : Reached) → s.reached ≡ Some r → (x : Below) → IsCounted (below_by s (heard s DS octets) x).0
    by_below r e (made n) = making_counted s (heard s DS octets) n (omega (arith, heard_one s DS octets, c))
    by_below r e (asks pending) =
        let behind : 1 ≤ s.behind = subst (HasBegun s) e b in
        record {
          begun = b;
          waits = subst (λ (x : Option Reached). WaitsBelow (asks_keys pending) x) (sym e) tt;
          counted = omega (arith, heard_one s DS octets, c, behind);
        }

    by : (o : Option Reached) → s.reached ≡ o → IsCounted (first_reply w s o octets).0
    by None e = making_counted s (heard s DNSKEY octets) (by_anchor_reply w s.top (read_reply octets)) (omega (arith, heard_one s DNSKEY octets, c))
    by (Some r) e = by_below r e (by_ds_reply w r.zone (held_keys r.zone.standing) (name_at s) (read_reply octets))

-- the reply with a key set that a DS set is to admit
key_counted : (w : World) (s : Walking) (pending : Pending) (octets : Option (List ℕ)) → HasBegun s s.reached
    → length s.asked ≤ most_asked s.behind + 1 → (o : Option Reached) → s.reached ≡ o → WaitsBelow (asks_keys pending) o
    → IsCounted (key_reply w s o pending octets).0
key_counted w s pending octets b c None e waits = absurd waits
key_counted w s pending octets b c (Some r) e waits =
    let behind : 1 ≤ s.behind = subst (HasBegun s) e b in
    making_counted s (heard s DNSKEY octets) (by_key_reply w r.zone pending (read_reply octets)) (omega (arith, heard_one s DNSKEY octets, c, behind))

-- a node that was kept asks nothing
given_counted : (w : World) (s : Walking) (o : Option Node) → HasBegun s s.reached → length s.asked ≤ most_asked s.behind
    → IsCounted (given w s o).0
given_counted w s None b c = record { begun = b; waits = tt; counted = omega (arith, c) }
given_counted w s (Some n) b c = by (counts w s.top (name_at s) n && may_stand s.reached n.standing)
  where
    by : (x : Bool) → IsCounted (cond {A = Walking × Step} x (ahead (with_got s n)) (asking s)).0
    by false = record { begun = b; waits = tt; counted = omega (arith, c) }
    by true = ahead_counted (with_got s n) (omega arith) (omega (arith, c))

-- each step keeps the count
pub advanced_counted : (w : World) (s : Walking) (input : Input) → IsCounted s → Answers s.phase input → IsCounted (advanced w s input).0
advanced_counted w s input h a = each_answer (λ x i. s.phase ≡ x → IsCounted (advanced w s i).0)
    (λ e. ahead_counted s h.begun (plain begins e refl))
    (λ o e. given_counted w s o h.begun (plain gets e refl))
    (λ octets e. subst (λ (x : Phase). IsCounted (replied w s x octets).0) (sym e) (first_counted w s octets h.begun (plain asks_first e refl)))
    (λ pending octets e. let one : one_more s.phase ≡ 1 = ap one_more e in
    subst (λ (x : Phase). IsCounted (replied w s x octets).0) (sym e)
    (key_counted w s pending octets h.begun (omega (arith, h.counted, one)) s.reached refl
    (subst (λ (x : Phase). WaitsBelow x s.reached) e h.waits)))
    (λ e. ahead_counted s h.begun (plain puts e refl))
    s.phase input a refl
  where
    plain : (x : Phase) → s.phase ≡ x → one_more x ≡ 0 → length s.asked ≤ most_asked s.behind
    plain x e none = let more = ap one_more e ∙ none in omega (arith, h.counted, more)

-- a walk that hasn't begun has asked nothing
pub started_counted : (top target : Place) → IsCounted (started top target)
started_counted top target = record { begun = tt; waits = tt; counted = omega arith }

-- a walk to a name asks at most one question at its island, and two at each name below it down to the name
pub asked_at_most : (w : World) (s : Walking) → SoundStep w s → IsCounted s → length s.asked ≤ 1 + 2 * (length s.target - length s.top)
asked_at_most w s h c = by s.phase refl s.reached refl
  where
    fits : (o : Option Reached) → s.reached ≡ o → s.behind ≤ length s.target - length s.top + 1
    fits None e = let none : s.behind ≡ 0 = subst (SoundAt w s) e h.on_way in omega (arith, none)
    fits (Some r) e = let at = subst (SoundAt w s) e h.on_way in omega (arith, at.1, at.2)

    plain : (x : Phase) → s.phase ≡ x → one_more x ≡ 0 → length s.asked ≤ 1 + 2 * (length s.target - length s.top)
    plain x e none = let more = ap one_more e ∙ none in omega (arith, c.counted, more, fits s.reached refl)

    by : (x : Phase) → s.phase ≡ x → (o : Option Reached) → s.reached ≡ o → length s.asked ≤ 1 + 2 * (length s.target - length s.top)
    by begins e o f = plain begins e refl
    by gets e o f = plain gets e refl
    by asks_first e o f = plain asks_first e refl
    by puts e o f = plain puts e refl
    by ends e o f = plain ends e refl
    by (asks_keys pending) e None f =
        absurd (subst (λ (x : Option Reached). WaitsBelow (asks_keys pending) x) f (subst (λ (x : Phase). WaitsBelow x s.reached) e c.waits))
    by (asks_keys pending) e (Some r) f =
        let one : one_more s.phase ≡ 1 = ap one_more e in
        let ahead : IsFurther s s.reached = subst (IsAhead s) e h.is_ahead in
        let further : is_further s r ≡ true = subst (IsFurther s) f ahead in
        let parts = and_parts (goes_on r.node) (nat_le (length s.top + s.behind) (length s.target)) further in
        let le : length s.top + s.behind ≤ length s.target = leb-true (length s.top + s.behind) (length s.target) parts.1 in
        let behind : 1 ≤ s.behind = subst (HasBegun s) f c.begun in
        omega (arith, c.counted, one, le, behind)
