-- A node that a walk puts is kept, counts at the moment of judging, and has an anchor of the island's.
use Rattle.std.proofs.Common.{◌≡◌, ℕ, ◌+◌, ◌&&◌, Bool, true, false, cond, List, length, take, Option, Some, None, refl, sym, ap, ◌∙◌, subst, arith}
use Rattle.dsec_spec.specs.Names.{Place}
use Rattle.dsec_spec.specs.Numbers.{DS, DNSKEY}
use Rattle.dsec_nodes.specs.World.{World}
use Rattle.dsec_nodes.specs.Nodes.{Node, Standing, apex, within, insecure, bogus, IsBogus}
use Rattle.dsec_nodes.specs.Replies.{read_reply}
use Rattle.dsec_nodes.specs.ByDs.{Pending, Below, made, asks, by_ds_reply, by_key_reply}
use Rattle.dsec_nodes.specs.Walk.{by_anchor_reply, Reached, held_keys, may_stand}
use Rattle.dsec_nodes.specs.Taking.{counts, RestsAt}
use Rattle.dsec_nodes.specs.Held.{KeptAt}
use Rattle.dsec_nodes.specs.SoundSteps.{KeptUnder, SoundAt, PendingSound, SoundStep}
use Rattle.dsec_nodes.specs.Machine.{Question, Phase, gets, asks_first, asks_keys, ends, Walking, Step, node_get, node_put, ask, done, Input, name_at, in_phase, is_further, ahead_from, ahead, with_got, asking, given, heard, made_by, making, below_by, first_reply, key_reply, replied, advanced, Answers, IsFurther}
use Rattle.dsec_nodes.proofs.AnswerCases.{each_answer}
use Rattle.dsec_nodes.proofs.ChildLaws.{BelowFollows, ds_reply_below, key_reply_below}
use Rattle.dsec_nodes.proofs.AnchorLaws.{anchor_reply_under}
use Rattle.dsec_nodes.proofs.WalkLaws.{rests_below}
use Rattle.dsec_nodes.proofs.MachineLaws.{further_by}
use Rattle.dsec_nodes.proofs.SoundWalk.{in_zone, next_below}

-- a node that is put under an island is kept, is the name's, and counts
abbrev pub PutUnder : World → Place → Step → Type 0
PutUnder w top (node_put name n) = KeptUnder w top name n × (IsBogus n.standing ≡ false)
PutUnder w top (node_get name) = Unit {0}
PutUnder w top (ask name rtype) = Unit {0}
PutUnder w top (done n) = Unit {0}

-- the next step from what is reached puts nothing
ahead_under : (w : World) (top : Place) (s : Walking) → PutUnder w top (ahead s).1
ahead_under w top s = by s.reached
  where
    by_further : (r : Reached) (b : Bool)
        → PutUnder w top (cond {A = Walking × Step} b (in_phase s gets, node_get (name_at s)) (in_phase s ends, done r.node)).1
    by_further r true = tt
    by_further r false = tt

    by : (o : Option Reached) → PutUnder w top (ahead_from s o).1
    by None = tt
    by (Some r) = by_further r (is_further s r)

-- a node that was made is put, unless it is bogus
making_under : (w : World) (s : Walking) (asked : List Question) (n : Node) → KeptUnder w s.top (name_at s) n
    → PutUnder w s.top (making s asked n).1
making_under w s asked n k = by n.standing refl
  where
    by : (x : Standing) → n.standing ≡ x → PutUnder w s.top (made_by s asked n x).1
    by (apex keys) e = (k, ap IsBogus e)
    by (within last) e = (k, ap IsBogus e)
    by (insecure cause signed) e = (k, ap IsBogus e)
    by (bogus cause) e = tt

-- the node of the first reply at a name
first_under : (w : World) (s : Walking) (octets : Option (List ℕ)) → SoundStep w s → IsFurther s s.reached
    → PutUnder w s.top (first_reply w s s.reached octets).1
first_under w s octets h further = by s.reached refl
  where
    by_below : (r : Reached) → RestsAt w.anchors s.top r.zone → (b : Below)
        → BelowFollows w r.zone (held_keys r.zone.standing) (name_at s) b → PutUnder w s.top (below_by s (heard s DS octets) b).1
    by_below r z (made n) k = making_under w s (heard s DS octets) n (k.0, rests_below w.anchors s.top r.zone n z k.1, k.2)
    by_below r z (asks pending) k = tt

    by : (o : Option Reached) → s.reached ≡ o → PutUnder w s.top (first_reply w s o octets).1
    by None e =
        let none : s.behind ≡ 0 = subst (SoundAt w s) e h.on_way in
        let top : s.top ≡ name_at s = h.below ∙ ap (λ (m : ℕ). take m s.target) (let m : length s.top ≡ length s.top + s.behind = omega (arith, none) in m) in
        making_under w s (heard s DNSKEY octets) (by_anchor_reply w s.top (read_reply octets))
        (subst (λ (p : Place). KeptUnder w s.top p (by_anchor_reply w s.top (read_reply octets))) top (anchor_reply_under w s.top (read_reply octets)))
    by (Some r) e =
        let f = subst (SoundAt w s) e h.on_way in
        let g = subst (IsFurther s) e further in
        let z = in_zone w s r f g in
        by_below r z.zone_rests (by_ds_reply w r.zone (held_keys r.zone.standing) (name_at s) (read_reply octets))
        (ds_reply_below w r.zone (held_keys r.zone.standing) (name_at s) (read_reply octets) z.zone_held (next_below w s r f h.shorter g))

-- the node of the reply with a key set
key_under : (w : World) (s : Walking) (pending : Pending) (octets : Option (List ℕ)) → SoundStep w s
    → PendingSound w s (asks_keys pending) s.reached → IsFurther s s.reached → PutUnder w s.top (key_reply w s s.reached pending octets).1
key_under w s pending octets h p further = by s.reached refl
  where
    by : (o : Option Reached) → s.reached ≡ o → PutUnder w s.top (key_reply w s o pending octets).1
    by None e = tt
    by (Some r) e =
        let f = subst (SoundAt w s) e h.on_way in
        let g = subst (IsFurther s) e further in
        let q = subst (PendingSound w s (asks_keys pending)) e p in
        let z = in_zone w s r f g in
        let n = by_key_reply w r.zone pending (read_reply octets) in
        let k = key_reply_below w r.zone (held_keys r.zone.standing) pending (read_reply octets) z.zone_held q.0 in
        making_under w s (heard s DNSKEY octets) n (subst (λ (x : Place). KeptAt w x n) q.1 k.0, rests_below w.anchors s.top r.zone n z.zone_rests k.1, k.2)

-- a node that was kept is not put again
given_under : (w : World) (s : Walking) (o : Option Node) → PutUnder w s.top (given w s o).1
given_under w s None = tt
given_under w s (Some n) = by (counts w s.top (name_at s) n && may_stand s.reached n.standing)
  where
    by : (b : Bool) → PutUnder w s.top (cond {A = Walking × Step} b (ahead (with_got s n)) (asking s)).1
    by true = ahead_under w s.top (with_got s n)
    by false = tt

-- a node that a sound walk puts is kept, is the name's, counts, and has an anchor of the island's
pub put_under : (w : World) (s : Walking) (input : Input) → SoundStep w s → Answers s.phase input → PutUnder w s.top (advanced w s input).1
put_under w s input h a = each_answer (λ x i. s.phase ≡ x → PutUnder w s.top (advanced w s i).1)
    (λ e. ahead_under w s.top s)
    (λ o e. given_under w s o)
    (λ octets e. subst (λ (x : Phase). PutUnder w s.top (replied w s x octets).1) (sym e) (first_under w s octets h (further_by s asks_first e h.is_ahead)))
    (λ pending octets e. subst (λ (x : Phase). PutUnder w s.top (replied w s x octets).1) (sym e)
    (key_under w s pending octets h (subst (λ (x : Phase). PendingSound w s x s.reached) e h.pends) (further_by s (asks_keys pending) e h.is_ahead)))
    (λ e. ahead_under w s.top s)
    s.phase input a refl
