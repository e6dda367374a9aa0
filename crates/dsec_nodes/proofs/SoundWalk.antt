-- A walk makes and ends with kept nodes alone, whatever kept nodes it is given, from whichever moment.
use Rattle.std.proofs.Common.{◌≡◌, ℕ, suc, ◌+◌, ◌≤◌, ◌&&◌, Bool, true, false, cond, List, length, take, Option, Some, None, refl, sym, ap, ◌∙◌, subst, arith}
use Rattle.std.proofs.lemmas.Bool.{false≢true, and_parts, leb-true}
use Rattle.dsec_spec.specs.Names.{Place, IsStrictlyBelow}
use Rattle.dsec_spec.specs.Numbers.{DS, DNSKEY}
use Rattle.dsec_spec.specs.Chain.{Link}
use Rattle.dsec_nodes.specs.World.{World}
use Rattle.dsec_nodes.specs.Nodes.{Node, Standing, apex, within, insecure, bogus}
use Rattle.dsec_nodes.specs.Replies.{read_reply}
use Rattle.dsec_nodes.specs.ByDs.{Pending, Below, made, asks, by_ds_reply, by_key_reply}
use Rattle.dsec_nodes.specs.Walk.{by_anchor_reply, Reached, held_keys, after, may_stand}
use Rattle.dsec_nodes.specs.Machine.{started, Question, Phase, begins, gets, asks_first, asks_keys, puts, ends, Walking, node_get, node_put, done, Input, begin, node, stored, reply, name_at, arrived, in_phase, is_further, ahead_from, ahead, with_got, asking, given, heard, with_node, made_by, making, below_by, first_reply, key_reply, replied, advanced, IsFurther, Answers}
use Rattle.dsec_nodes.specs.Taking.{counts}
use Rattle.dsec_nodes.specs.Held.{KeptAt}
use Rattle.dsec_nodes.specs.Taking.{RestsAt}
use Rattle.dsec_nodes.specs.SoundSteps.{KeptUnder, InZone, OnTheWay, SoundAt, PendingSound, SoundStep, InputKept, Sound}
use Rattle.dsec_nodes.proofs.ChildLaws.{BelowFollows, ds_reply_below, key_reply_below}
use Rattle.dsec_nodes.proofs.AnchorLaws.{anchor_reply_under, anchor_reply_not_within}
use Rattle.dsec_nodes.proofs.WalkLaws.{rests_below, strictly_taken, after_kept, first_kept}
use Rattle.dsec_nodes.proofs.TakingLaws.{taken}
use Rattle.dsec_nodes.proofs.MachineLaws.{further_by}

-- the parts of a walk that don't depend on its phase
pub record Whole (w : World) (s : Walking) : Type 0 where
  pub below : s.top ≡ take (length s.top) s.target
  pub shorter : length s.top ≤ length s.target
  pub on_way : SoundAt w s s.reached

-- a sound walk without its phase
whole : (w : World) (s : Walking) → SoundStep w s → Whole w s
whole w s h = record { below = h.below; shorter = h.shorter; on_way = h.on_way }

-- the name that is next is within the target
pub fits : (w : World) (s : Walking) (o : Option Reached) → length s.top ≤ length s.target → SoundAt w s o → IsFurther s o
    → length s.top + s.behind ≤ length s.target
fits w s None le f g = omega (arith, le, f)
fits w s (Some r) le f g = leb-true (length s.top + s.behind) (length s.target) (and_parts _ _ g).1

-- a walk that goes on is in a zone that is held
pub in_zone : (w : World) (s : Walking) (r : Reached) (f : SoundAt w s (Some r)) → IsFurther s (Some r)
    → InZone w s.top s.target (length s.top + f.0) r
in_zone w s r f g = f.3.in_zone (and_parts _ _ g).0

-- the name that is next is strictly below the last zone
pub next_below : (w : World) (s : Walking) (r : Reached) (f : SoundAt w s (Some r)) → length s.top ≤ length s.target → IsFurther s (Some r)
    → IsStrictlyBelow (name_at s) r.zone.signer
next_below w s r f le g =
    let z = in_zone w s r f g in
    subst (λ (p : Place). IsStrictlyBelow (name_at s) p) (sym z.is) (strictly_taken s.target z.count (length s.top + s.behind) (omega (arith, z.at_most, f.1)) (fits w s (Some r) le f g))

-- a kept node at the next name is on the way
arrives : (w : World) (s : Walking) (o : Option Reached) (n : Node) → s.top ≡ take (length s.top) s.target → length s.top ≤ length s.target
    → SoundAt w s o → IsFurther s o → may_stand o n.standing ≡ true → KeptUnder w s.top (name_at s) n
    → OnTheWay w s.top s.target (length s.top + s.behind) (arrived o n)
arrives w s None n below le f g may k =
    let top : name_at s ≡ s.top = ap (λ (m : ℕ). take m s.target) (let m : length s.top + s.behind ≡ length s.top = omega (arith, f) in m) ∙ sym below in
    let never : (last : Link) → n.standing ≡ within last → ⊥ = λ last e. false≢true (sym (ap (may_stand None) e) ∙ may) in
    let count : length s.top ≡ length s.top + s.behind = omega (arith, f) in
    subst (λ (m : ℕ). OnTheWay w s.top s.target m (record { zone = n; node = n })) count (first_kept w s.top s.target n n.standing refl never below (subst (λ (p : Place). KeptUnder w s.top p n) top k))
arrives w s (Some r) n below le f g may k =
    let one : suc (length s.top + f.0) ≡ length s.top + s.behind = omega (arith, f.1) in
    subst (λ (m : ℕ). OnTheWay w s.top s.target m (after r.zone n n.standing)) one
    (after_kept w s.top s.target (length s.top + f.0) r n n.standing refl (in_zone w s r f g) (subst (λ (m : ℕ). KeptUnder w s.top (take m s.target) n) (sym one) k))

-- the next step from what is reached is sound
ahead_sound : (w : World) (s : Walking) → Whole w s → Sound w (ahead s)
ahead_sound w s h = by s.reached refl
  where
    to_next : (o : Option Reached) → s.reached ≡ o → IsFurther s o → Sound w (in_phase s gets, node_get (name_at s))
    to_next o e f = (record { below = h.below; shorter = h.shorter; is_ahead = subst (λ (x : Option Reached). IsFurther s x) (sym e) f; on_way = h.on_way; pends = tt }, tt)

    by_further : (r : Reached) → s.reached ≡ Some r → (b : Bool) → is_further s r ≡ b
        → Sound w (cond b (in_phase s gets, node_get (name_at s)) (in_phase s ends, done r.node))
    by_further r e true f = to_next (Some r) e f
    by_further r e false f =
        let at = subst (SoundAt w s) e h.on_way in
        (record { below = h.below; shorter = h.shorter; is_ahead = tt; on_way = h.on_way; pends = tt }, (at.3.node_kept, at.3.node_rests))

    by : (o : Option Reached) → s.reached ≡ o → Sound w (ahead_from s o)
    by None e = to_next None e tt
    by (Some r) e = by_further r e (is_further s r) refl

-- so is the step after a kept node was made
making_sound : (w : World) (s : Walking) (asked : List Question) (n : Node) → Whole w s → IsFurther s s.reached
    → may_stand s.reached n.standing ≡ true → KeptUnder w s.top (name_at s) n → Sound w (making s asked n)
making_sound w s asked n h further may k = by n.standing
  where
    there : (kk : ℕ) × (suc s.behind ≡ suc kk) × (length s.top + kk ≤ length s.target) × OnTheWay w s.top s.target (length s.top + kk) (arrived s.reached n)
    there = (s.behind, refl, fits w s s.reached h.shorter h.on_way further, arrives w s s.reached n h.below h.shorter h.on_way further may k)

    put : Sound w (with_node s asked n puts, node_put (name_at s) n)
    put = (record { below = h.below; shorter = h.shorter; is_ahead = tt; on_way = there; pends = tt }, (k.0.0, k.1))

    by : (x : Standing) → Sound w (made_by s asked n x)
    by (apex keys) = put
    by (within last) = put
    by (insecure cause signed) = put
    by (bogus cause) = (record { below = h.below; shorter = h.shorter; is_ahead = tt; on_way = there; pends = tt }, (k.0.0, k.1))

-- so is a question for the next name
asking_sound : (w : World) (s : Walking) → Whole w s → IsFurther s s.reached → Sound w (asking s)
asking_sound w s h further = (record { below = h.below; shorter = h.shorter; is_ahead = further; on_way = h.on_way; pends = tt }, tt)

-- and a kept node, whether it counts or not
given_sound : (w : World) (s : Walking) (o : Option Node) → Whole w s → IsFurther s s.reached → InputKept w (node o) → Sound w (given w s o)
given_sound w s None h further i = asking_sound w s h further
given_sound w s (Some n) h further i = by (counts w s.top (name_at s) n && may_stand s.reached n.standing) refl
  where
    by : (b : Bool) → (counts w s.top (name_at s) n && may_stand s.reached n.standing) ≡ b
        → Sound w (cond b (ahead (with_got s n)) (asking s))
    by false e = asking_sound w s h further
    by true e =
        let both = and_parts _ _ e in
        let t = taken w s.top (name_at s) n both.0 in
        let k : KeptUnder w s.top (name_at s) n = ((i, t.named, t.from, t.to), λ _. t.rests, t.within) in
        ahead_sound w (with_got s n) (record {
          below = h.below;
          shorter = h.shorter;
          on_way = (s.behind, refl, fits w s s.reached h.shorter h.on_way further, arrives w s s.reached n h.below h.shorter h.on_way further both.1 k);
        })

-- at the island a walk can stand on any node that isn't within a zone
may_first : (x : Standing) → ((last : Link) → x ≡ within last → ⊥) → may_stand None x ≡ true
may_first (apex keys) never = refl
may_first (within last) never = absurd (never last refl)
may_first (insecure cause signed) never = refl
may_first (bogus cause) never = refl

-- the first reply at a name leads on to what is kept
first_sound : (w : World) (s : Walking) (octets : Option (List ℕ)) → Whole w s → IsFurther s s.reached
    → Sound w (first_reply w s s.reached octets)
first_sound w s octets h further = by s.reached refl
  where
    by_below : (r : Reached) → s.reached ≡ Some r → RestsAt w.anchors s.top r.zone → (b : Below)
        → BelowFollows w r.zone (held_keys r.zone.standing) (name_at s) b → Sound w (below_by s (heard s DS octets) b)
    by_below r e z (made n) k =
        making_sound w s (heard s DS octets) n h further (ap (λ (x : Option Reached). may_stand x n.standing) e)
        (k.0, rests_below w.anchors s.top r.zone n z k.1, k.2)
    by_below r e z (asks pending) k =
        (record { below = h.below; shorter = h.shorter; is_ahead = further; on_way = h.on_way; pends = subst (PendingSound w s (asks_keys pending)) (sym e) k }, tt)

    by : (o : Option Reached) → s.reached ≡ o → Sound w (first_reply w s o octets)
    by None e =
        let n = by_anchor_reply w s.top (read_reply octets) in
        let none : s.behind ≡ 0 = subst (SoundAt w s) e h.on_way in
        let top : s.top ≡ name_at s = h.below ∙ ap (λ (m : ℕ). take m s.target) (let m : length s.top ≡ length s.top + s.behind = omega (arith, none) in m) in
        making_sound w s (heard s DNSKEY octets) n h further (ap (λ (x : Option Reached). may_stand x n.standing) e ∙ may_first n.standing (anchor_reply_not_within w s.top (read_reply octets)))
        (subst (λ (p : Place). KeptUnder w s.top p n) top (anchor_reply_under w s.top (read_reply octets)))
    by (Some r) e =
        let f = subst (SoundAt w s) e h.on_way in
        let g = subst (IsFurther s) e further in
        let z = in_zone w s r f g in
        by_below r e z.zone_rests (by_ds_reply w r.zone (held_keys r.zone.standing) (name_at s) (read_reply octets))
        (ds_reply_below w r.zone (held_keys r.zone.standing) (name_at s) (read_reply octets) z.zone_held (next_below w s r f h.shorter g))

-- so does the reply with a key set that a DS set is to admit
key_sound : (w : World) (s : Walking) (pending : Pending) (octets : Option (List ℕ)) → Whole w s
    → PendingSound w s (asks_keys pending) s.reached → IsFurther s s.reached → Sound w (key_reply w s s.reached pending octets)
key_sound w s pending octets h p further = by s.reached refl
  where
    by : (o : Option Reached) → s.reached ≡ o → Sound w (key_reply w s o pending octets)
    by None e = (record { below = h.below; shorter = h.shorter; is_ahead = tt; on_way = h.on_way; pends = tt }, tt)
    by (Some r) e =
        let n = by_key_reply w r.zone pending (read_reply octets) in
        let f = subst (SoundAt w s) e h.on_way in
        let g = subst (IsFurther s) e further in
        let q = subst (PendingSound w s (asks_keys pending)) e p in
        let z = in_zone w s r f g in
        let k = key_reply_below w r.zone (held_keys r.zone.standing) pending (read_reply octets) z.zone_held q.0 in
        making_sound w s (heard s DNSKEY octets) n h further (ap (λ (x : Option Reached). may_stand x n.standing) e)
        (subst (λ (x : Place). KeptAt w x n) q.1 k.0, rests_below w.anchors s.top r.zone n z.zone_rests k.1, k.2)

-- each step keeps a walk sound, and puts and ends with kept nodes alone
pub advanced_sound : (w : World) (s : Walking) (input : Input) → SoundStep w s → Answers s.phase input → InputKept w input
    → Sound w (advanced w s input)
advanced_sound w s input h a i = by s.phase input refl a i
  where
    by : (x : Phase) (j : Input) → s.phase ≡ x → Answers x j → InputKept w j → Sound w (advanced w s j)
    by begins begin e b k = ahead_sound w s (whole w s h)
    by gets (node o) e b k = given_sound w s o (whole w s h) (further_by s gets e h.is_ahead) k
    by asks_first (reply octets) e b k = subst (λ (x : Phase). Sound w (replied w s x octets)) (sym e) (first_sound w s octets (whole w s h) (further_by s asks_first e h.is_ahead))
    by (asks_keys pending) (reply octets) e b k = subst (λ (x : Phase). Sound w (replied w s x octets)) (sym e)
        (key_sound w s pending octets (whole w s h) (subst (λ (x : Phase). PendingSound w s x s.reached) e h.pends) (further_by s (asks_keys pending) e h.is_ahead))
    by puts stored e b k = ahead_sound w s (whole w s h)
    by begins (node o) e b k = absurd b
    by begins stored e b k = absurd b
    by begins (reply octets) e b k = absurd b
    by gets begin e b k = absurd b
    by gets stored e b k = absurd b
    by gets (reply octets) e b k = absurd b
    by asks_first begin e b k = absurd b
    by asks_first (node o) e b k = absurd b
    by asks_first stored e b k = absurd b
    by (asks_keys pending) begin e b k = absurd b
    by (asks_keys pending) (node o) e b k = absurd b
    by (asks_keys pending) stored e b k = absurd b
    by puts begin e b k = absurd b
    by puts (node o) e b k = absurd b
    by puts (reply octets) e b k = absurd b
    by ends j e b k = absurd b

-- a walk that hasn't begun is sound
pub started_sound : (w : World) (top target : Place) → top ≡ take (length top) target → length top ≤ length target
    → SoundStep w (started top target)
started_sound w top target below le = record { below = below; shorter = le; is_ahead = tt; on_way = refl; pends = tt }
