-- A walk that ends with a zone's node, or with one within a zone, has come to its target.
use Rattle.std.proofs.Common.{◌≡◌, ℕ, suc, ◌+◌, ◌-◌, ◌≤◌, ◌&&◌, Bool, true, false, cond, List, length, take, Option, Some, None, refl, sym, ap, ◌∙◌, subst, arith}
use Rattle.std.proofs.lemmas.Bool.{false≢true, and_parts, leb-false}
use Rattle.std.proofs.lemmas.List.{take_all}
use Rattle.std.specs.Prelude.{nat_le}
use Rattle.dsec_spec.specs.Names.{Place, IsStrictlyBelow}
use Rattle.dsec_spec.specs.Numbers.{DS, DNSKEY}
use Rattle.dsec_nodes.specs.World.{World}
use Rattle.dsec_nodes.specs.Nodes.{Node, Standing, apex, within, insecure, bogus}
use Rattle.dsec_nodes.specs.Replies.{read_reply}
use Rattle.dsec_nodes.specs.ByDs.{Pending, Below, made, asks, by_ds_reply, by_key_reply}
use Rattle.dsec_nodes.specs.Walk.{by_anchor_reply, Reached, held_keys, goes_on, goes_on_at, may_stand}
use Rattle.dsec_nodes.specs.Taking.{counts}
use Rattle.dsec_nodes.specs.SoundSteps.{SoundAt, PendingSound, SoundStep}
use Rattle.dsec_nodes.specs.Machine.{Question, Phase, gets, asks_first, asks_keys, ends, Walking, Step, node_get, node_put, ask, done, Input, name_at, arrived, in_phase, is_further, ahead_from, ahead, with_got, asking, given, heard, made_by, making, below_by, first_reply, key_reply, replied, advanced, Answers, IsFurther}
use Rattle.dsec_nodes.proofs.AnswerCases.{each_answer}
use Rattle.dsec_nodes.proofs.AnchorLaws.{anchor_reply_under}
use Rattle.dsec_nodes.proofs.ChildLaws.{BelowFollows, ds_reply_below, key_reply_below}
use Rattle.dsec_nodes.proofs.MachineLaws.{further_by}
use Rattle.dsec_nodes.proofs.NextLaws.{arrived_node}
use Rattle.dsec_nodes.proofs.TakingLaws.{taken}
use Rattle.dsec_nodes.proofs.WalkLaws.{strictly_taken}
use Rattle.dsec_nodes.proofs.SoundWalk.{fits}

-- what is reached is the node of the last name that is behind
abbrev pub IsNamed : Walking → Option Reached → Type 0
IsNamed s None = Unit {0}
IsNamed s (Some r) = r.node.name ≡ take (length s.top + (s.behind - 1)) s.target

-- where something is reached, a name is behind, and no more than there are
abbrev pub IsWithinTarget : Walking → Option Reached → Type 0
IsWithinTarget s None = Unit {0}
IsWithinTarget s (Some r) = (1 ≤ s.behind) × (length s.top + (s.behind - 1) ≤ length s.target)

-- a walk ends at its target, where its node is Secure
abbrev pub EndsAtTarget : Walking → Step → Type 0
EndsAtTarget s (done n) = goes_on n ≡ true → n.name ≡ s.target
EndsAtTarget s (node_get name) = Unit {0}
EndsAtTarget s (node_put name n) = Unit {0}
EndsAtTarget s (ask name rtype) = Unit {0}

-- a walk with its next step
pub record Names (p : Walking × Step) : Type 0 where
  pub named : IsNamed p.0 p.0.reached
  pub at_end : EndsAtTarget p.0 p.1

-- a sound walk has so many names behind it
within_target : (w : World) (s : Walking) (o : Option Reached) → SoundAt w s o → IsWithinTarget s o
within_target w s None f = tt
within_target w s (Some r) f = (omega (arith, f.1), omega (arith, f.1, f.2))

-- the next step from what is reached
ahead_names : (s : Walking) → IsNamed s s.reached → IsWithinTarget s s.reached → Names (ahead s)
ahead_names s h f = by s.reached refl
  where
    at_target : (r : Reached) → s.reached ≡ Some r → is_further s r ≡ false → goes_on r.node ≡ true → r.node.name ≡ s.target
    at_target r e stop on =
        let named : r.node.name ≡ take (length s.top + (s.behind - 1)) s.target = subst (IsNamed s) e h in
        let fit : (1 ≤ s.behind) × (length s.top + (s.behind - 1) ≤ length s.target) = subst (IsWithinTarget s) e f in
        let last : nat_le (length s.top + s.behind) (length s.target) ≡ false = sym (ap (λ (b : Bool). b && nat_le (length s.top + s.behind) (length s.target)) on) ∙ stop in
        let over = leb-false (length s.top + s.behind) (length s.target) last in
        let all : length s.target ≤ length s.top + (s.behind - 1) = omega (arith, over, fit.0) in
        named ∙ take_all (length s.top + (s.behind - 1)) s.target all

    by_further : (r : Reached) → s.reached ≡ Some r → (b : Bool) → is_further s r ≡ b
        → Names (cond {A = Walking × Step} b (in_phase s gets, node_get (name_at s)) (in_phase s ends, done r.node))
    by_further r e true g = record { named = h; at_end = tt }
    by_further r e false g = record { named = h; at_end = at_target r e g }

    by : (o : Option Reached) → s.reached ≡ o → Names (ahead_from s o)
    by None e = record { named = h; at_end = tt }
    by (Some r) e = by_further r e (is_further s r) refl

-- the name of a node that is reached at the next name
next_named : (s : Walking) (o : Option Reached) (n : Node) → n.name ≡ name_at s → (arrived o n).node.name ≡ take (length s.top + (suc s.behind - 1)) s.target
next_named s o n e =
    let same : length s.top + s.behind ≡ length s.top + (suc s.behind - 1) = omega arith in
    ap (λ (x : Node). x.name) (arrived_node o n) ∙ (e ∙ ap (λ (k : ℕ). take k s.target) same)

-- the step after a node was made of the next name
making_names : (s : Walking) (asked : List Question) (n : Node) → n.name ≡ name_at s → Names (making s asked n)
making_names s asked n e = by n.standing refl
  where
    named : (arrived s.reached n).node.name ≡ take (length s.top + (suc s.behind - 1)) s.target
    named = next_named s s.reached n e

    by : (x : Standing) → n.standing ≡ x → Names (made_by s asked n x)
    by (apex keys) f = record { named = named; at_end = tt }
    by (within last) f = record { named = named; at_end = tt }
    by (insecure cause signed) f = record { named = named; at_end = tt }
    by (bogus cause) f = record { named = named; at_end = λ on. absurd (false≢true (sym (ap (goes_on_at n.name) f) ∙ on)) }

-- a node that was kept counts or is passed over
given_names : (w : World) (s : Walking) (o : Option Node) → IsNamed s s.reached → length s.top + s.behind ≤ length s.target → Names (given w s o)
given_names w s None h fit = record { named = h; at_end = tt }
given_names w s (Some n) h fit = by (counts w s.top (name_at s) n && may_stand s.reached n.standing) refl
  where
    by : (b : Bool) → (counts w s.top (name_at s) n && may_stand s.reached n.standing) ≡ b
        → Names (cond {A = Walking × Step} b (ahead (with_got s n)) (asking s))
    by false e = record { named = h; at_end = tt }
    by true e =
        let t = taken w s.top (name_at s) n (and_parts _ _ e).0 in
        ahead_names (with_got s n) (next_named s s.reached n t.named) (omega arith, omega (arith, fit))

-- the first reply at a name
first_names : (w : World) (s : Walking) (octets : Option (List ℕ)) → SoundStep w s → IsFurther s s.reached → IsNamed s s.reached
    → Names (first_reply w s s.reached octets)
first_names w s octets h further is = by s.reached refl
  where
    by_below : (r : Reached) (b : Below) → BelowFollows w r.zone (held_keys r.zone.standing) (name_at s) b
        → Names (below_by s (heard s DS octets) b)
    by_below r (made n) k = making_names s (heard s DS octets) n k.0.1
    by_below r (asks pending) k = record { named = is; at_end = tt }

    by : (o : Option Reached) → s.reached ≡ o → Names (first_reply w s o octets)
    by None e =
        let none : s.behind ≡ 0 = subst (SoundAt w s) e h.on_way in
        let top : s.top ≡ name_at s = h.below ∙ ap (λ (m : ℕ). take m s.target) (let m : length s.top ≡ length s.top + s.behind = omega (arith, none) in m) in
        making_names s (heard s DNSKEY octets) (by_anchor_reply w s.top (read_reply octets)) ((anchor_reply_under w s.top (read_reply octets)).0.1 ∙ top)
    by (Some r) e =
        let f = subst (SoundAt w s) e h.on_way in
        let g = subst (IsFurther s) e further in
        let z = f.3.in_zone (and_parts _ _ g).0 in
        let below = subst (λ (p : Place). IsStrictlyBelow (name_at s) p) (sym z.is) (strictly_taken s.target z.count (length s.top + s.behind) (omega (arith, z.at_most, f.1)) (fits w s (Some r) h.shorter f g)) in
        by_below r (by_ds_reply w r.zone (held_keys r.zone.standing) (name_at s) (read_reply octets))
        (ds_reply_below w r.zone (held_keys r.zone.standing) (name_at s) (read_reply octets) z.zone_held below)

-- the reply with a key set
key_names : (w : World) (s : Walking) (pending : Pending) (octets : Option (List ℕ)) → SoundStep w s
    → PendingSound w s (asks_keys pending) s.reached → IsFurther s s.reached → IsNamed s s.reached → Names (key_reply w s s.reached pending octets)
key_names w s pending octets h p further is = by s.reached refl
  where
    by : (o : Option Reached) → s.reached ≡ o → Names (key_reply w s o pending octets)
    by None e = record { named = is; at_end = tt }
    by (Some r) e =
        let f = subst (SoundAt w s) e h.on_way in
        let g = subst (IsFurther s) e further in
        let q = subst (PendingSound w s (asks_keys pending)) e p in
        let z = f.3.in_zone (and_parts _ _ g).0 in
        let k = key_reply_below w r.zone (held_keys r.zone.standing) pending (read_reply octets) z.zone_held q.0 in
        making_names s (heard s DNSKEY octets) (by_key_reply w r.zone pending (read_reply octets)) (k.0.1 ∙ q.1)

-- each step of a sound walk reaches the node of the next name, and ends at the target where its node is Secure
pub advanced_names : (w : World) (s : Walking) (input : Input) → SoundStep w s → IsNamed s s.reached → Answers s.phase input → Names (advanced w s input)
advanced_names w s input h is a = each_answer (λ x i. s.phase ≡ x → Names (advanced w s i))
    (λ e. ahead_names s is inside)
    (λ o e. given_names w s o is (fits w s s.reached h.shorter h.on_way (further_by s gets e h.is_ahead)))
    (λ octets e. subst (λ (x : Phase). Names (replied w s x octets)) (sym e) (first_names w s octets h (further_by s asks_first e h.is_ahead) is))
    (λ pending octets e. subst (λ (x : Phase). Names (replied w s x octets)) (sym e)
    (key_names w s pending octets h (subst (λ (x : Phase). PendingSound w s x s.reached) e h.pends) (further_by s (asks_keys pending) e h.is_ahead) is))
    (λ e. ahead_names s is inside)
    s.phase input a refl
  where
    inside : IsWithinTarget s s.reached
    inside = within_target w s s.reached h.on_way
