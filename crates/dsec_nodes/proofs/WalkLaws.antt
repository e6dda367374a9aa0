-- Each node on the way from an island down is kept.
use Rattle.std.proofs.Common.{cond, take-take, drop}
use Rattle.std.proofs.Common.{◌≡◌, ℕ, zero, suc, ◌+◌, ◌-◌, ◌<◌, ◌≤◌, Bool, true, false, List, [], ◌∷◌, length, take, refl, sym, ap, ◌∙◌, subst, arith, length-append}
use Rattle.std.proofs.Math.Seq.{take-append_seam}
use Rattle.std.proofs.lemmas.Bool.{false≢true}
use Rattle.std.proofs.lemmas.List.{take-append-drop}
use Rattle.dsec_spec.specs.Names.{Place, IsAtOrBelow, IsStrictlyBelow}
use Rattle.dsec_spec.specs.Numbers.{DNSKEY}
use Rattle.dsec_spec.specs.Records.{Record}
use Rattle.dsec_spec.specs.Chain.{Link}
use Rattle.dsec_nodes.specs.Replies.{read_reply}
use Rattle.dsec_nodes.specs.World.{World, Replies, on_circle}
use Rattle.dsec_nodes.specs.Nodes.{Node, Standing, apex, within, insecure, bogus, Kept, HoldsAt, IsBogus}
use Rattle.dsec_nodes.specs.Walk.{at_anchor, Reached, held_keys, goes_on, goes_on_at, after, next, onward, way, node_of}
use Rattle.dsec_nodes.proofs.KeptLaws.{held, Follows}
use Rattle.dsec_nodes.proofs.ChildLaws.{child_below}
use Rattle.dsec_nodes.proofs.AnchorLaws.{anchor_reply_under, anchor_not_within}
use Rattle.dsec_nodes.specs.SoundSteps.{KeptUnder, InZone, OnTheWay}
use Rattle.dsec_nodes.specs.Taking.{RestsAt, Rests}
use Rattle.dsec_nodes.specs.Held.{HeldZone, KeptAt}

-- of two fronts of a name, the longer is strictly below the other
pub strictly_taken : (n : Place) (j m : ℕ) → j < m → m ≤ length n → IsStrictlyBelow (take m n) (take j n)
strictly_taken [] j m a b = absurd (omega (arith, a, b))
strictly_taken (x ∷ n) j zero a b = absurd (omega (arith, a))
strictly_taken (x ∷ n) zero (suc m) a b = record { next = x; under = take m n; is = refl }
strictly_taken (x ∷ n) (suc j) (suc m) a b = let r = strictly_taken n j m (omega (arith, a)) (omega (arith, b)) in record { next = r.next; under = r.under; is = ap (λ (p : Place). x ∷ p) r.is }

-- a zone that was made at a name now is held, and has that name
zone_at : (w : World) (n : Node) (p : Place) (keys : List (List ℕ)) → KeptAt w p n → n.standing ≡ apex keys
    → HeldZone w n keys × (n.signer ≡ p)
zone_at w n p keys k is =
    let facts = k.0 (ap IsBogus is) in
    let now : HoldsAt w.accepts n.bounds facts.0 n.name n.signer n.links (apex keys) (on_circle w.now) =
    subst (λ (x : Standing). HoldsAt w.accepts n.bounds facts.0 n.name n.signer n.links x (on_circle w.now)) is (facts.2 w.now k.2 k.3) in
    (held w n keys k.0 is k.2 k.3, sym now.0 ∙ k.1)

-- a zone that was made at a name now
zone_in : (w : World) (top name : Place) (labels : ℕ) (n : Node) (keys : List (List ℕ)) → n.standing ≡ apex keys
    → KeptUnder w top (take labels name) n → InZone w top name labels (record { zone = n; node = n })
zone_in w top name labels n keys e k =
    let at = zone_at w n (take labels name) keys k.0 e in
    record {
      zone_held = subst (HeldZone w n) (sym (ap held_keys e)) at.0;
      zone_rests = k.1 (ap IsBogus e);
      count = labels;
      at_most = omega arith;
      is = at.1;
    }

-- a front of a name is at or above it
pub front_over : (name : Place) (m : ℕ) → IsAtOrBelow name (take m name)
front_over name m = record { under = drop m name; is = sym (take-append-drop m name) }

-- what is reached with a node at or above the name is on the way
on_way : (w : World) (top name p : Place) (labels : ℕ) (r : Reached) → KeptUnder w top p r.node → IsAtOrBelow name p
    → (goes_on r.node ≡ true → InZone w top name labels r) → OnTheWay w top name labels r
on_way w top name p labels r k over z = record {
  node_kept = k.0.0;
  node_rests = k.1;
  node_bounds = k.2;
  from = k.0.2;
  to = k.0.3;
  over = subst (λ (q : Place). IsAtOrBelow name q) (sym k.0.1) over;
  in_zone = z;
}

-- after a node that was made at the next name
pub after_kept : (w : World) (top name : Place) (labels : ℕ) (r : Reached) (n : Node) (s : Standing) → n.standing ≡ s
    → InZone w top name labels r → KeptUnder w top (take (suc labels) name) n → OnTheWay w top name (suc labels) (after r.zone n s)
after_kept w top name labels r n (apex keys) e z k =
    on_way w top name (take (suc labels) name) (suc labels) (record { zone = n; node = n }) k (front_over name (suc labels))
    (λ _. zone_in w top name (suc labels) n keys e k)
after_kept w top name labels r n (within last) e z k =
    on_way w top name (take (suc labels) name) (suc labels) (record { zone = r.zone; node = n }) k (front_over name (suc labels))
    (λ _. record { zone_held = z.zone_held; zone_rests = z.zone_rests; count = z.count; at_most = omega (arith, z.at_most); is = z.is })
after_kept w top name labels r n (insecure cause signed) e z k =
    on_way w top name (take (suc labels) name) (suc labels) (record { zone = r.zone; node = n }) k (front_over name (suc labels))
    (λ g. absurd (false≢true (sym (ap (goes_on_at n.name) e) ∙ g)))
after_kept w top name labels r n (bogus cause) e z k =
    on_way w top name (take (suc labels) name) (suc labels) (record { zone = r.zone; node = n }) k (front_over name (suc labels))
    (λ g. absurd (false≢true (sym (ap (goes_on_at n.name) e) ∙ g)))

-- a node that follows from a zone has its anchor
pub rests_below : (anchors : List Record) (top : Place) (zone n : Node) → RestsAt anchors top zone → Follows zone n → Rests anchors top n
rests_below anchors top zone n r f e = record { anchor = r.anchor; its = f e ∙ r.its; at = r.at; is_listed = r.is_listed }

onward_kept : (w : World) (replies : Replies) (top name : Place) (labels : ℕ) (r : Reached) → suc labels ≤ length name
    → OnTheWay w top name labels r → OnTheWay w top name (suc labels) (onward w replies r (take (suc labels) name))
onward_kept w replies top name labels r le o = by (goes_on r.node) refl
  where
    next_name : Place
    next_name = take (suc labels) name

    n : Node
    n = next w replies r next_name

    further : InZone w top name labels r → OnTheWay w top name (suc labels) (after r.zone n n.standing)
    further z =
        let below : IsStrictlyBelow next_name r.zone.signer =
        subst (λ (p : Place). IsStrictlyBelow next_name p) (sym z.is) (strictly_taken name z.count (suc labels) (omega (arith, z.at_most)) le) in
        let kept = child_below w replies r.zone (held_keys r.zone.standing) next_name z.zone_held below in
        after_kept w top name labels r n n.standing refl z (kept.0, rests_below w.anchors top r.zone n z.zone_rests kept.1, kept.2)

    by : (b : Bool) → goes_on r.node ≡ b → OnTheWay w top name (suc labels) (cond b (after r.zone n n.standing) r)
    by true f = further (o.in_zone f)
    by false f = record {
      node_kept = o.node_kept;
      node_rests = o.node_rests;
      node_bounds = o.node_bounds;
      from = o.from;
      to = o.to;
      over = o.over;
      in_zone = λ g. absurd (false≢true (sym f ∙ g));
    }

-- an island that is a front of a name is at or above it
top_over : (name top : Place) → top ≡ take (length top) name → IsAtOrBelow name top
top_over name top t = subst (λ (p : Place). IsAtOrBelow name p) (sym t) (front_over name (length top))

-- a walk begins at an island's node that is kept
pub first_kept : (w : World) (top name : Place) (n : Node) (s : Standing) → n.standing ≡ s → ((last : Link) → n.standing ≡ within last → ⊥)
    → top ≡ take (length top) name → KeptUnder w top top n → OnTheWay w top name (length top) (record { zone = n; node = n })
first_kept w top name n (apex keys) e never t k = on_way w top name top (length top) (record { zone = n; node = n }) k (top_over name top t)
    (λ _. zone_in w top name (length top) n keys e (subst (λ (p : Place). KeptUnder w top p n) t k))
first_kept w top name n (within last) e never t k = absurd (never last e)
first_kept w top name n (insecure cause signed) e never t k = on_way w top name top (length top) (record { zone = n; node = n }) k (top_over name top t)
    (λ g. absurd (false≢true (sym (ap (goes_on_at n.name) e) ∙ g)))
first_kept w top name n (bogus cause) e never t k = on_way w top name top (length top) (record { zone = n; node = n }) k (top_over name top t)
    (λ g. absurd (false≢true (sym (ap (goes_on_at n.name) e) ∙ g)))

-- each node on the way is kept
pub way_kept : (w : World) (replies : Replies) (top name : Place) (k : ℕ) → top ≡ take (length top) name → length top + k ≤ length name
    → OnTheWay w top name (length top + k) (way w replies top name k)
way_kept w replies top name zero t le =
    let none : length top ≡ length top + 0 = omega arith in
    let n = at_anchor w replies top in
    subst (λ (m : ℕ). OnTheWay w top name m (way w replies top name zero)) none
    (first_kept w top name n n.standing refl (anchor_not_within w replies top) t (anchor_reply_under w top (read_reply (replies top DNSKEY))))
way_kept w replies top name (suc k) t le =
    let more : suc (length top + k) ≡ length top + suc k = omega arith in
    subst (λ (m : ℕ). OnTheWay w top name m (onward w replies (way w replies top name k) (take m name))) more
    (onward_kept w replies top name (length top + k) (way w replies top name k) (omega (arith, le)) (way_kept w replies top name k t (omega (arith, le))))

-- the node of a name under an island is on the way
pub node_on_way : (w : World) (replies : Replies) (top name : Place) → IsAtOrBelow name top
    → OnTheWay w top name (length top + (length name - length top)) (way w replies top name (length name - length top))
node_on_way w replies top name below =
    let long : length name ≡ length top + length below.under = ap length below.is ∙ length-append top below.under in
    way_kept w replies top name (length name - length top) (sym (ap (take (length top)) below.is ∙ take-append_seam top below.under)) (omega (arith, long))

-- the node of a name under an island is kept
pub node_kept : (w : World) (replies : Replies) (top name : Place) → IsAtOrBelow name top → Kept w.accepts (node_of w replies top name)
node_kept w replies top name below = (node_on_way w replies top name below).node_kept

-- and unless it is bogus it has an anchor of the island's
pub node_rests : (w : World) (replies : Replies) (top name : Place) → IsAtOrBelow name top → Rests w.anchors top (node_of w replies top name)
node_rests w replies top name below = (node_on_way w replies top name below).node_rests

-- the way to a name begins with the way to each name above it
pub way_to : (w : World) (replies : Replies) (top name : Place) (k m : ℕ) → length top + k ≤ m
    → way w replies top (take m name) k ≡ way w replies top name k
way_to w replies top name zero m le = refl
way_to w replies top name (suc k) m le =
    let front : take (length top + suc k) (take m name) ≡ take (length top + suc k) name = take-take (length top + suc k) m name le in
    ap (λ (r : Reached). onward w replies r (take (length top + suc k) (take m name))) (way_to w replies top name k m (omega (arith, le)))
    ∙ ap (onward w replies (way w replies top name k)) front
