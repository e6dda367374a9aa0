-- What a finding by a node that is kept at the moment rests on.
use Rattle.std.proofs.Common.{◌≡◌, ℕ, ◌+◌, ◌≤◌, Bool, true, false, cond, List, [], ◌∷◌, Option, Some, Result, Ok, Err, IfOk, IfSome, refl, sym, ap, ◌∙◌, subst, arith}
use Rattle.std.specs.Prelude.{◌≢◌, nat_le}
use Rattle.std.proofs.lemmas.Bool.{and_parts, leb-true, true≢false}
use Rattle.dsec_spec.specs.Names.{place, IsStrictlyBelow}
use Rattle.dsec_spec.specs.Numbers.{DS}
use Rattle.dsec_spec.specs.Records.{Record, Key}
use Rattle.dsec_spec.specs.Groups.{Group}
use Rattle.dsec_spec.specs.Islands.{looked_for_at}
use Rattle.dsec_spec.specs.Trying.{Tried, good, nothing, all_bad, too_many_bad}
use Rattle.dsec_spec.specs.Chain as chain
use Rattle.dsec_spec.specs.Accepts.{Accepts}
use Rattle.dsec_spec.proofs.SignedTests.{below_decides}
use Rattle.dsec_link.specs.Shown.{ShownSet}
use Rattle.dsec_group.specs.declared.state.ValidationState.{ValidationState}
use Rattle.dsec_group.specs.declared.state.ValidationState.TheVariants.{Secure, Insecure, Bogus, Indeterminate}
use Rattle.dsec_nodes.specs.World.{World, Bounds, on_circle, moment}
use Rattle.dsec_nodes.specs.Nodes.{Node, Standing, apex, within, insecure, bogus, IsBogus, HoldsAt, Kept}
use Rattle.dsec_nodes.specs.Signing.{under_keys, link_under}
use Rattle.dsec_nodes.specs.Taking.{is_in_time}
use Rattle.dsec_nodes.specs.Held.{HeldZone, GoodPair}
use Rattle.dsec_nodes.specs.Judging.{Finding, is_shown, Judged, found_by, found_at, by_node}
use Rattle.dsec_nodes.proofs.KeptLaws.{held}
use Rattle.dsec_nodes.proofs.ShownLaws.{holds_by}
use Rattle.dsec_nodes.proofs.Signs.{from_under}
use Rattle.dsec_node.specs.Counting.{seconds_kept}
use Rattle.dsec_node.specs.Views.{world_of}
use Rattle.dsec_by_node.specs.Answers.{Answer, answer_by, encloser_by, Told, CanBeTold}
use Rattle.dsec_by_node.specs.Grounds.{RestsOn}
use Rattle.dsec_by_node.specs.WithNode.{is_over, tells_of, answer_with, undetermined, ShownAs, IsShownBy, is_secure, seconds_by, seconds_found, seconds_with}
use Rattle.dsec_by_node.proofs.DsLaws.{strictly_over}

-- a group by a good pair of one of its signatures and a key of a held zone is shown
shown_by : (w : World) (group : Group) (n : Node) (keys : List (List ℕ)) (p : Record × Key) → group.records ≢ [] → HeldZone w n keys
    → (group.rtype ≡ DS → place group.owner ≢ [] → IsStrictlyBelow (place group.owner) n.signer) → GoodPair w n.signer keys group p
    → RestsOn w.accepts group n (moment w) (is_shown n.links (link_under chain.set keys group p) p.0)
shown_by w group n keys p some z above g = (
  refl,
  (
    z.anchor,
    z.its,
    record {
      has_records = some;
      holds = holds_by w (z.anchor ∷ []) group n.links n.signer keys p (z.chain_to w.now (omega arith) (omega arith)) above g;
      before = n.links;
      last = link_under chain.set keys group p;
      ends = refl;
      signature = p.0;
      beside = g.beside;
      says = refl;
      rrsig = g.counts.signature;
      reads = g.counts.reads_signature;
      by_zone = g.counts.signed.signer;
      expands = ap (encloser_by group) g.counts.reads_signature;
      cut = refl;
    },
  ),
)

-- the node of a zone says the zone's name
pub zone_named : (w : World) (n : Node) (keys : List (List ℕ)) → Kept w.accepts n → n.standing ≡ apex keys → n.made ≤ w.now → w.now ≤ n.made + n.valid_for
    → n.name ≡ n.signer
zone_named w n keys kept e from to =
    let k = kept (ap IsBogus e) in
    (subst (λ (x : Standing). HoldsAt w.accepts n.bounds k.0 n.name n.signer n.links x (on_circle w.now)) e (k.2 w.now from to)).0

-- what is found of a group by a node that tells something of it rests on the node
pub rests_on : (w : World) (group : Group) (n : Node) → group.records ≢ [] → Kept w.accepts n → tells_of w group n ≡ true
    → RestsOn w.accepts group n (moment w) (found_at w group n n.standing)
rests_on w group n some kept tells = by n.standing refl
  where
    parts : (is_in_time w n ≡ true) × (is_over n group ≡ true)
    parts = and_parts (is_in_time w n) (is_over n group) tells

    from : n.made ≤ w.now
    from = leb-true n.made w.now (and_parts (nat_le n.made w.now) (nat_le w.now (n.made + n.valid_for)) parts.0).0

    to : w.now ≤ n.made + n.valid_for
    to = leb-true w.now (n.made + n.valid_for) (and_parts (nat_le n.made w.now) (nat_le w.now (n.made + n.valid_for)) parts.0).1

    above : (keys : List (List ℕ)) → n.standing ≡ apex keys → group.rtype ≡ DS → place group.owner ≢ [] → IsStrictlyBelow (place group.owner) n.signer
    above keys e is_ds below_root =
        subst (IsStrictlyBelow (place group.owner)) (zone_named w n keys kept e from to)
        (strictly_over (place group.owner) n.name group.rtype is_ds below_root ((below_decides (looked_for_at (place group.owner) group.rtype) n.name).0 parts.1))

    by_tried : (keys : List (List ℕ)) → n.standing ≡ apex keys → (t : Tried (Record × Key)) → under_keys w n.signer keys group ≡ t
        → RestsOn w.accepts group n (moment w) (found_by group n keys t)
    by_tried keys e (good p) f = shown_by w group n keys p some (held w n keys kept e from to) (above keys e) (from_under w n.signer keys group p f)
    by_tried keys e nothing f = tt
    by_tried keys e all_bad f = tt
    by_tried keys e too_many_bad f = tt

    by : (s : Standing) → n.standing ≡ s → RestsOn w.accepts group n (moment w) (found_at w group n s)
    by (apex keys) e = by_tried keys e (under_keys w n.signer keys group) refl
    by (within last) e = tt
    by (insecure cause signed) e = tt
    by (bogus cause) e = tt

-- a group and a node, judged by copies of them
pub judged_same : (w : World) (group own : Group) (n shared : Node) (j : Judged) → own ≡ group → shared ≡ n → j ≡ by_node w own shared → j ≡ by_node w group n
judged_same w group own n shared j e f is = is ∙ (ap (λ (g : Group). by_node w g shared) e ∙ ap (by_node w group) f)

-- what holds of each result holds of one that may be
pub if_ok : {A E : Type 0} (P Q : A → Type 0) (result : Result A E) → ((a : A) → P a → Q a) → IfOk result P → IfOk result Q
if_ok P Q (Ok a) h p = h a p
if_ok P Q (Err e) h p = tt

-- what is told of a judged group by the same node is told of the group
module _ (accepts : Accepts) (bounds : Bounds) (now : ℕ) (group : Group) (n m : Node) (j : Judged)
    (is : (anchors : List Record) → j ≡ by_node (world_of accepts anchors bounds now) group n) (same : m ≡ n) where
  abbrev w : World
  w = world_of accepts [] bounds now

  its_group : j.group ≡ group
  its_group = ap (λ (x : Judged). x.group) (is [])

  pub judged_found : j ≡ by_node w j.group m
  judged_found = is [] ∙ (ap (λ (g : Group). by_node w g n) (sym its_group) ∙ ap (by_node w j.group) (sym same))

  pub judged_rests : group.records ≢ [] → Kept accepts m → tells_of w group n ≡ true → RestsOn accepts j.group m (on_circle now) j.finding
  judged_rests some kept tells =
      subst (λ (x : Node). RestsOn accepts j.group x (on_circle now) j.finding) (sym same)
      (subst (λ (x : Judged). RestsOn accepts x.group n (on_circle now) x.finding) (sym (is [])) (rests_on w group n some (subst (Kept accepts) same kept) tells))

  module _ {A E : Type 0} (result : Result A E) where
    pub judged_answers : (answer : A → Answer) → IfOk result (λ a. answer a ≡ answer_by j.group (on_circle now) j.finding)
        → IfOk result (λ a. (anchors : List Record) → answer a ≡ answer_by group (on_circle now) (by_node (world_of accepts anchors bounds now) group n).finding)
    judged_answers answer h =
        if_ok (λ a. answer a ≡ answer_by j.group (on_circle now) j.finding)
        (λ a. (anchors : List Record) → answer a ≡ answer_by group (on_circle now) (by_node (world_of accepts anchors bounds now) group n).finding)
        result (λ a e. λ anchors. e ∙ ap (λ (x : Judged). answer_by x.group (on_circle now) x.finding) (is anchors)) h

    pub judged_seconds : (seconds : A → ℕ) → IfOk result (λ a. seconds a ≡ cond (is_secure m.standing) (seconds_by w j.group m j.finding) (seconds_kept m now))
        → IfOk result (λ a. seconds a ≡ seconds_found w group n)
    judged_seconds seconds h =
        if_ok (λ a. seconds a ≡ cond (is_secure m.standing) (seconds_by w j.group m j.finding) (seconds_kept m now)) (λ a. seconds a ≡ seconds_found w group n)
        result (λ a e.
        e ∙ (ap (λ (x : Node). cond (is_secure x.standing) (seconds_by w j.group x j.finding) (seconds_kept x now)) same
        ∙ ap (λ (x : Judged). cond (is_secure n.standing) (seconds_by w x.group n x.finding) (seconds_kept n now)) (is []))) h

    pub judged_can : (told : A → Told) → IfOk result (λ a. CanBeTold accepts j.group m.signer (told a)) → IfOk result (λ a. CanBeTold accepts group n.signer (told a))
    judged_can told h =
        if_ok (λ a. CanBeTold accepts j.group m.signer (told a)) (λ a. CanBeTold accepts group n.signer (told a)) result
        (λ a e. subst (λ (x : Node). CanBeTold accepts group x.signer (told a)) same (subst (λ (g : Group). CanBeTold accepts g m.signer (told a)) its_group e)) h

    pub judged_shown : (told : A → Told) → IfOk result (λ a. ShownAs m (on_circle now) j.finding (told a).shown (told a).answer.state)
        → IfOk result (λ a. IsShownBy w group n (told a))
    judged_shown told h =
        if_ok (λ a. ShownAs m (on_circle now) j.finding (told a).shown (told a).answer.state) (λ a. IsShownBy w group n (told a)) result
        (λ a e.
        subst (λ (x : Node). ShownAs x (on_circle now) (by_node w group n).finding (told a).shown (told a).answer.state) same
        (subst (λ (x : Judged). ShownAs m (on_circle now) x.finding (told a).shown (told a).answer.state) (is []) e)) h

-- what a node tells that tells something, and one that doesn't
module _ (accepts : Accepts) (bounds : Bounds) (now : ℕ) (group : Group) (n : Node) where
  module _ {A E : Type 0} (result : Result A E) (tells : tells_of (world_of accepts [] bounds now) group n ≡ true) where
    pub answer_told : (answer : A → Answer)
        → IfOk result (λ a. (anchors : List Record) → answer a ≡ answer_by group (on_circle now) (by_node (world_of accepts anchors bounds now) group n).finding)
        → IfOk result (λ a. answer a ≡ answer_with (world_of accepts [] bounds now) group n)
    answer_told answer h =
        if_ok (λ a. (anchors : List Record) → answer a ≡ answer_by group (on_circle now) (by_node (world_of accepts anchors bounds now) group n).finding)
        (λ a. answer a ≡ answer_with (world_of accepts [] bounds now) group n) result
        (λ a f. f [] ∙ ap (λ (b : Bool). cond b (answer_by group (on_circle now) (by_node (world_of accepts [] bounds now) group n).finding) undetermined) (sym tells)) h

    pub seconds_told : (seconds : A → ℕ) → IfOk result (λ a. seconds a ≡ seconds_found (world_of accepts [] bounds now) group n)
        → IfOk result (λ a. seconds a ≡ seconds_with (world_of accepts [] bounds now) group n)
    seconds_told seconds h =
        if_ok (λ a. seconds a ≡ seconds_found (world_of accepts [] bounds now) group n) (λ a. seconds a ≡ seconds_with (world_of accepts [] bounds now) group n) result
        (λ a f. f ∙ ap (λ (b : Bool). cond b (seconds_found (world_of accepts [] bounds now) group n) 0) (sym tells)) h

  pub answer_untold : tells_of (world_of accepts [] bounds now) group n ≡ false → undetermined ≡ answer_with (world_of accepts [] bounds now) group n
  answer_untold silent = ap (λ (b : Bool). cond b (answer_by group (on_circle now) (by_node (world_of accepts [] bounds now) group n).finding) undetermined) (sym silent)

  pub seconds_untold : tells_of (world_of accepts [] bounds now) group n ≡ false → 0 ≡ seconds_with (world_of accepts [] bounds now) group n
  seconds_untold silent = ap (λ (b : Bool). cond b (seconds_found (world_of accepts [] bounds now) group n) 0) (sym silent)

  pub not_elsewhere : tells_of (world_of accepts [] bounds now) group n ≡ true → is_over n group ≡ false → ⊥
  not_elsewhere tells silent = true≢false (sym (and_parts (is_in_time (world_of accepts [] bounds now) n) (is_over n group) tells).1 ∙ silent)

-- what is found by a node is found whatever the anchors are
found_anyhow : (accepts : Accepts) (anchors : List Record) (bounds : Bounds) (now : ℕ) (group : Group) (n : Node) (s : Standing)
    → found_at (world_of accepts [] bounds now) group n s ≡ found_at (world_of accepts anchors bounds now) group n s
found_anyhow accepts anchors bounds now group n (apex keys) = refl
found_anyhow accepts anchors bounds now group n (within last) = refl
found_anyhow accepts anchors bounds now group n (insecure cause signed) = refl
found_anyhow accepts anchors bounds now group n (bogus cause) = refl

-- so is what is told by a node that tells something
pub told_anyhow : (accepts : Accepts) (anchors : List Record) (bounds : Bounds) (now : ℕ) (group : Group) (n : Node) (answer : Answer)
    → tells_of (world_of accepts anchors bounds now) group n ≡ true → answer ≡ answer_with (world_of accepts [] bounds now) group n
    → answer ≡ answer_by group (on_circle now) (by_node (world_of accepts anchors bounds now) group n).finding
told_anyhow accepts anchors bounds now group n answer tells e =
    e
    ∙ (ap (λ (b : Bool). cond b (answer_by group (on_circle now) (by_node (world_of accepts [] bounds now) group n).finding) undetermined) tells
    ∙ ap (answer_by group (on_circle now)) (found_anyhow accepts anchors bounds now group n n.standing))

-- and so is what shows it
pub shown_anyhow : (accepts : Accepts) (anchors : List Record) (bounds : Bounds) (now : ℕ) (group : Group) (n : Node) (told : Told)
    → IsShownBy (world_of accepts [] bounds now) group n told → IsShownBy (world_of accepts anchors bounds now) group n told
shown_anyhow accepts anchors bounds now group n told h =
    subst (λ (f : Finding). ShownAs n (on_circle now) f told.shown told.answer.state) (found_anyhow accepts anchors bounds now group n n.standing) h

-- what shows a group is from the node's anchor, at the moment of judging
pub shown_from : (n : Node) (t : ℕ) (f : Finding) (shown : Option ShownSet) (state : ValidationState) → ShownAs n t f shown state
    → IfSome shown (λ s. (n.anchor ≡ Some s.anchor) × (s.moment ≡ t))
shown_from n t f shown Secure h = subst (λ (o : Option ShownSet). IfSome o (λ s. (n.anchor ≡ Some s.anchor) × (s.moment ≡ t))) (sym h.its) (h.from_anchor, h.at)
shown_from n t f shown Insecure h = subst (λ (o : Option ShownSet). IfSome o (λ s. (n.anchor ≡ Some s.anchor) × (s.moment ≡ t))) (sym h) tt
shown_from n t f shown Bogus h = subst (λ (o : Option ShownSet). IfSome o (λ s. (n.anchor ≡ Some s.anchor) × (s.moment ≡ t))) (sym h) tt
shown_from n t f shown Indeterminate h = subst (λ (o : Option ShownSet). IfSome o (λ s. (n.anchor ≡ Some s.anchor) × (s.moment ≡ t))) (sym h) tt
