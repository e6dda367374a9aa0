-- A group that is found to be Insecure, or Indeterminate, is.
use Rattle.std.proofs.Common.{◌≡◌, ℕ, ◌+◌, ◌-◌, ◌==◌, Bool, true, false, cond, List, [], ◌∷◌, length, Option, Some, None, refl, sym, ap, ◌∙◌, subst}
use Rattle.std.proofs.lemmas.Bool.{eqb-true}
use Rattle.std.proofs.lemmas.Option.{same_Some}
use Rattle.dsec_spec.specs.Names.{Place, place, IsStrictlyBelow}
use Rattle.dsec_spec.specs.Records.{Record, Key}
use Rattle.dsec_spec.specs.Groups.{Group}
use Rattle.dsec_spec.specs.Islands.{island}
use Rattle.dsec_spec.specs.Trying.{Tried, good, nothing, all_bad, too_many_bad}
use Rattle.dsec_spec.proofs.IslandLemmas.{island_is, one_looked_for}
use Rattle.dsec_nodes.specs.World.{World, Bounds, Replies, moment}
use Rattle.dsec_nodes.specs.Causes.{Cause}
use Rattle.dsec_nodes.specs.Nodes.{Node, Standing, apex, within, insecure, bogus, IsBogus, HoldsAt, SignedCause, IsSignedCause}
use Rattle.dsec_nodes.specs.Signing.{under_keys}
use Rattle.dsec_nodes.specs.Walk.{Reached, way, node_of}
use Rattle.dsec_nodes.specs.SoundSteps.{OnTheWay}
use Rattle.dsec_nodes.specs.Judging.{Finding, is_shown, is_insecure, is_bogus, has_no_set, is_indeterminate, found_by, found_at, target_of, by_island, judged_of}
use Rattle.dsec_nodes.specs.SoundFindings.{IsShownInsecure}
use Rattle.dsec_nodes.proofs.WalkLaws.{node_on_way}
use Rattle.dsec_nodes.proofs.AmongLaws.{cause_below}
use Rattle.dsec_nodes.proofs.ShownLaws.{target_between}

-- what trying keys comes to is never Insecure, without a set, or Indeterminate
abbrev pub IsTried : Finding → Bool
IsTried (is_shown links last signature) = true
IsTried (is_bogus cause links) = true
IsTried has_no_set = false
IsTried (is_insecure cause signed) = false
IsTried is_indeterminate = false

tried_is : (group : Group) (n : Node) (keys : List (List ℕ)) (t : Tried (Record × Key)) → IsTried (found_by group n keys t) ≡ true
tried_is group n keys (good p) = refl
tried_is group n keys nothing = refl
tried_is group n keys all_bad = refl
tried_is group n keys too_many_bad = refl

-- a node that is Insecure has a signed cause at the moment of judging, from an anchor of the island's, at or above the name
pub insecure_by_node : (w : World) (group : Group) (top : Place) (labels : ℕ) (r : Reached) (cause : Option Cause) (signed : SignedCause)
    → island w.anchors (place group.owner) group.rtype ≡ Some top → OnTheWay w top (target_of group (Some top)) labels r
    → r.node.standing ≡ insecure cause signed → IsShownInsecure w group cause signed
insecure_by_node w group top labels r cause signed f o e =
    let n = r.node in
    let sure : IsBogus n.standing ≡ false = ap IsBogus e in
    let kept = o.node_kept sure in
    let rests = o.node_rests sure in
    let same : kept.0 ≡ rests.anchor = same_Some _ _ (sym kept.1 ∙ rests.its) in
    let holds : HoldsAt w.accepts n.bounds kept.0 n.name n.signer n.links (insecure cause signed) (moment w) =
    subst (λ (x : Standing). HoldsAt w.accepts n.bounds kept.0 n.name n.signer n.links x (moment w)) e (kept.2 w.now o.from o.to) in
    let shown : IsSignedCause w.accepts w.bounds rests.anchor n.name signed (moment w) =
    subst (λ (b : Bounds). IsSignedCause w.accepts b rests.anchor n.name signed (moment w)) o.node_bounds
    (subst (λ (a : Record). IsSignedCause w.accepts n.bounds a n.name signed (moment w)) same holds.shows) in
    record {
      top = top;
      is_island = island_is w.anchors (place group.owner) group.rtype top f;
      anchor = rests.anchor;
      is_listed = rests.is_listed;
      at = rests.at;
      name = n.name;
      below_island = subst (IsStrictlyBelow n.name) rests.at (cause_below w.accepts w.bounds rests.anchor n.name signed (moment w) shown);
      over = o.over;
      shows = shown;
      told = holds.told;
    }

-- so has the node of a name (RFC 4035 5.2)
insecure_node : (w : World) (replies : Replies) (group : Group) (top : Place) (cause : Option Cause) (signed : SignedCause)
    → island w.anchors (place group.owner) group.rtype ≡ Some top
    → (node_of w replies top (target_of group (Some top))).standing ≡ insecure cause signed → IsShownInsecure w group cause signed
insecure_node w replies group top cause signed f e =
    let target = target_of group (Some top) in
    let i = island_is w.anchors (place group.owner) group.rtype top f in
    let from_is = one_looked_for (place group.owner) group.rtype i.from i.looked_for in
    let labels = length target - length top in
    insecure_by_node w group top (length top + labels) (way w replies top target labels) cause signed f
    (node_on_way w replies top target (target_between group top i.from from_is i.above).0) e

no_records : (rs : List Record) → length rs ≡ 0 → rs ≡ []
no_records [] e = refl
no_records (r ∷ rs) e = absurd cc

-- a group that is found to be Insecure by a signed cause is (RFC 4035 5.2)
pub insecure_is : (w : World) (replies : Replies) (group : Group) (cause : Option Cause) (signed : SignedCause)
    → (judged_of w replies group).finding ≡ is_insecure cause signed → IsShownInsecure w group cause signed
insecure_is w replies group cause signed e = by_records (length group.records == 0) e
  where
    by_standing : (top : Place) → island w.anchors (place group.owner) group.rtype ≡ Some top → (s : Standing)
        → (node_of w replies top (target_of group (Some top))).standing ≡ s
        → found_at w group (node_of w replies top (target_of group (Some top))) s ≡ is_insecure cause signed
        → IsShownInsecure w group cause signed
    by_standing top f (apex keys) g h =
        let n = node_of w replies top (target_of group (Some top)) in
        absurd (let x : true ≡ false = sym (tried_is group n keys (under_keys w n.signer keys group)) ∙ ap IsTried h in cc)
    by_standing top f (within last) g h = absurd cc
    by_standing top f (insecure c s) g h =
        let same_cause : c ≡ cause = cc in
        let same : s ≡ signed = cc in
        subst (IsShownInsecure w group cause) same (subst (λ (x : Option Cause). IsShownInsecure w group x s) same_cause (insecure_node w replies group top c s f g))
    by_standing top f (bogus c) g h = absurd cc

    by_top : (o : Option Place) → island w.anchors (place group.owner) group.rtype ≡ o
        → (by_island w replies group o).finding ≡ is_insecure cause signed → IsShownInsecure w group cause signed
    by_top None f h = absurd cc
    by_top (Some top) f h = by_standing top f (node_of w replies top (target_of group (Some top))).standing refl h

    by_records : (b : Bool)
        → (cond b (record { group = group; signer = []; finding = has_no_set }) (by_island w replies group (island w.anchors (place group.owner) group.rtype))).finding ≡ is_insecure cause signed
        → IsShownInsecure w group cause signed
    by_records true h = absurd cc
    by_records false h = by_top (island w.anchors (place group.owner) group.rtype) refl h

-- what is found by a node is neither without a set nor Indeterminate
abbrev pub HasIsland : Finding → Bool
HasIsland has_no_set = false
HasIsland is_indeterminate = false
HasIsland (is_shown links last signature) = true
HasIsland (is_insecure cause signed) = true
HasIsland (is_bogus cause links) = true

found_has : (w : World) (group : Group) (n : Node) (s : Standing) → HasIsland (found_at w group n s) ≡ true
found_has w group n (apex keys) = by (under_keys w n.signer keys group)
  where
    by : (t : Tried (Record × Key)) → HasIsland (found_by group n keys t) ≡ true
    by (good p) = refl
    by nothing = refl
    by all_bad = refl
    by too_many_bad = refl
found_has w group n (within last) = refl
found_has w group n (insecure cause signed) = refl
found_has w group n (bogus cause) = refl

-- a group that is found to be without a set has no record
pub no_set_is : (w : World) (replies : Replies) (group : Group) → (judged_of w replies group).finding ≡ has_no_set → group.records ≡ []
no_set_is w replies group e = by_records (length group.records == 0) refl e
  where
    by_top : (o : Option Place) → (by_island w replies group o).finding ≡ has_no_set → group.records ≡ []
    by_top None h = absurd cc
    by_top (Some top) h =
        let n = node_of w replies top (target_of group (Some top)) in
        absurd (let x : true ≡ false = sym (found_has w group n n.standing) ∙ ap HasIsland h in cc)

    by_records : (b : Bool) → (length group.records == 0) ≡ b
        → (cond b (record { group = group; signer = []; finding = has_no_set }) (by_island w replies group (island w.anchors (place group.owner) group.rtype))).finding ≡ has_no_set
        → group.records ≡ []
    by_records true f h = no_records group.records (eqb-true (length group.records) 0 f)
    by_records false f h = by_top (island w.anchors (place group.owner) group.rtype) h

-- a group that is found to be Indeterminate has no island (RFC 4033 5)
pub indeterminate_is : (w : World) (replies : Replies) (group : Group) → (judged_of w replies group).finding ≡ is_indeterminate
    → island w.anchors (place group.owner) group.rtype ≡ None
indeterminate_is w replies group e = by_records (length group.records == 0) e
  where
    by_top : (o : Option Place) → island w.anchors (place group.owner) group.rtype ≡ o
        → (by_island w replies group o).finding ≡ is_indeterminate
        → island w.anchors (place group.owner) group.rtype ≡ None
    by_top None f h = f
    by_top (Some top) f h =
        let n = node_of w replies top (target_of group (Some top)) in
        absurd (let x : true ≡ false = sym (found_has w group n n.standing) ∙ ap HasIsland h in cc)

    by_records : (b : Bool)
        → (cond b (record { group = group; signer = []; finding = has_no_set }) (by_island w replies group (island w.anchors (place group.owner) group.rtype))).finding ≡ is_indeterminate
        → island w.anchors (place group.owner) group.rtype ≡ None
    by_records true h = absurd cc
    by_records false h = by_top (island w.anchors (place group.owner) group.rtype) refl h
