-- A group that is found to be shown is shown, from an anchor of its island.
use Rattle.std.proofs.Common.{◌≡◌, ℕ, zero, suc, ◌+◌, ◌-◌, ◌==◌, Bool, true, false, cond, List, [], ◌∷◌, ◌++◌, length, take, drop, Option, Some, None, refl, sym, ap, ◌∙◌, subst, inl, inr, arith}
use Rattle.std.specs.Prelude.{find, unwrap_or, ◌≢◌, Contains}
use Rattle.std.proofs.lemmas.Bool.{true≢false, and_parts, eqb-false, not-true}
use Rattle.std.proofs.lemmas.Option.{same_Some}
use Rattle.std.proofs.lemmas.List.{take-append-drop}
use Rattle.dsec_spec.specs.Names.{Place, place, IsAtOrBelow, IsStrictlyBelow, is_strictly_below}
use Rattle.dsec_spec.specs.Numbers.{DS}
use Rattle.dsec_spec.specs.Records.{Record, Key}
use Rattle.dsec_spec.specs.Groups.{Group, set_in}
use Rattle.dsec_spec.specs.Islands.{looked_for_at, island, signers, is_usable, target}
use Rattle.dsec_spec.specs.Trying.{Tried, good, nothing, all_bad, too_many_bad}
use Rattle.dsec_spec.specs.AtQuestion.{IsIsland}
use Rattle.dsec_spec.specs.Chain as chain
use Rattle.dsec_spec.specs.Chain.{Link, Holds, IsSetLink, IsChain}
use Rattle.dsec_spec.proofs.IslandLemmas.{island_is, one_looked_for}
use Rattle.dsec_spec.proofs.Members.{from_find}
use Rattle.dsec_spec.proofs.NamesBelow.{below_itself, below_trans, ancestors_comparable, strictly_below_trans}
use Rattle.dsec_spec.proofs.SignedTests.{below_decides, strictly_below_decides}
use Rattle.dsec_nodes.specs.World.{World, Replies, moment}
use Rattle.dsec_nodes.specs.Nodes.{Node, Standing, apex, within, insecure, bogus}
use Rattle.dsec_nodes.specs.Signing.{under_keys, link_under}
use Rattle.dsec_nodes.specs.Held.{HeldZone, GoodPair}
use Rattle.dsec_nodes.specs.Taking.{RestsAt}
use Rattle.dsec_nodes.specs.Walk.{Reached, held_keys, goes_on, goes_on_at, after, next, way, node_of}
use Rattle.dsec_nodes.specs.Judging.{is_shown, has_no_set, Judged, found_by, found_at, target_of, by_island, judged_of}
use Rattle.dsec_nodes.specs.SoundFindings.{BeginsAt, IsShownSet}
use Rattle.dsec_nodes.proofs.Signs.{from_under}
use Rattle.dsec_nodes.proofs.WalkLaws.{node_on_way}
use Rattle.dsec_nodes.proofs.AmongLaws.{chain_among, chain_begins}

after_zone : (zone n : Node) (s : Standing) (keys : List (List ℕ)) → n.standing ≡ s → (after zone n s).node.standing ≡ apex keys
    → (after zone n s).zone ≡ (after zone n s).node
after_zone zone n (apex own) keys e f = refl
after_zone zone n (within last) keys e f = absurd (let g : within last ≡ apex keys = sym e ∙ f in cc)
after_zone zone n (insecure cause signed) keys e f = absurd (let g : insecure cause signed ≡ apex keys = sym e ∙ f in cc)
after_zone zone n (bogus cause) keys e f = absurd (let g : bogus cause ≡ apex keys = sym e ∙ f in cc)

-- where a zone's node is reached, the last zone is this one
pub zone_is_node : (w : World) (replies : Replies) (top name : Place) (k : ℕ) (keys : List (List ℕ))
    → (way w replies top name k).node.standing ≡ apex keys → (way w replies top name k).zone ≡ (way w replies top name k).node
zone_is_node w replies top name zero keys e = refl
zone_is_node w replies top name (suc k) keys e =
    by (zone_is_node w replies top name k keys) (goes_on (way w replies top name k).node) e
  where
    r : Reached
    r = way w replies top name k

    n : Node
    n = next w replies r (take (length top + suc k) name)

    by : (r.node.standing ≡ apex keys → r.zone ≡ r.node) → (b : Bool) → (cond b (after r.zone n n.standing) r).node.standing ≡ apex keys
        → (cond b (after r.zone n n.standing) r).zone ≡ (cond b (after r.zone n n.standing) r).node
    by others true f = after_zone r.zone n n.standing keys refl f
    by others false f = others f

-- a zone under an island, from which a name is looked for
pub record ZoneOver (w : World) (top target : Place) (n : Node) (keys : List (List ℕ)) : Type 0 where
  pub zone_held : HeldZone w n keys
  pub zone_rests : RestsAt w.anchors top n
  pub over : IsAtOrBelow target n.signer

-- the node of a name that is a zone's is held, from an anchor of the island's, and at or above the name
pub zone_over : (w : World) (replies : Replies) (top target : Place) (keys : List (List ℕ)) → IsAtOrBelow target top
    → (node_of w replies top target).standing ≡ apex keys → ZoneOver w top target (node_of w replies top target) keys
zone_over w replies top target keys below e =
    let r = way w replies top target (length target - length top) in
    let z = (node_on_way w replies top target below).in_zone (ap (goes_on_at (node_of w replies top target).name) e) in
    let same : r.zone ≡ r.node = zone_is_node w replies top target (length target - length top) keys e in
    let own : held_keys r.zone.standing ≡ keys = ap (λ (x : Node). held_keys x.standing) same ∙ ap held_keys e in
    record {
      zone_held = subst (λ (x : Node). HeldZone w x keys) same (subst (HeldZone w r.zone) own z.zone_held);
      zone_rests = subst (RestsAt w.anchors top) same z.zone_rests;
      over = record {
        under = drop z.count target;
        is = sym (take-append-drop z.count target) ∙ ap (λ (p : Place). p ++ drop z.count target) (sym z.is ∙ ap (λ (x : Node). x.signer) same);
      };
    }

-- the zone that is to have signed a group is at or below its island, and at or above where the group is looked for (RFC 4035 5.3.1)
pub target_between : (group : Group) (top from : Place) → from ≡ looked_for_at (place group.owner) group.rtype → IsAtOrBelow from top
    → IsAtOrBelow (target_of group (Some top)) top × IsAtOrBelow from (target_of group (Some top))
target_between group top from is below = subst (λ (f : Place). IsAtOrBelow (target (Some top) f (signers group)) top × IsAtOrBelow from (target (Some top) f (signers group))) is
    (by (find (is_usable (Some top) from) (signers group)) refl)
  where
    itself : IsAtOrBelow from from
    itself = below_itself from

    by : (o : Option Place) → find (is_usable (Some top) from) (signers group) ≡ o
        → IsAtOrBelow (unwrap_or o from) top × IsAtOrBelow from (unwrap_or o from)
    by None e = (below, itself)
    by (Some signer) e =
        let both = and_parts _ _ (from_find (is_usable (Some top) from) (signers group) signer e).0 in
        let over = (below_decides from signer).0 both.0 in (
          elim (ancestors_comparable from signer top over below) [
            | inl at ↦ at
            | inr above ↦ absurd (true≢false (sym ((strictly_below_decides top signer).1 above) ∙ not-true (is_strictly_below top signer) both.1))
          ],
          over,
        )

-- a group by a good pair of one of its signatures and a key of a zone holds, where links lead down to the zone and its keys
pub holds_by : (w : World) (anchors : List Record) (group : Group) (links : List Link) (zone : Place) (keys : List (List ℕ)) (p : Record × Key)
    → IsChain w.accepts anchors links zone keys (moment w)
    → (group.rtype ≡ DS → place group.owner ≢ [] → IsStrictlyBelow (place group.owner) zone) → GoodPair w zone keys group p
    → Holds w.accepts anchors (links ++ link_under chain.set keys group p ∷ []) (set_in group) (moment w)
holds_by w anchors group links zone keys p leads above g = record {
  chain = links;
  last = link_under chain.set keys group p;
  zone = zone;
  keys = keys;
  are = refl;
  leads = leads;
  shows = record {
    of_kind = refl;
    within = g.counts.signed.within;
    ds_above = above;
    by_held = g.says.there;
    signed = record {
      public_key = p.1;
      reads = g.says.reads;
      signature = g.counts.signature;
      reads_signature = g.counts.reads_signature;
      signed = g.counts.signed;
    };
  };
  same = refl;
}

-- a group by a good pair of one of its signatures and a key of its zone is shown
pub shown_by : (w : World) (top : Place) (group : Group) (n : Node) (keys : List (List ℕ)) (p : Record × Key) → length group.records ≢ 0
    → island w.anchors (place group.owner) group.rtype ≡ Some top → ZoneOver w top (target_of group (Some top)) n keys
    → GoodPair w n.signer keys group p
    → IsShownSet w (record { group = group; signer = n.signer; finding = is_shown n.links (link_under chain.set keys group p) p.0 }) n.links (link_under chain.set keys group p) p.0
unfolding holds_by
shown_by w top group n keys p some e z g = record {
  has_records = λ none. some (ap length none);
  holds = holds_by w w.anchors group n.links n.signer keys p (chain_among w.accepts z.zone_held.anchor w.anchors n.links n.signer keys (moment w) listed own) above g;
  zone_is = refl;
  island = top;
  is_island = its_island;
  begins = subst (BeginsAt n.links) (ap (λ (x : Record). place x.owner) same_anchor ∙ z.zone_rests.at) (chain_begins w.accepts z.zone_held.anchor n.links n.signer keys (moment w) own);
  beside = g.beside;
  says = refl;
}
  where
    its_island : IsIsland w.anchors (place group.owner) group.rtype top
    its_island = island_is w.anchors (place group.owner) group.rtype top e

    own : IsChain w.accepts (z.zone_held.anchor ∷ []) n.links n.signer keys (moment w)
    own = z.zone_held.chain_to w.now (omega arith) (omega arith)

    same_anchor : z.zone_held.anchor ≡ z.zone_rests.anchor
    same_anchor = same_Some _ _ (sym z.zone_held.its ∙ z.zone_rests.its)

    listed : Contains w.anchors z.zone_held.anchor
    listed = subst (Contains w.anchors) (sym same_anchor) z.zone_rests.is_listed

    above : group.rtype ≡ DS → place group.owner ≢ [] → IsStrictlyBelow (place group.owner) n.signer
    above is_ds below_root =
        let parent = its_island.looked_for.above_for_ds is_ds below_root in
        let from_is = one_looked_for (place group.owner) group.rtype its_island.from its_island.looked_for in
        let between = target_between group top its_island.from from_is its_island.above in
        strictly_below_trans (place group.owner) its_island.from n.signer (record { next = parent.0; under = []; is = parent.1 })
        (below_trans its_island.from (target_of group (Some top)) n.signer between.1 z.over)

-- a judged group that is found to be shown is (RFC 4035 5)
pub shown_is : (w : World) (replies : Replies) (group : Group) (links : List Link) (last : Link) (signature : Record)
    → (judged_of w replies group).finding ≡ is_shown links last signature
    → IsShownSet w (judged_of w replies group) links last signature × ((judged_of w replies group).group ≡ group)
shown_is w replies group links last signature e = by_records (length group.records == 0) refl e
  where
    Is : Judged → Type 0
    Is j = IsShownSet w j links last signature × (j.group ≡ group)

    by_tried : (top : Place) → length group.records ≢ 0 → island w.anchors (place group.owner) group.rtype ≡ Some top
        → (n : Node) (keys : List (List ℕ))
        → ZoneOver w top (target_of group (Some top)) n keys → (t : Tried (Record × Key)) → under_keys w n.signer keys group ≡ t
        → found_by group n keys t ≡ is_shown links last signature
        → Is (record { group = group; signer = n.signer; finding = found_by group n keys t })
    by_tried top some f n keys z (good p) g h =
        let links_same : n.links ≡ links = cc in
        let last_same : link_under chain.set keys group p ≡ last = cc in
        let record_same : p.0 ≡ signature = cc in
        let j : Judged = record { group = group; signer = n.signer; finding = is_shown n.links (link_under chain.set keys group p) p.0 } in (
          subst (IsShownSet w j links last) record_same
              (subst (λ (l : Link). IsShownSet w j links l p.0) last_same
              (subst (λ (ls : List Link). IsShownSet w j ls (link_under chain.set keys group p) p.0) links_same
              (shown_by w top group n keys p some f z (from_under w n.signer keys group p g)))),
          refl,
        )
    by_tried top some f n keys z nothing g h = absurd cc
    by_tried top some f n keys z all_bad g h = absurd cc
    by_tried top some f n keys z too_many_bad g h = absurd cc

    by_standing : (top : Place) → length group.records ≢ 0 → island w.anchors (place group.owner) group.rtype ≡ Some top → (n : Node)
        → ((keys : List (List ℕ)) → n.standing ≡ apex keys → ZoneOver w top (target_of group (Some top)) n keys)
        → (s : Standing) → n.standing ≡ s → found_at w group n s ≡ is_shown links last signature
        → Is (record { group = group; signer = n.signer; finding = found_at w group n s })
    by_standing top some f n over (apex keys) g h = by_tried top some f n keys (over keys g) (under_keys w n.signer keys group) refl h
    by_standing top some f n over (within last) g h = absurd cc
    by_standing top some f n over (insecure cause signed) g h = absurd cc
    by_standing top some f n over (bogus cause) g h = absurd cc

    over_at : (top : Place) → island w.anchors (place group.owner) group.rtype ≡ Some top → (keys : List (List ℕ))
        → (node_of w replies top (target_of group (Some top))).standing ≡ apex keys
        → ZoneOver w top (target_of group (Some top)) (node_of w replies top (target_of group (Some top))) keys
    over_at top f keys g =
        let i = island_is w.anchors (place group.owner) group.rtype top f in
        let from_is = one_looked_for (place group.owner) group.rtype i.from i.looked_for in
        zone_over w replies top (target_of group (Some top)) keys (target_between group top i.from from_is i.above).0 g

    by_top : length group.records ≢ 0 → (o : Option Place) → island w.anchors (place group.owner) group.rtype ≡ o
        → (by_island w replies group o).finding ≡ is_shown links last signature → Is (by_island w replies group o)
    by_top some None f h = absurd cc
    by_top some (Some top) f h =
        let n = node_of w replies top (target_of group (Some top)) in
        by_standing top some f n (over_at top f) n.standing refl h

    by_records : (b : Bool) → (length group.records == 0) ≡ b
        → (cond b (record { group = group; signer = []; finding = has_no_set }) (by_island w replies group (island w.anchors (place group.owner) group.rtype))).finding ≡ is_shown links last signature
        → Is (cond b (record { group = group; signer = []; finding = has_no_set }) (by_island w replies group (island w.anchors (place group.owner) group.rtype)))
    by_records true f h = absurd cc
    by_records false f h = by_top (eqb-false (length group.records) 0 f) (island w.anchors (place group.owner) group.rtype) refl h
