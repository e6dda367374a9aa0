-- The links of a group that is found to be bogus lead to the keys of its zone, or there are none.
use Rattle.std.proofs.Common.{◌≡◌, ℕ, ◌+◌, ◌-◌, ◌==◌, Bool, true, false, cond, List, [], ◌∷◌, length, Option, Some, None, refl, sym, ap, ◌∙◌, subst, inl, inr}
use Rattle.std.specs.Prelude.{Contains}
use Rattle.std.proofs.lemmas.Option.{same_Some}
use Rattle.dsec_spec.specs.Names.{Place, place}
use Rattle.dsec_spec.specs.Records.{Record, Key}
use Rattle.dsec_spec.specs.Groups.{Group}
use Rattle.dsec_spec.specs.Islands.{island}
use Rattle.dsec_spec.specs.Trying.{Tried, good, nothing, all_bad, too_many_bad}
use Rattle.dsec_spec.specs.Chain.{Link}
use Rattle.dsec_spec.proofs.IslandLemmas.{island_is, one_looked_for}
use Rattle.dsec_nodes.specs.World.{World, Replies, moment}
use Rattle.dsec_nodes.specs.Causes.{Cause}
use Rattle.dsec_nodes.specs.Nodes.{Node, Standing, apex, within, insecure, bogus, IsBogus, HoldsAt}
use Rattle.dsec_nodes.specs.Signing.{under_keys}
use Rattle.dsec_nodes.specs.Walk.{Reached, way, node_of}
use Rattle.dsec_nodes.specs.SoundSteps.{OnTheWay}
use Rattle.dsec_nodes.specs.Judging.{Finding, is_shown, is_insecure, is_bogus, has_no_set, is_indeterminate, Judged, AllJudged, all, one_bogus, and_others, found_by, found_at, target_of, by_island, judged_of, judged_all}
use Rattle.dsec_nodes.specs.SoundFindings.{LeadTo}
use Rattle.dsec_nodes.proofs.WalkLaws.{node_on_way}
use Rattle.dsec_nodes.proofs.AmongLaws.{chain_among}
use Rattle.dsec_nodes.proofs.ShownLaws.{target_between}

-- what a node on the way is known to be, from one of the anchors
module _ (w : World) (top name : Place) (labels : ℕ) (r : Reached) (o : OnTheWay w top name labels r) where
  holds_now : (s : Standing) → r.node.standing ≡ s → IsBogus s ≡ false
      → (anchor : Record) × Contains w.anchors anchor × HoldsAt w.accepts r.node.bounds anchor r.node.name r.node.signer r.node.links s (moment w)
  holds_now s e sure =
      let known : IsBogus r.node.standing ≡ false = ap IsBogus e ∙ sure in
      let kept = o.node_kept known in
      let rests = o.node_rests known in
      let same : rests.anchor ≡ kept.0 = same_Some _ _ (sym rests.its ∙ kept.1) in (
        kept.0,
        subst (Contains w.anchors) same rests.is_listed,
        subst (λ (x : Standing). HoldsAt w.accepts r.node.bounds kept.0 r.node.name r.node.signer r.node.links x (moment w)) e (kept.2 w.now o.from o.to),
      )

  -- the links of a zone lead to its keys
  pub zone_leads : (keys : List (List ℕ)) → r.node.standing ≡ apex keys → LeadTo w r.node.links r.node.signer
  zone_leads keys e =
      let h = holds_now (apex keys) e refl in
      inr (keys, chain_among w.accepts h.0 w.anchors r.node.links r.node.signer keys (moment w) h.1 h.2.1)

  -- those of a name within a zone to the zone's
  pub within_leads : (last : Link) → r.node.standing ≡ within last → LeadTo w r.node.links r.node.signer
  within_leads last e =
      let h = holds_now (within last) e refl in
      inr (h.2.keys, chain_among w.accepts h.0 w.anchors r.node.links r.node.signer h.2.keys (moment w) h.1 h.2.leads)

-- so do those of a group that is found to be bogus (RFC 4035 5)
pub bogus_leads : (w : World) (replies : Replies) (group : Group) (cause : Cause) (links : List Link)
    → (judged_of w replies group).finding ≡ is_bogus cause links → LeadTo w links (judged_of w replies group).signer
bogus_leads w replies group cause links e = by_records (length group.records == 0) e
  where
    Leads : Judged → Type 0
    Leads j = j.finding ≡ is_bogus cause links → LeadTo w links j.signer

    by_tried : (n : Node) (keys : List (List ℕ)) → LeadTo w n.links n.signer → (t : Tried (Record × Key)) → found_by group n keys t ≡ is_bogus cause links
        → LeadTo w links n.signer
    by_tried n keys leads (good p) h = absurd cc
    by_tried n keys leads nothing h = let same : n.links ≡ links = cc in subst (λ (x : List Link). LeadTo w x n.signer) same leads
    by_tried n keys leads all_bad h = let same : n.links ≡ links = cc in subst (λ (x : List Link). LeadTo w x n.signer) same leads
    by_tried n keys leads too_many_bad h = let same : n.links ≡ links = cc in subst (λ (x : List Link). LeadTo w x n.signer) same leads

    by_standing : (top : Place) (labels : ℕ) (r : Reached) → OnTheWay w top (target_of group (Some top)) labels r → (s : Standing) → r.node.standing ≡ s
        → found_at w group r.node s ≡ is_bogus cause links → LeadTo w links r.node.signer
    by_standing top labels r o (apex keys) g h =
        by_tried r.node keys (zone_leads w top (target_of group (Some top)) labels r o keys g) (under_keys w r.node.signer keys group) h
    by_standing top labels r o (within last) g h =
        let same : r.node.links ≡ links = cc in
        subst (λ (x : List Link). LeadTo w x r.node.signer) same (within_leads w top (target_of group (Some top)) labels r o last g)
    by_standing top labels r o (insecure c signed) g h = absurd cc
    by_standing top labels r o (bogus c) g h = let none : [] ≡ links = cc in inl (sym none)

    by_top : (o : Option Place) → island w.anchors (place group.owner) group.rtype ≡ o → Leads (by_island w replies group o)
    by_top None f h = absurd cc
    by_top (Some top) f h =
        let target = target_of group (Some top) in
        let i = island_is w.anchors (place group.owner) group.rtype top f in
        let from_is = one_looked_for (place group.owner) group.rtype i.from i.looked_for in
        let labels = length target - length top in
        by_standing top (length top + labels) (way w replies top target labels)
        (node_on_way w replies top target (target_between group top i.from from_is i.above).0) (node_of w replies top target).standing refl h

    by_records : (b : Bool)
        → Leads (cond b (record { group = group; signer = []; finding = has_no_set }) (by_island w replies group (island w.anchors (place group.owner) group.rtype)))
    by_records true h = absurd cc
    by_records false h = by_top (island w.anchors (place group.owner) group.rtype) refl h

-- and those of the first bogus one of groups (RFC 4035 5)
pub first_leads : (w : World) (replies : Replies) (groups : List Group) (cause : Cause) (links : List Link) → judged_all w replies groups ≡ one_bogus cause links
    → (zone : Place) × LeadTo w links zone
unfolding judged_all
first_leads w replies [] cause links e = absurd cc
first_leads w replies (g ∷ gs) cause links e = by (judged_of w replies g).finding refl (judged_all w replies gs) (first_leads w replies gs cause links) e
  where
    j : Judged
    j = judged_of w replies g

    by : (f : Finding) → j.finding ≡ f → (rest : AllJudged) → (rest ≡ one_bogus cause links → (zone : Place) × LeadTo w links zone)
        → and_others j f rest ≡ one_bogus cause links → (zone : Place) × LeadTo w links zone
    by (is_bogus c ls) f rest later h =
        let same_cause : c ≡ cause = cc in
        let same : ls ≡ links = cc in
        (j.signer, bogus_leads w replies g cause links (f ∙ (ap (λ (x : Cause). is_bogus x ls) same_cause ∙ ap (is_bogus cause) same)))
    by (is_shown ls last signature) f (all js) later h = absurd cc
    by has_no_set f (all js) later h = absurd cc
    by (is_insecure c signed) f (all js) later h = absurd cc
    by is_indeterminate f (all js) later h = absurd cc
    by (is_shown ls last signature) f (one_bogus c others) later h = later h
    by has_no_set f (one_bogus c others) later h = later h
    by (is_insecure c2 signed) f (one_bogus c others) later h = later h
    by is_indeterminate f (one_bogus c others) later h = later h
