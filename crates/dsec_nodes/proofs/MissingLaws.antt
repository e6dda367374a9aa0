-- What is known of a name without a DS set is kept.
use Rattle.std.proofs.Common.{◌≡◌, ℕ, ◌&&◌, ◌==◌, true, false, List, [], ◌∷◌, map, Option, Some, None, refl, sym, ap, ◌∙◌, inl, inr}
use Rattle.std.proofs.lemmas.Bool.{true≢false, and_parts, eqb-true}
use Rattle.dsec_spec.specs.Names.{Place, place, same_place, is_below, is_strictly_below, IsStrictlyBelow}
use Rattle.dsec_spec.specs.Numbers.{IN, NS, SOA, DS, NSEC, DNAME}
use Rattle.dsec_spec.specs.Records.{Record, Key}
use Rattle.dsec_spec.specs.RecordViews.{Nsec, nsec_of}
use Rattle.dsec_spec.specs.Groups.{Group, set_in}
use Rattle.dsec_spec.proofs.CanonicalNames.{same_place_decides}
use Rattle.dsec_spec.proofs.SignedTests.{below_decides, strictly_below_decides}
use Rattle.dsec_nodes.specs.World.{World}
use Rattle.dsec_nodes.specs.Causes.{NsecForDsFromWildcard, NsecProvesDs, NsecForDsFromApex, PrefixNsecFromWildcard, PrefixNsecIsDname, PrefixNsecIsDelegation, EmptyNonTerminalNsecFromWildcard, NoProofForMissingDs}
use Rattle.dsec_nodes.specs.Nodes.{Node, nsec_without_ds}
use Rattle.dsec_nodes.specs.SignedCauses.{nsec_at}
use Rattle.dsec_nodes.specs.WithinCauses.{IsOneNsec}
use Rattle.dsec_nodes.specs.Signing.{under_keys, is_expanded}
use Rattle.dsec_nodes.specs.MissingDs.{Looked, decided, passed, is_in_range, delegates, by_matching, by_covering, by_range, by_prefix, by_nsec, by_records, by_group, then_looked, nsec_search, nsec3_search, by_looked, missing_ds}
use Rattle.dsec_nodes.proofs.LookedLaws.{LookedKept, either, signed_kept, then_kept, among_kept}
use Rattle.dsec_nodes.specs.MissingByHash.{by_hashed_group}
use Rattle.dsec_nodes.proofs.HashLaws.{hashed_group_kept}
use Rattle.dsec_nodes.proofs.DecidingLaws.{in_range}
use Rattle.dsec_nodes.proofs.KeptLaws.{KeptBelow, bogus_below, within_kept, insecure_kept}
use Rattle.dsec_spec.specs.TypeBitmaps.{has_type}
use Rattle.dsec_nodes.specs.Held.{GoodPair, HeldZone, KeptAt}

-- one record of NSEC, below a held zone
pub record NsecGroup (w : World) (zone : Node) (keys : List (List ℕ)) (name : Place) (group : Group) (nsec : Nsec) : Type 0 where
  pub zone_held : HeldZone w zone keys
  pub below : IsStrictlyBelow name zone.signer
  pub of_class : group.class ≡ IN
  pub of_type : group.rtype ≡ NSEC
  pub one : Record
  pub alone : group.records ≡ one ∷ []
  pub reads : nsec_of one.rdata ≡ Some nsec

one_nsec : (w : World) (zone : Node) (keys : List (List ℕ)) (name : Place) (group : Group) (nsec : Nsec) → NsecGroup w zone keys name group nsec
    → IsOneNsec (set_in group) (nsec_at (set_in group) nsec)
one_nsec w zone keys name group nsec n =
    record { of_type = n.of_type; rdata = n.one.rdata; alone = ap (map (λ (r : Record). r.rdata)) n.alone; nsec = nsec; reads = n.reads; is = refl }

matching_kept : (w : World) (zone : Node) (keys : List (List ℕ)) (name : Place) (group : Group) (nsec : Nsec) (p : Record × Key)
    → NsecGroup w zone keys name group nsec → place group.owner ≡ name
    → GoodPair w zone.signer keys group p → LookedKept w zone name (by_matching w zone keys name group nsec p)
matching_kept w zone keys name group nsec p n at g =
    either (LookedKept w zone name) (is_expanded group p.0) _ _ (λ _. bogus_below w zone name NsecForDsFromWildcard) (λ whole.
    either (LookedKept w zone name) (has_type nsec.types DS) _ _ (λ _. bogus_below w zone name NsecProvesDs) (λ no_ds.
    either (LookedKept w zone name) (has_type nsec.types SOA) _ _ (λ _. bogus_below w zone name NsecForDsFromApex) (λ no_apex.
    either (LookedKept w zone name) (has_type nsec.types NS) _ _
    (λ cut. (
      insecure_kept w zone keys name None nsec_without_ds group p n.zone_held g (λ _. at) n.of_class n.below whole (record {
        of_type = n.of_type;
        rdata = n.one.rdata;
        alone = ap (map (λ (r : Record). r.rdata)) n.alone;
        nsec = nsec;
        reads = n.reads;
        matches = at;
        delegates = cut;
        no_ds = no_ds;
        no_apex = no_apex;
      }) refl,
      λ _. refl,
      refl,
    ))
    (λ no_cut. (
      within_kept w zone keys name group p n.zone_held g n.below n.of_class whole (inr (inl (
        nsec_at (set_in group) nsec,
        one_nsec w zone keys name group nsec n,
        inl (record { matches = at; no_delegation = no_cut; no_ds = no_ds; no_apex = no_apex }),
      ))),
      λ _. refl,
      refl,
    )))))

range_kept : (w : World) (zone : Node) (keys : List (List ℕ)) (name : Place) (group : Group) (nsec : Nsec)
    → NsecGroup w zone keys name group nsec → (IsStrictlyBelow name (place group.owner) → has_type nsec.types DNAME ≡ false)
    → (IsStrictlyBelow name (place group.owner) → delegates nsec ≡ false) → LookedKept w zone name (by_range w zone keys name group nsec)
range_kept w zone keys name group nsec n no_dname no_delegation =
    either (LookedKept w zone name) (is_in_range (place group.owner) (place nsec.next_name) name && is_below (place nsec.next_name) name) _ _
    (λ found. signed_kept w zone keys name group (by_covering w zone keys name group) (under_keys w zone.signer keys group) refl (λ p g.
    either (LookedKept w zone name) (is_expanded group p.0) _ _ (λ _. bogus_below w zone name EmptyNonTerminalNsecFromWildcard) (λ whole. (
      within_kept w zone keys name group p n.zone_held g n.below n.of_class whole (inr (inl (
        nsec_at (set_in group) nsec,
        one_nsec w zone keys name group nsec n,
        inr (record {
          covers = in_range (place group.owner) (place nsec.next_name) name (and_parts _ _ found).0;
          next_below = (below_decides (place nsec.next_name) name).0 (and_parts _ _ found).1;
          no_dname = no_dname;
          no_delegation = no_delegation;
        }),
      ))),
      λ _. refl,
      refl,
    ))))
    (λ _. tt)

prefix_kept : (w : World) (zone : Node) (keys : List (List ℕ)) (name : Place) (group : Group) (nsec : Nsec) (p : Record × Key)
    → NsecGroup w zone keys name group nsec → LookedKept w zone name (by_prefix w zone keys name group nsec p)
prefix_kept w zone keys name group nsec p n =
    either (LookedKept w zone name) (is_expanded group p.0) _ _ (λ _. bogus_below w zone name PrefixNsecFromWildcard) (λ _.
    either (LookedKept w zone name) (has_type nsec.types DNAME) _ _ (λ _. bogus_below w zone name PrefixNsecIsDname) (λ no_dname.
    either (LookedKept w zone name) (delegates nsec) _ _ (λ _. bogus_below w zone name PrefixNsecIsDelegation) (λ no_delegation.
    range_kept w zone keys name group nsec n (λ _. no_dname) (λ _. no_delegation))))

nsec_kept : (w : World) (zone : Node) (keys : List (List ℕ)) (name : Place) (group : Group) (nsec : Nsec)
    → NsecGroup w zone keys name group nsec → LookedKept w zone name (by_nsec w zone keys name group (Some nsec))
nsec_kept w zone keys name group nsec n =
    either (LookedKept w zone name) (same_place (place group.owner) name) _ _
    (λ same. signed_kept w zone keys name group (by_matching w zone keys name group nsec) (under_keys w zone.signer keys group) refl (λ p g. matching_kept w zone keys name group nsec p n ((same_place_decides (place group.owner) name).0 same) g))
    (λ _. either (LookedKept w zone name) (is_strictly_below name (place group.owner)) _ _
    (λ _. signed_kept w zone keys name group (by_prefix w zone keys name group nsec) (under_keys w zone.signer keys group) refl (λ p g. prefix_kept w zone keys name group nsec p n))
    (λ none.
    let never : IsStrictlyBelow name (place group.owner) → ⊥ =
    λ s. true≢false (sym ((strictly_below_decides name (place group.owner)).1 s) ∙ none) in
    range_kept w zone keys name group nsec n (λ s. absurd (never s)) (λ s. absurd (never s))))

group_kept : (w : World) (zone : Node) (keys : List (List ℕ)) (name : Place) (group : Group) → HeldZone w zone keys
    → IsStrictlyBelow name zone.signer → LookedKept w zone name (by_group w zone keys name group)
group_kept w zone keys name group h below =
    either (LookedKept w zone name) ((group.rtype == NSEC) && (group.class == IN)) _ _ (λ e. by_list e group.records refl) (λ _. tt)
  where
    by_read : ((group.rtype == NSEC) && (group.class == IN)) ≡ true → (r : Record) → group.records ≡ r ∷ [] → (o : Option Nsec)
        → nsec_of r.rdata ≡ o → LookedKept w zone name (by_nsec w zone keys name group o)
    by_read e r f None g = tt
    by_read e r f (Some nsec) g =
        let both = and_parts _ _ e in
        nsec_kept w zone keys name group nsec (record { zone_held = h; below = below; of_class = eqb-true group.class IN both.1; of_type = eqb-true group.rtype NSEC both.0; one = r; alone = f; reads = g })

    by_list : ((group.rtype == NSEC) && (group.class == IN)) ≡ true → (rs : List Record) → group.records ≡ rs
        → LookedKept w zone name (by_records w zone keys name group rs)
    by_list e [] f = tt
    by_list e (r ∷ []) f = by_read e r f (nsec_of r.rdata) refl
    by_list e (r ∷ s ∷ rs) f = tt

-- what is known of a name by a reply without a DS set for it is kept, and follows from the zone
pub missing_below : (w : World) (zone : Node) (keys : List (List ℕ)) (name : Place) (groups : List Group) → HeldZone w zone keys
    → IsStrictlyBelow name zone.signer → KeptBelow w zone name (missing_ds w zone keys name groups)
missing_below w zone keys name groups h below = by (then_looked (nsec_search w zone keys name groups) (nsec3_search w zone keys name groups))
    (then_kept w zone name (nsec_search w zone keys name groups) (nsec3_search w zone keys name groups) (among_kept w zone name (by_group w zone keys name) (λ g. group_kept w zone keys name g h below) groups)
    (among_kept w zone name (by_hashed_group w zone keys name) (λ g. hashed_group_kept w zone keys name g h below) groups))
  where
    by : (l : Looked) → LookedKept w zone name l → KeptBelow w zone name (by_looked w name l)
    by (decided n) p = p
    by (passed None) p = bogus_below w zone name NoProofForMissingDs
    by (passed (Some cause)) p = bogus_below w zone name cause

-- what is known of a name by a reply without a DS set for it is kept
pub missing_kept : (w : World) (zone : Node) (keys : List (List ℕ)) (name : Place) (groups : List Group) → HeldZone w zone keys
    → IsStrictlyBelow name zone.signer → KeptAt w name (missing_ds w zone keys name groups)
missing_kept w zone keys name groups h below = (missing_below w zone keys name groups h below).0
