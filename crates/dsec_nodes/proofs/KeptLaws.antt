-- Each node that is made below a held zone is kept (RFC 4035 4.5, 5.2).
use Rattle.std.proofs.Common.{◌≡◌, ℕ, ◌+◌, ◌≤◌, false, List, [], ◌∷◌, ◌++◌, Option, Some, refl, sym, ap, ◌∙◌, subst, inl, inr, arith}
use Rattle.std.specs.Prelude.{min}
use Rattle.std.proofs.Math.Nat.{min-le_left, min-le_right}
use Rattle.std.proofs.lemmas.Bool.{true≢false}
use Rattle.dsec_spec.specs.Names.{Place, place, IsStrictlyBelow}
use Rattle.dsec_spec.specs.Numbers.{IN, DS, DNSKEY}
use Rattle.dsec_spec.specs.Records.{Record, RecordSet, Key, Rrsig, rrsig_of}
use Rattle.dsec_spec.specs.SignedBytes.{IsExpansion}
use Rattle.dsec_spec.specs.Answering.{is_expansion}
use Rattle.dsec_spec.specs.Groups.{Group, set_in}
use Rattle.dsec_spec.specs.Trying.{of_signature}
use Rattle.dsec_spec.specs.Chain as chain
use Rattle.dsec_spec.specs.Chain.{IsDsLink, IsKeyLink, IsSetLink, IsChain, Holds}
use Rattle.dsec_spec.proofs.AnsweringLemmas.{no_expansion}
use Rattle.dsec_spec.proofs.ChainLaws.{chain_goes_on}
use Rattle.dsec_nodes.specs.World.{World, moment, on_circle}
use Rattle.dsec_nodes.specs.Causes.{Cause}
use Rattle.dsec_nodes.specs.Nodes.{Node, Standing, apex, Kept, HoldsAt, Shows, Ground, IsBogus, cause_by}
use Rattle.dsec_nodes.specs.WithinCauses.{ShowsNoZone}
use Rattle.dsec_nodes.specs.Signing.{link_under, is_expanded, kept_for, time_left}
use Rattle.dsec_nodes.specs.Admission.{Admitted, admitted_link}
use Rattle.dsec_nodes.specs.MissingDs.{bogus_at, within_by, insecure_by}
use Rattle.dsec_nodes.specs.ByDs.{Pending, pending_by, ways, apex_by}
use Rattle.dsec_nodes.proofs.Lasting.{link_lasts, ds_link_lasts, key_link_lasts}
use Rattle.dsec_spec.specs.Lasting.{least_ttl, ttl_for_sig}
use Rattle.dsec_nodes.specs.Held.{GoodByDs, GoodPair, HeldZone, IsPending, KeptAt, SetAt}

-- a node of a zone that counts now is held
pub held : (w : World) (zone : Node) (keys : List (List ℕ)) → Kept w.accepts zone → zone.standing ≡ apex keys → zone.made ≤ w.now
    → w.now ≤ zone.made + zone.valid_for → HeldZone w zone keys
held w zone keys kept is from to =
    let k = kept (ap IsBogus is) in
    record {
      anchor = k.0;
      its = k.1;
      chain_to = λ s after before. (subst (λ (x : Standing). HoldsAt w.accepts zone.bounds k.0 zone.name zone.signer zone.links x (on_circle s)) is (k.2 s (omega (arith, from, after)) (omega (arith, from, to, before)))).1;
    }

-- a bogus node is kept: it says nothing
pub bogus_kept : (w : World) (name : Place) (cause : Cause) → KeptAt w name (bogus_at w name cause)
bogus_kept w name cause = (λ e. absurd (true≢false e), refl, omega arith, omega arith)

-- what is kept for as long as a group below a zone is kept for no longer than the zone, and than the group's signature counts
zone_longer : (w : World) (zone : Node) (group : Group) (r : Record) → kept_for w zone group r ≤ time_left w zone
zone_longer w zone group r = min-le_left (time_left w zone) (min (least_ttl group.records) (ttl_for_sig r (moment w)))

signature_longer : (w : World) (zone : Node) (group : Group) (r : Record) → kept_for w zone group r ≤ ttl_for_sig r (moment w)
signature_longer w zone group r =
    omega (arith, min-le_right (time_left w zone) (min (least_ttl group.records) (ttl_for_sig r (moment w))), min-le_right (least_ttl group.records) (ttl_for_sig r (moment w)))

-- the link of a set that a zone's key has signed, as long as the signature counts
set_link_lasts : (w : World) (zone : Node) (keys : List (List ℕ)) (group : Group) (p : Record × Key) (s : ℕ) → GoodPair w zone.signer keys group p
    → (group.rtype ≡ DS → IsStrictlyBelow (place group.owner) zone.signer) → w.now ≤ s → s ≤ w.now + kept_for w zone group p.0
    → IsSetLink w.accepts zone.signer keys (link_under chain.set keys group p) (on_circle s)
set_link_lasts w zone keys group p s g above from to = record {
  of_kind = refl;
  within = g.counts.signed.within;
  ds_above = λ is_ds _. above is_ds;
  by_held = g.says.there;
  signed = link_lasts w chain.set zone.signer keys group p s g from (omega (arith, to, signature_longer w zone group p.0));
}

-- a set that the test doesn't take for an expansion is none
whole_set : (group : Group) (signature : Record) (sig : Rrsig) → rrsig_of signature.rdata ≡ Some sig → is_expanded group signature ≡ false
    → IsExpansion sig.labels group.owner → ⊥
whole_set group signature sig reads whole =
    no_expansion sig.labels group.owner (sym (ap (of_signature (λ one. is_expansion one.labels group.owner)) reads) ∙ whole)

-- a set that shows that no zone begins at a name is no DS set
never_ds : (c zone : Place) (set : RecordSet) → ShowsNoZone c zone set → set.rtype ≡ DS → ⊥
never_ds c zone set (inl alias) e = let both = sym alias.of_type ∙ e in omega (arith, both)
never_ds c zone set (inr (inl one)) e = let both = sym one.1.of_type ∙ e in omega (arith, both)
never_ds c zone set (inr (inr own)) e = let both = sym own.hashed.is_nsec3.of_type ∙ e in omega (arith, both)

-- a node within a held zone is kept, by a set of the zone's that shows that no zone begins at its name
pub within_kept : (w : World) (zone : Node) (keys : List (List ℕ)) (name : Place) (group : Group) (p : Record × Key) → HeldZone w zone keys
    → GoodPair w zone.signer keys group p → IsStrictlyBelow name zone.signer → group.class ≡ IN → is_expanded group p.0 ≡ false
    → ShowsNoZone name zone.signer (set_in group) → KeptAt w name (within_by w zone keys name group p)
within_kept w zone keys name group p h g below classed whole shows = (
  λ e. (
    h.anchor,
    h.its,
    λ s from to. record {
      keys = keys;
      leads = h.chain_to s from (omega (arith, to, zone_longer w zone group p.0));
      is_set = set_link_lasts w zone keys group p s g (λ is_ds. absurd (never_ds name zone.signer (set_in group) shows is_ds)) from to;
      below = below;
      of_class = classed;
      signature = g.counts.signature;
      reads = g.counts.reads_signature;
      no_expansion = whole_set group p.0 g.counts.signature g.counts.reads_signature whole;
      shows = shows;
    },
  ),
  refl,
  omega arith,
  omega arith,
)

-- a DS set strictly below a zone that a key of the zone's has signed, and no expansion, is one as the zone has signed it (RFC 4035 5.2)
pub is_pending : (w : World) (zone : Node) (keys : List (List ℕ)) (name : Place) (group : Group) (p : Record × Key)
    → GoodPair w zone.signer keys group p → SetAt name DS group → IsStrictlyBelow name zone.signer → is_expanded group p.0 ≡ false
    → IsPending w zone keys (pending_by w zone keys name group p)
is_pending w zone keys name group p g at below whole = record {
  at = at.at;
  no_longer = zone_longer w zone group p.0;
  signed = λ s from to. ds_link_lasts w zone.signer keys name group p s g at below
      (whole_set group p.0 g.counts.signature g.counts.reads_signature whole) from (omega (arith, to, signature_longer w zone group p.0));
}

-- a zone below a zone: a kept chain goes on by a DS link and a key link (RFC 4035 5.2)
pub apex_kept : (w : World) (zone : Node) (keys : List (List ℕ)) (pending : Pending) (group : Group) (p : Record × Admitted (List ℕ))
    → HeldZone w zone keys → IsPending w zone keys pending
    → GoodByDs w group (ways w pending) p → SetAt pending.name DNSKEY group → KeptAt w pending.name (apex_by w zone pending group p)
apex_kept w zone keys pending group p h d g at =
    let rest = min (least_ttl group.records) (ttl_for_sig p.0 (moment w)) in (
      λ e. (
        h.anchor,
        h.its,
        λ s from to.
            let a : s ≤ w.now + pending.valid_for = omega (arith, to, min-le_left pending.valid_for rest) in
            let b : s ≤ w.now + time_left w zone = omega (arith, a, d.no_longer) in
            let c : s ≤ w.now + ttl_for_sig p.0 (moment w) = omega (arith, to, min-le_right pending.valid_for rest, min-le_right (least_ttl group.records) (ttl_for_sig p.0 (moment w))) in
            let link = admitted_link chain.key p.1.way group p in (
              refl,
              subst (λ (z : Place). IsChain w.accepts (h.anchor ∷ []) (zone.links ++ pending.link ∷ link ∷ []) z (set_in group).datas (on_circle s)) at.at
                  (chain_goes_on w.accepts (h.anchor ∷ []) zone.links zone.signer keys (on_circle s) pending.link link (h.chain_to s from b) (d.signed s from a)
                  (key_link_lasts w pending.name pending.link w.bounds.max_keys_for_ds group w.bounds.max_ds_records p s g at d.at from c)),
            ),
      ),
      refl,
      omega arith,
      omega arith,
    )

-- a name strictly below the zone to which no chain leads, by a set that shows it; a DS set stands at the name
pub insecure_kept : (w : World) (zone : Node) (keys : List (List ℕ)) (name : Place) (cause : Option Cause) (basis : Ground) (group : Group) (p : Record × Key) → HeldZone w zone keys → GoodPair w zone.signer keys group p
    → (group.rtype ≡ DS → place group.owner ≡ name) → group.class ≡ IN → IsStrictlyBelow name zone.signer → is_expanded group p.0 ≡ false
    → Shows w.bounds basis name zone.signer (set_in group) → cause ≡ cause_by basis
    → KeptAt w name (insecure_by w zone keys name cause basis group p)
insecure_kept w zone keys name cause basis group p h g at classed below whole shows told = (
  λ e. (
    h.anchor,
    h.its,
    λ s from to.
        let link = link_under chain.set keys group p in
        let shown : Holds w.accepts (h.anchor ∷ []) (zone.links ++ link ∷ []) (set_in group) (on_circle s) = record {
          chain = zone.links;
          last = link;
          zone = zone.signer;
          keys = keys;
          are = refl;
          leads = h.chain_to s from (omega (arith, to, zone_longer w zone group p.0));
          shows = set_link_lasts w zone keys group p s g (λ is_ds. subst (λ (n : Place). IsStrictlyBelow n zone.signer) (sym (at is_ds)) below) from to;
          same = refl;
        } in
        record {
          shows = record {
            set = set_in group;
            holds = shown;
            below = below;
            of_class = classed;
            signature = g.counts.signature;
            reads = g.counts.reads_signature;
            no_expansion = whole_set group p.0 g.counts.signature g.counts.reads_signature whole;
            shows = shows;
          };
          told = told;
          to_zone = refl;
          its_own = refl;
        },
  ),
  refl,
  omega arith,
  omega arith,
)

-- a node that isn't bogus has the anchor of the zone above it
abbrev pub Follows : Node → Node → Type 0
Follows zone n = IsBogus n.standing ≡ false → n.anchor ≡ zone.anchor

-- a node of this name that is kept, follows from a zone, and was made within the taker's bounds
abbrev pub KeptBelow : World → Node → Place → Node → Type 0
KeptBelow w zone name n = KeptAt w name n × Follows zone n × (n.bounds ≡ w.bounds)

-- a bogus node is kept, and follows from each zone
pub bogus_below : (w : World) (zone : Node) (name : Place) (cause : Cause) → KeptBelow w zone name (bogus_at w name cause)
bogus_below w zone name cause = (bogus_kept w name cause, λ e. absurd (true≢false e), refl)
