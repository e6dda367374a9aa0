-- Links that last as long as what they rest on is kept.
use Rattle.std.proofs.Common.{◌≡◌, ℕ, ◌+◌, ◌≤◌, true, List, Option, Some, None, refl, sym, ap, ◌∙◌, subst, arith}
use Rattle.std.specs.Prelude.{min, take}
use Rattle.std.proofs.Math.Nat.{min-le_right}
use Rattle.std.proofs.lemmas.Bool.{false≢true, and_parts, eqb-true, cond-true}
use Rattle.std.proofs.lemmas.Option.{same_Some}
use Rattle.dsec_spec.specs.Names.{Place, place, IsStrictlyBelow}
use Rattle.dsec_spec.specs.Numbers.{IN, DS, DNSKEY}
use Rattle.dsec_spec.specs.Records.{Record, RecordSet, Key, Ds, ds_of, Rrsig, RrsigRecord, rrsig_of, beside}
use Rattle.dsec_spec.specs.Accepts.{Accepts}
use Rattle.dsec_spec.specs.Period.{InPeriod, in_period, seconds_after}
use Rattle.dsec_spec.specs.Signed.{Signed}
use Rattle.dsec_spec.specs.SignedBytes.{IsExpansion}
use Rattle.dsec_spec.specs.Groups.{Group, set_in}
use Rattle.dsec_spec.specs.DelegationSigner.{IsSupported}
use Rattle.dsec_spec.specs.Chain as chain
use Rattle.dsec_spec.specs.Chain.{IsSigned, IsKeySet, IsDsLink, IsKeyLink, IsSetLink, IsChain}
use Rattle.dsec_spec.proofs.CanonicalNames.{same_place_decides}
use Rattle.dsec_spec.proofs.Members.{from_filter, from_take}
use Rattle.dsec_spec.proofs.SignedTests.{period_decides}
use Rattle.dsec_nodes.specs.World.{World, moment, on_circle}
use Rattle.dsec_nodes.specs.Signing.{link_under, is_set_at}
use Rattle.dsec_nodes.specs.Admission.{Admitted, admitted_link}
use Rattle.dsec_nodes.specs.ByDs.{usable, is_usable, is_supported}
use Rattle.dsec_nodes.proofs.Periods.{lasts}
use Rattle.dsec_spec.specs.Lasting.{seconds_left, ttl_by, ttl_for_sig}
use Rattle.dsec_nodes.specs.Held.{GoodByDs, GoodPair, SetAt}

-- a signature that is good now is so at each moment for which it may be kept
pub in_its_period : (r : Record) (sig : Rrsig) (now s : ℕ) → rrsig_of r.rdata ≡ Some sig
    → InPeriod sig.inception sig.expiration (on_circle now)
    → now ≤ s → s ≤ now + ttl_for_sig r (on_circle now) → InPeriod sig.inception sig.expiration (on_circle s)
in_its_period r sig now s reads p from to =
    let after = seconds_after (on_circle now) sig.expiration in
    let left : seconds_left sig (on_circle now) ≡ after = cond-true (in_period sig.inception sig.expiration (on_circle now)) after 0 ((period_decides sig.inception sig.expiration (on_circle now)).1 p) in
    let is : ttl_for_sig r (on_circle now) ≡ min r.ttl (min sig.original_ttl after) = ap (ttl_by r.ttl (on_circle now)) reads ∙ ap (λ (n : ℕ). min r.ttl (min sig.original_ttl n)) left in
    lasts sig.inception sig.expiration now s p from (omega (arith, to, is, min-le_right r.ttl (min sig.original_ttl after), min-le_right sig.original_ttl after))

-- all but the period stays
pub signed_at : (accepts : Accepts) (set : RecordSet) (sig : RrsigRecord) (key : Key) (zone : Place) (t u : ℕ)
    → Signed accepts set sig key zone t → InPeriod sig.rrsig.inception sig.rrsig.expiration u → Signed accepts set sig key zone u
signed_at accepts set sig key zone t u s p = record {
  same_owner = s.same_owner;
  same_class = s.same_class;
  covers = s.covers;
  signer = s.signer;
  within = s.within;
  labels = s.labels;
  algorithm = s.algorithm;
  tag = s.tag;
  zone_key = s.zone_key;
  period = p;
  accepted = s.accepted;
}

-- a link of a set that a zone's key has signed is signed for as long
pub link_lasts : (w : World) (kind : chain.LinkKind) (zone : Place) (keys : List (List ℕ)) (group : Group) (p : Record × Key) (s : ℕ)
    → GoodPair w zone keys group p
    → w.now ≤ s → s ≤ w.now + ttl_for_sig p.0 (moment w) → IsSigned w.accepts (link_under kind keys group p) zone (on_circle s)
link_lasts w kind zone keys group p s g from to = record {
  public_key = p.1;
  reads = g.says.reads;
  signature = g.counts.signature;
  reads_signature = g.counts.reads_signature;
  signed = signed_at w.accepts (set_in group) (beside (set_in group) g.counts.signature) p.1 zone (moment w) (on_circle s) g.counts.signed
      (in_its_period p.0 g.counts.signature w.now s g.counts.reads_signature g.counts.signed.period from to);
}

-- a group that passes the test is the set of class IN of this type at the place
pub set_at : (name : Place) (rtype : ℕ) (group : Group) → is_set_at name rtype group ≡ true → SetAt name rtype group
set_at name rtype group e =
    let both = and_parts _ _ e in
    let front = and_parts _ _ both.0 in
    record { at = (same_place_decides (place group.owner) name).0 front.0; of_class = eqb-true group.class IN front.1; of_type = eqb-true group.rtype rtype both.1 }

-- the link of a DS set below a zone that is no expansion of a wildcard
pub ds_link_lasts : (w : World) (zone : Place) (keys : List (List ℕ)) (name : Place) (group : Group) (p : Record × Key) (s : ℕ)
    → (g : GoodPair w zone keys group p) → SetAt name DS group → IsStrictlyBelow name zone
    → (IsExpansion g.counts.signature.labels group.owner → ⊥) → w.now ≤ s → s ≤ w.now + ttl_for_sig p.0 (moment w)
    → IsDsLink w.accepts zone keys (link_under chain.ds keys group p) (on_circle s)
unfolding link_lasts
ds_link_lasts w zone keys name group p s g at below whole from to = record {
  of_kind = refl;
  of_class = at.of_class;
  of_type = at.of_type;
  below = subst (λ (n : Place). IsStrictlyBelow n zone) (sym at.at) below;
  by_held = g.says.there;
  signed = link_lasts w chain.ds zone keys group p s g from to;
  no_expansion = whole;
}

supported_by : (o : Option Ds) → is_supported o ≡ true → (ds : Ds) × (o ≡ Some ds) × IsSupported ds
supported_by None e = absurd (false≢true e)
supported_by (Some ds) e = let both = and_parts _ _ e in (ds, refl, record { known_algorithm = both.0; known_digest = both.1 })

-- the link of a key set that a supported record of a DS set admits
pub key_link_lasts : (w : World) (name : Place) (above : chain.Link) (most : ℕ) (group : Group) (some : ℕ) (p : Record × Admitted (List ℕ)) (s : ℕ) → GoodByDs w group (take some (usable above.records.datas)) p
    → SetAt name DNSKEY group → place above.records.owner ≡ name
    → w.now ≤ s → s ≤ w.now + ttl_for_sig p.0 (moment w) → IsKeyLink w.accepts above (admitted_link chain.key p.1.way group p) (on_circle s)
key_link_lasts w name above most group some p s g at above_at from to =
    let there = from_filter is_usable above.records.datas p.1.way (from_take some (usable above.records.datas) p.1.way g.listed) in
    let supported = supported_by (ds_of p.1.way) there.0 in
    record {
      of_kind = refl;
      key_set = record {
        of_class = at.of_class;
        of_type = at.of_type;
        its_own = g.is_admitted.its_own;
        signed = record {
          public_key = p.1.key;
          reads = g.is_admitted.reads;
          signature = g.counts.signature;
          reads_signature = g.counts.reads_signature;
          signed = signed_at w.accepts (set_in group) (beside (set_in group) g.counts.signature) p.1.key (place group.owner) (moment w) (on_circle s) g.counts.signed
              (in_its_period p.0 g.counts.signature w.now s g.counts.reads_signature g.counts.signed.period from to);
        };
      };
      same_owner = at.at ∙ sym above_at;
      ds_data = p.1.way;
      by_way_of = refl;
      in_ds_set = there.1;
      speaks = record { ds_record = g.is_admitted.ds; public_key = p.1.key; reads_ds = g.is_admitted.says; reads_key = g.is_admitted.reads; matches = g.is_admitted.matches };
      supported = let same : Some supported.0 ≡ Some g.is_admitted.ds = sym supported.1 ∙ g.is_admitted.says in subst IsSupported (same_Some _ _ same) supported.2;
    }
