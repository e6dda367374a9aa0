-- The node of an island is kept.
use Rattle.std.proofs.Common.{◌≡◌, ℕ, ◌&&◌, ◌==◌, ◌+◌, ◌≤◌, Bool, true, false, cond, List, [], ◌∷◌, Option, Some, None, refl, sym, ap, ◌∙◌, subst, arith, inl, inr, ◌⊎◌}
use Rattle.std.specs.Prelude.{Contains, position, find, flat_map, slice_get, min}
use Rattle.std.specs.List.{position_or_len}
use Rattle.std.specs.Prelude.{length, nat_lt}
use Rattle.std.specs.Str.{bytes_eq}
use Rattle.std.proofs.Math.Nat.{min-le_right}
use Rattle.std.proofs.lemmas.Bool.{and_parts, eqb-true, true≢false}
use Rattle.std.proofs.lemmas.Option.{same_Some}
use Rattle.std.proofs.lemmas.Slice.Eq.{bytes_eq-Decides}
use Rattle.dsec_spec.specs.Names.{Place, place, same_place}
use Rattle.dsec_spec.specs.Numbers.{IN, DS, DNSKEY}
use Rattle.dsec_spec.specs.Records.{Record, Key, key_of, beside}
use Rattle.dsec_spec.specs.KeySearch.{KeySearch, found_at, not_found, too_many}
use Rattle.dsec_spec.specs.Groups.{Group, set_in}
use Rattle.dsec_spec.specs.Trying.{Tried, good, nothing, all_bad, too_many_bad, pair_signs}
use Rattle.dsec_spec.specs.Chain as chain
use Rattle.dsec_spec.specs.Chain.{Link, IsKeySet, IsAnchor, IsAnchorKeyLink, IsAnchorDsLink, IsChain}
use Rattle.dsec_spec.proofs.CanonicalNames.{same_place_decides}
use Rattle.dsec_spec.proofs.ReadingLemmas.{from_bind}
use Rattle.dsec_spec.proofs.Members.{first_in, from_find, in_map, at_index}
use Rattle.dsec_nodes.specs.Held.{GoodByAnchor, IsAdmittedByAnchor, KeptAt, SetAt, Speaks}
use Rattle.dsec_nodes.specs.Taking.{RestsAt}
use Rattle.dsec_nodes.specs.SoundSteps.{KeptUnder}
use Rattle.dsec_nodes.specs.World.{World, Replies, moment, on_circle}
use Rattle.dsec_nodes.specs.Causes.{Cause, NoDnskeyForAnchor, BadSignature, TooManyBadSignaturesForDnskey}
use Rattle.dsec_nodes.specs.Nodes.{within}
use Rattle.dsec_nodes.specs.Signing.{is_set_at}
use Rattle.dsec_nodes.specs.Admission.{Admitted, admitted_at, matching_by, ds_search, own_key, anchor_search, admitted_link, tried_by, cause_among}
use Rattle.dsec_nodes.specs.Replies.{Reply, failed, unreadable, sections, read_reply}
use Rattle.dsec_nodes.specs.MissingDs.{bogus_at}
use Rattle.dsec_nodes.specs.Walk.{anchor_kind, anchored, anchored_by, anchored_in, by_anchor_reply, at_anchor}
use Rattle.dsec_nodes.proofs.Signs.{from_signs, from_tried, from_flat_map, from_search, from_ds_search, from_matching, mapped_at, after_those_failing}
use Rattle.dsec_nodes.proofs.Lasting.{set_at, signed_at, in_its_period}
use Rattle.dsec_nodes.proofs.KeptLaws.{bogus_kept}
use Rattle.dsec_spec.specs.Lasting.{least_ttl, ttl_for_sig}

-- an anchor of class IN at the set's place admits the key at an index
pub record IsPicked (group : Group) (anchor : Record) (k : ℕ) : Type 0 where
  pub stands_at : place anchor.owner ≡ place group.owner
  pub of_class : anchor.class ≡ IN
  pub speaks : (r : Record) (key : Key) → slice_get group.records k ≡ Some r → key_of r.rdata ≡ Some key → Speaks group anchor r.rdata key

found_own : (records : List Record) (rdata : List ℕ) (k : ℕ) → own_key (position (λ r. bytes_eq r.rdata rdata) records) ≡ found_at k
    → (r : Record) → slice_get records k ≡ Some r → rdata ≡ r.rdata
found_own records rdata k e r there = by (nat_lt (position_or_len test records) (length records)) e
  where
    test : Record → Bool
    test x = bytes_eq x.rdata rdata

    by : (b : Bool) → own_key (cond b (Some (position_or_len test records)) None) ≡ found_at k → rdata ≡ r.rdata
    by false f = absurd cc
    by true f =
        let same : position_or_len test records ≡ k = cc in
        sym ((bytes_eq-Decides r.rdata rdata).0 (after_those_failing test records r (ap (slice_get records) same ∙ there)))

from_anchor_search : (most : ℕ) (group : Group) (anchor : Record) (k : ℕ) → anchor_search most group anchor ≡ found_at k
    → IsPicked group anchor k
from_anchor_search most group anchor k e = by_place (same_place (place anchor.owner) (place group.owner) && (anchor.class == IN)) refl e
  where
    with : (same_place (place anchor.owner) (place group.owner) && (anchor.class == IN)) ≡ true
        → ((r : Record) (key : Key) → slice_get group.records k ≡ Some r → key_of r.rdata ≡ Some key → Speaks group anchor r.rdata key)
        → IsPicked group anchor k
    with there speaks =
        let both = and_parts _ _ there in
        record { stands_at = (same_place_decides (place anchor.owner) (place group.owner)).0 both.0; of_class = eqb-true anchor.class IN both.1; speaks = speaks }

    by_ds : (same_place (place anchor.owner) (place group.owner) && (anchor.class == IN)) ≡ true → (b : Bool) → (anchor.rtype == DS) ≡ b
        → cond b (ds_search most group anchor.rdata) not_found ≡ found_at k → IsPicked group anchor k
    by_ds there true t f =
        let d = from_ds_search most group anchor.rdata k f in
        with there (λ r key stands reads. inr (eqb-true anchor.rtype DS t, (d.0, d.1, from_search d.0 group.owner most k (set_in group).datas r.rdata key d.2 (mapped_at (λ (x : Record). x.rdata) group.records k r stands) reads)))
    by_ds there false t f = absurd cc

    by_type : (same_place (place anchor.owner) (place group.owner) && (anchor.class == IN)) ≡ true → (b : Bool)
        → (anchor.rtype == DNSKEY) ≡ b
        → cond b (own_key (position (λ r. bytes_eq r.rdata anchor.rdata) group.records)) (cond (anchor.rtype == DS) (ds_search most group anchor.rdata) not_found) ≡ found_at k → IsPicked group anchor k
    by_type there true t f = with there (λ r key stands reads. inl (eqb-true anchor.rtype DNSKEY t, found_own group.records anchor.rdata k f r stands))
    by_type there false t f = by_ds there (anchor.rtype == DS) refl f

    by_place : (b : Bool) → (same_place (place anchor.owner) (place group.owner) && (anchor.class == IN)) ≡ b
        → cond b (cond (anchor.rtype == DNSKEY) (own_key (position (λ r. bytes_eq r.rdata anchor.rdata) group.records)) (cond (anchor.rtype == DS) (ds_search most group anchor.rdata) not_found)) not_found ≡ found_at k → IsPicked group anchor k
    by_place true t f = by_type t (anchor.rtype == DNSKEY) refl f
    by_place false t f = absurd cc

from_anchored : (most : ℕ) (group : Group) (anchor : Record) (one : Admitted Record)
    → admitted_at group anchor (anchor_search most group anchor) ≡ Some one → (anchor ≡ one.way) × IsAdmittedByAnchor group one
from_anchored most group anchor one e = by (anchor_search most group anchor) refl e
  where
    by : (a : KeySearch) → anchor_search most group anchor ≡ a → admitted_at group anchor a ≡ Some one
        → (anchor ≡ one.way) × IsAdmittedByAnchor group one
    by (found_at k) f g =
        let r = from_bind (slice_get group.records k) _ one g in
        let key = from_bind (key_of r.0.rdata) _ one r.2 in
        let picked = from_anchor_search most group anchor k f in
        let same : record { way = anchor; rdata = r.0.rdata; key = key.0 } ≡ one = same_Some _ _ key.2 in (
          ap (λ (x : Admitted Record). x.way) same,
          subst (IsAdmittedByAnchor group) same (record {
            stands_at = picked.stands_at;
            of_class = picked.of_class;
            its_own = in_map (λ (x : Record). x.rdata) group.records r.0 (at_index group.records k r.0 r.1);
            reads = key.1;
            speaks = picked.speaks r.0 key.0 r.1 key.1;
          }),
        )
    by not_found f g = absurd cc
    by too_many f g = absurd cc

-- what trying the keys that the anchors admit finds is good by one of them (RFC 4035 5)
pub from_tried_anchors : (w : World) (most : ℕ) (group : Group) (p : Record × Admitted Record)
    → tried_by w group (anchor_search most group) w.anchors ≡ good p → GoodByAnchor w group p
from_tried_anchors w most group p e =
    let found = from_tried (λ (q : Record × Admitted Record). pair_signs w.accepts (set_in group) (place group.owner) (moment w) (q.0, q.1.key)) w.bounds.room (flat_map (matching_by group (anchor_search most group)) w.anchors) p e in
    let one = from_flat_map (matching_by group (anchor_search most group)) w.anchors p found.1 in
    let both = from_anchored most group one.0 p.1 (from_matching group (admitted_at group one.0 (anchor_search most group one.0)) p one.2) in
    record {
      counts = from_signs w.accepts (set_in group) (place group.owner) (moment w) (p.0, p.1.key) found.0;
      listed = subst (λ (x : Record). Contains w.anchors x) both.0 one.1;
      is_admitted = both.1;
    }

-- the node of an island, by a DNSKEY set that an anchor admits, is kept: a chain of one link, for as long as its signature allows (RFC 4035 5, 5.3.3)
pub anchored_kept : (w : World) (top : Place) (group : Group) (p : Record × Admitted Record) → GoodByAnchor w group p
    → SetAt top DNSKEY group
    → KeptAt w top (anchored w top group p)
anchored_kept w top group p g at =
    let rest = min (least_ttl group.records) (ttl_for_sig p.0 (moment w)) in (
      λ e. (
        p.1.way,
        refl,
        λ s from to.
            let c : s ≤ w.now + ttl_for_sig p.0 (moment w) = omega (arith, to, min-le_right w.bounds.max_validity rest, min-le_right (least_ttl group.records) (ttl_for_sig p.0 (moment w))) in
            (refl, (by s from c g.is_admitted.speaks, (at.at, refl))),
      ),
      refl,
      omega arith,
      omega arith,
    )
  where
    link : chain.Link
    link = admitted_link (anchor_kind p.1.way) p.1.way.rdata group p

    key_set : (s : ℕ) → w.now ≤ s → s ≤ w.now + ttl_for_sig p.0 (moment w) → IsKeySet w.accepts link (on_circle s)
    key_set s from to = record {
      of_class = at.of_class;
      of_type = at.of_type;
      its_own = g.is_admitted.its_own;
      signed = record {
        public_key = p.1.key;
        reads = g.is_admitted.reads;
        signature = g.counts.signature;
        reads_signature = g.counts.reads_signature;
        signed = signed_at w.accepts (set_in group) (beside (set_in group) g.counts.signature) p.1.key (place group.owner) (moment w) (on_circle s) g.counts.signed
            (in_its_period p.0 g.counts.signature w.now s g.counts.reads_signature g.counts.signed.period from to);
      };
    }

    its : (rtype : ℕ) (rdata : List ℕ) → p.1.way.rtype ≡ rtype → p.1.way.rdata ≡ rdata
        → IsAnchor (p.1.way ∷ []) rtype (place group.owner) rdata
    its rtype rdata typed says = record { anchor = p.1.way; listed = first_in p.1.way []; of_class = g.is_admitted.of_class; of_type = typed; stands_at = g.is_admitted.stands_at; says = says }

    by : (s : ℕ) → w.now ≤ s → s ≤ w.now + ttl_for_sig p.0 (moment w) → Speaks group p.1.way p.1.rdata p.1.key
        → IsAnchorKeyLink w.accepts (p.1.way ∷ []) link (on_circle s) ⊎ IsAnchorDsLink w.accepts (p.1.way ∷ []) link (on_circle s)
    by s from to speaks = elim speaks [
      | inl own ↦ inl (record {
        of_kind = ap (λ (n : ℕ). cond (n == DS) chain.anchor_ds chain.anchor_key) own.0;
        key_set = key_set s from to;
        by_way_of = ap (λ (x : List ℕ). Some x) own.1;
        anchored = its DNSKEY p.1.rdata own.0 own.1;
      })
      | inr spoken ↦ inr (record {
        of_kind = ap (λ (n : ℕ). cond (n == DS) chain.anchor_ds chain.anchor_key) spoken.0;
        key_set = key_set s from to;
        ds_data = p.1.way.rdata;
        by_way_of = refl;
        anchored = its DS p.1.way.rdata spoken.0 refl;
        speaks = record { ds_record = spoken.1.0; public_key = p.1.key; reads_ds = spoken.1.1; reads_key = g.is_admitted.reads; matches = spoken.1.2 };
      })
    ]

-- the node of an island has an anchor that stands there
pub anchored_rests : (w : World) (top : Place) (group : Group) (p : Record × Admitted Record) → GoodByAnchor w group p → SetAt top DNSKEY group
    → RestsAt w.anchors top (anchored w top group p)
anchored_rests w top group p g at = record {
  anchor = p.1.way;
  its = refl;
  at = g.is_admitted.stands_at ∙ at.at;
  is_listed = g.listed;
}

bogus_under : (w : World) (top : Place) (cause : Cause) → KeptUnder w top top (bogus_at w top cause)
bogus_under w top cause = (bogus_kept w top cause, λ e. absurd (true≢false e), refl)

in_under : (w : World) (top : Place) (answers : List Group) (o : Option Group) → find (is_set_at top DNSKEY) answers ≡ o
    → KeptUnder w top top (anchored_in w top o)
in_under w top answers None e = bogus_under w top NoDnskeyForAnchor
in_under w top answers (Some group) e = by (tried_by w group (anchor_search w.bounds.max_keys_for_ds group) w.anchors) refl
  where
    why : Cause
    why = cause_among BadSignature group (anchor_search w.bounds.max_keys_for_ds group) w.anchors

    at : SetAt top DNSKEY group
    at = set_at top DNSKEY group (from_find (is_set_at top DNSKEY) answers group e).0

    by : (t : Tried (Record × Admitted Record)) → tried_by w group (anchor_search w.bounds.max_keys_for_ds group) w.anchors ≡ t
        → KeptUnder w top top (anchored_by w top group t)
    by (good p) f =
        let g = from_tried_anchors w w.bounds.max_keys_for_ds group p f in
        (anchored_kept w top group p g at, λ _. anchored_rests w top group p g at, refl)
    by nothing f = bogus_under w top why
    by all_bad f = bogus_under w top why
    by too_many_bad f = bogus_under w top TooManyBadSignaturesForDnskey

-- what the reply to the question for an island's DNSKEY set comes to is kept, from an anchor of the island's unless it is bogus
pub anchor_reply_under : (w : World) (top : Place) (reply : Reply) → KeptUnder w top top (by_anchor_reply w top reply)
anchor_reply_under w top failed = bogus_under w top NoDnskeyForAnchor
anchor_reply_under w top unreadable = bogus_under w top NoDnskeyForAnchor
anchor_reply_under w top (sections answers authorities) = in_under w top answers (find (is_set_at top DNSKEY) answers) refl

-- what the reply to the question for an island's DNSKEY set comes to is kept
pub anchor_reply_kept : (w : World) (top : Place) (reply : Reply) → KeptAt w top (by_anchor_reply w top reply)
anchor_reply_kept w top reply = (anchor_reply_under w top reply).0

-- the node of an island is kept
pub anchor_kept : (w : World) (replies : Replies) (top : Place) → KeptAt w top (at_anchor w replies top)
anchor_kept w replies top = anchor_reply_kept w top (read_reply (replies top DNSKEY))

-- what the reply for an island comes to is a zone, or bogus
pub anchor_reply_not_within : (w : World) (top : Place) (reply : Reply) (last : Link) → (by_anchor_reply w top reply).standing ≡ within last → ⊥
anchor_reply_not_within w top reply last = by_reply reply
  where
    by_tried : (group : Group) (t : Tried (Record × Admitted Record)) → (anchored_by w top group t).standing ≡ within last → ⊥
    by_tried group (good p) e = absurd cc
    by_tried group nothing e = absurd cc
    by_tried group all_bad e = absurd cc
    by_tried group too_many_bad e = absurd cc

    by_group : (o : Option Group) → (anchored_in w top o).standing ≡ within last → ⊥
    by_group None e = absurd cc
    by_group (Some group) e = by_tried group (tried_by w group (anchor_search w.bounds.max_keys_for_ds group) w.anchors) e

    by_reply : (reply : Reply) → (by_anchor_reply w top reply).standing ≡ within last → ⊥
    by_reply failed e = absurd cc
    by_reply unreadable e = absurd cc
    by_reply (sections answers authorities) e = by_group (find (is_set_at top DNSKEY) answers) e

-- an island's node isn't one that is within a zone
pub anchor_not_within : (w : World) (replies : Replies) (top : Place) (last : Link) → (at_anchor w replies top).standing ≡ within last → ⊥
anchor_not_within w replies top = anchor_reply_not_within w top (read_reply (replies top DNSKEY))
