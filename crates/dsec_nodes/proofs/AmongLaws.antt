-- A chain from one of the anchors is a chain from them, begins where it stands, and leads to a zone at or below it.
use Rattle.std.proofs.Common.{◌≡◌, ℕ, List, [], ◌∷◌, refl, sym, ap, ◌∙◌, subst, inl, inr}
use Rattle.std.specs.Prelude.{Contains}
use Rattle.dsec_spec.specs.Names.{Place, place, IsAtOrBelow, IsStrictlyBelow}
use Rattle.dsec_spec.specs.Numbers.{DS, DNSKEY}
use Rattle.dsec_spec.specs.Records.{Record, RecordSet}
use Rattle.dsec_spec.specs.Accepts.{Accepts}
use Rattle.dsec_spec.specs.Chain.{Link, Holds, IsAnchor, Leads, IsChain}
use Rattle.dsec_nodes.specs.World.{Bounds}
use Rattle.dsec_nodes.specs.SignedCauses.{SignedCause, IsSignedCause}
use Rattle.dsec_nodes.specs.SoundFindings.{BeginsAt}
use Rattle.dsec_spec.proofs.Members.{in_more, not_in_none}
use Rattle.dsec_spec.proofs.NamesBelow.{below_itself, below_trans, at_or_below, strictly_below_trans}

-- what is among one is that one
only : (anchor other : Record) → Contains (anchor ∷ []) other → anchor ≡ other
only anchor other h = elim (in_more anchor other [] h) [
  | inl same ↦ same
  | inr none ↦ absurd (not_in_none other none)
]

-- an anchor alone that is one of others serves as they do
anchor_among : (anchor : Record) (anchors : List Record) (rtype : ℕ) (owner : Place) (rdata : List ℕ) → Contains anchors anchor
    → IsAnchor (anchor ∷ []) rtype owner rdata → IsAnchor anchors rtype owner rdata
anchor_among anchor anchors rtype owner rdata there a = record {
  anchor = a.anchor;
  listed = subst (Contains anchors) (only anchor a.anchor a.listed) there;
  of_class = a.of_class;
  of_type = a.of_type;
  stands_at = a.stands_at;
  says = a.says;
}

-- a chain from one of the anchors is a chain from them
pub chain_among : (accepts : Accepts) (anchor : Record) (anchors : List Record) (links : List Link) (zone : Place) (keys : List (List ℕ)) (t : ℕ)
    → Contains anchors anchor → IsChain accepts (anchor ∷ []) links zone keys t → IsChain accepts anchors links zone keys t
chain_among accepts anchor anchors [] zone keys t l c = absurd c
chain_among accepts anchor anchors (first ∷ links) zone keys t l c = (
  elim c.0 [
    | inl own ↦ inl (record {
      of_kind = own.of_kind;
      key_set = own.key_set;
      by_way_of = own.by_way_of;
      anchored = anchor_among anchor anchors DNSKEY (place first.records.owner) first.signing_key l own.anchored;
    })
    | inr spoken ↦ inr (record {
      of_kind = spoken.of_kind;
      key_set = spoken.key_set;
      ds_data = spoken.ds_data;
      by_way_of = spoken.by_way_of;
      anchored = anchor_among anchor anchors DS (place first.records.owner) spoken.ds_data l spoken.anchored;
      speaks = spoken.speaks;
    })
  ],
  c.1,
)

-- what is shown from one of the anchors is shown from them
pub holds_among : (accepts : Accepts) (anchor : Record) (anchors : List Record) (links : List Link) (set : RecordSet) (t : ℕ)
    → Contains anchors anchor → Holds accepts (anchor ∷ []) links set t → Holds accepts anchors links set t
holds_among accepts anchor anchors links set t l h = record {
  chain = h.chain;
  last = h.last;
  zone = h.zone;
  keys = h.keys;
  are = h.are;
  leads = chain_among accepts anchor anchors h.chain h.zone h.keys t l h.leads;
  shows = h.shows;
  same = h.same;
}

-- a chain from an anchor begins where the anchor stands (RFC 4033 2, island of security)
pub chain_begins : (accepts : Accepts) (anchor : Record) (links : List Link) (zone : Place) (keys : List (List ℕ)) (t : ℕ)
    → IsChain accepts (anchor ∷ []) links zone keys t → BeginsAt links (place anchor.owner)
chain_begins accepts anchor [] zone keys t c = absurd c
chain_begins accepts anchor (first ∷ links) zone keys t c = record {
  first = first;
  others = links;
  are = refl;
  at = elim c.0 [
    | inl own ↦ its DNSKEY first.signing_key own.anchored
    | inr spoken ↦ its DS spoken.ds_data spoken.anchored
  ];
}
  where
    its : (rtype : ℕ) (rdata : List ℕ) → IsAnchor (anchor ∷ []) rtype (place first.records.owner) rdata → place first.records.owner ≡ place anchor.owner
    its rtype rdata a = sym a.stands_at ∙ sym (ap (λ (x : Record). place x.owner) (only anchor a.anchor a.listed))

-- links lead down: to a zone at or below the one that they lead from
leads_down : (accepts : Accepts) (held : Place) (held_keys : List (List ℕ)) (links : List Link) (zone : Place) (keys : List (List ℕ)) (t : ℕ)
    → Leads accepts held held_keys links zone keys t → IsAtOrBelow zone held
leads_down accepts held held_keys [] zone keys t l = subst (λ (z : Place). IsAtOrBelow z held) l.0 (below_itself held)
leads_down accepts held held_keys (above ∷ []) zone keys t l = absurd l
leads_down accepts held held_keys (above ∷ link ∷ links) zone keys t l =
    below_trans zone (place link.records.owner) held (leads_down accepts (place link.records.owner) link.records.datas links zone keys t l.2)
    (subst (λ (p : Place). IsAtOrBelow p held) (sym l.1.same_owner) (at_or_below (place above.records.owner) held l.0.below))

-- a chain from an anchor leads to a zone at or below it (RFC 4033 3.1)
pub chain_down : (accepts : Accepts) (anchor : Record) (links : List Link) (zone : Place) (keys : List (List ℕ)) (t : ℕ)
    → IsChain accepts (anchor ∷ []) links zone keys t → IsAtOrBelow zone (place anchor.owner)
chain_down accepts anchor [] zone keys t c = absurd c
chain_down accepts anchor (first ∷ links) zone keys t c =
    let begins = chain_begins accepts anchor (first ∷ links) zone keys t c in
    let same : begins.first ≡ first = let are = begins.are in cc in
    subst (IsAtOrBelow zone) (ap (λ (l : Link). place l.records.owner) (sym same) ∙ begins.at)
    (leads_down accepts (place first.records.owner) first.records.datas links zone keys t c.1)

-- a signed cause is of a name strictly below the anchor from which it holds (RFC 4035 5.2)
pub cause_below : (accepts : Accepts) (bounds : Bounds) (anchor : Record) (c : Place) (cause : SignedCause) (t : ℕ)
    → IsSignedCause accepts bounds anchor c cause t → IsStrictlyBelow c (place anchor.owner)
cause_below accepts bounds anchor c cause t s =
    strictly_below_trans c s.holds.zone (place anchor.owner) s.below (chain_down accepts anchor s.holds.chain s.holds.zone s.holds.keys t s.holds.leads)
