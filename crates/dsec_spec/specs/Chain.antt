-- Chains of trust: from an anchor by signatures and DS records down to a set (RFC 4033 3.1, RFC 4035 5).
use Rattle.std.specs.Prelude.{◌≡◌, ◌≢◌, ◌⊎◌, ℕ, List, [], ◌∷◌, ◌++◌, Contains, Option, Some}
use Rattle.dsec_spec.specs.Names.{Place, place, IsAtOrBelow, IsStrictlyBelow}
use Rattle.dsec_spec.specs.Numbers.{IN, DS, DNSKEY}
use Rattle.dsec_spec.specs.Records.{Record, RecordSet, Key, key_of, Ds, ds_of, Rrsig, rrsig_of, beside}
use Rattle.dsec_spec.specs.SignedBytes.{IsExpansion}
use Rattle.dsec_spec.specs.Accepts.{Accepts}
use Rattle.dsec_spec.specs.Signed.{Signed}
use Rattle.dsec_spec.specs.DelegationSigner.{Matches, IsSupported}

-- what a link of a chain is
pub data LinkKind : Type 0 where
  -- a DNSKEY set with a key that is an anchor
  anchor_key : LinkKind
  -- a DNSKEY set with a key that an anchor's DS record speaks of
  anchor_ds : LinkKind
  -- a DS set in the zone above
  ds : LinkKind
  -- a DNSKEY set with a key that the DS set before it speaks of
  key : LinkKind
  -- the set that the chain leads to
  set : LinkKind

-- A signed set and how it was reached. `via` is the data of the anchor or of the DS record that speaks of
-- the key, `signing_key` the data of the DNSKEY record whose key signed the set, `rrsig` the data of the RRSIG record
-- by which it did; nothing is asked of `via` in a `ds` or `set` link.
pub record Link : Type 0 where
  pub kind : LinkKind
  pub records : RecordSet
  pub via : Option (List ℕ)
  pub signing_key : List ℕ
  pub rrsig : List ℕ

-- the link's set is signed by its key as a key of this zone, by its RRSIG (RFC 4035 5.3)
pub record IsSigned (accepts : Accepts) (link : Link) (zone : Place) (t : ℕ) : Type 0 where
  pub public_key : Key
  pub reads : key_of link.signing_key ≡ Some public_key
  pub signature : Rrsig
  pub reads_signature : rrsig_of link.rrsig ≡ Some signature
  pub signed : Signed accepts link.records (beside link.records signature) public_key zone t

-- a DNSKEY set of class IN that is signed by one of its own keys, with its owner as the zone (RFC 4035 5.2)
pub record IsKeySet (accepts : Accepts) (link : Link) (t : ℕ) : Type 0 where
  pub of_class : link.records.class ≡ IN
  pub of_type : link.records.rtype ≡ DNSKEY
  pub its_own : Contains link.records.datas link.signing_key
  pub signed : IsSigned accepts link (place link.records.owner) t

-- the data of a DS record speak of the link's key (RFC 4035 5.2)
pub record SpeaksOf (ds_data : List ℕ) (link : Link) : Type 0 where
  pub ds_record : Ds
  pub public_key : Key
  pub reads_ds : ds_of ds_data ≡ Some ds_record
  pub reads_key : key_of link.signing_key ≡ Some public_key
  pub matches : Matches ds_record link.records.owner public_key

-- among the anchors is a record of class IN and this type with these data, at this place (RFC 4033 2)
pub record IsAnchor (anchors : List Record) (rtype : ℕ) (owner : Place) (rdata : List ℕ) : Type 0 where
  pub anchor : Record
  pub listed : Contains anchors anchor
  pub of_class : anchor.class ≡ IN
  pub of_type : anchor.rtype ≡ rtype
  pub stands_at : place anchor.owner ≡ owner
  pub says : anchor.rdata ≡ rdata

-- the first link, where its key is an anchor (RFC 4035 5)
pub record IsAnchorKeyLink (accepts : Accepts) (anchors : List Record) (link : Link) (t : ℕ) : Type 0 where
  pub of_kind : link.kind ≡ anchor_key
  pub key_set : IsKeySet accepts link t
  pub by_way_of : link.via ≡ Some link.signing_key
  pub anchored : IsAnchor anchors DNSKEY (place link.records.owner) link.signing_key

-- the first link, where an anchor's DS record speaks of its key (RFC 4035 5)
pub record IsAnchorDsLink (accepts : Accepts) (anchors : List Record) (link : Link) (t : ℕ) : Type 0 where
  pub of_kind : link.kind ≡ anchor_ds
  pub key_set : IsKeySet accepts link t
  pub ds_data : List ℕ
  pub by_way_of : link.via ≡ Some ds_data
  pub anchored : IsAnchor anchors DS (place link.records.owner) ds_data
  pub speaks : SpeaksOf ds_data link

-- a DS set of class IN strictly below the held zone, signed by one of the held keys, no expansion of a wildcard (RFC 4035 5.2, 5.3.4)
pub record IsDsLink (accepts : Accepts) (zone : Place) (keys : List (List ℕ)) (link : Link) (t : ℕ) : Type 0 where
  pub of_kind : link.kind ≡ ds
  pub of_class : link.records.class ≡ IN
  pub of_type : link.records.rtype ≡ DS
  pub below : IsStrictlyBelow (place link.records.owner) zone
  pub by_held : Contains keys link.signing_key
  pub signed : IsSigned accepts link zone t
  pub no_expansion : IsExpansion signed.signature.labels link.records.owner → ⊥

-- the DNSKEY set at the owner of the DS set, with a key that a supported record of the DS set speaks of (RFC 4035 5.2)
pub record IsKeyLink (accepts : Accepts) (above link : Link) (t : ℕ) : Type 0 where
  pub of_kind : link.kind ≡ key
  pub key_set : IsKeySet accepts link t
  pub same_owner : place link.records.owner ≡ place above.records.owner
  pub ds_data : List ℕ
  pub by_way_of : link.via ≡ Some ds_data
  pub in_ds_set : Contains above.records.datas ds_data
  pub speaks : SpeaksOf ds_data link
  pub supported : IsSupported speaks.ds_record

-- a set of any class at or below the held zone, signed by one of the held keys; a DS set, but the root's, is strictly below, for it
-- stands in the zone above (RFC 4035 2.4)
pub record IsSetLink (accepts : Accepts) (zone : Place) (keys : List (List ℕ)) (link : Link) (t : ℕ) : Type 0 where
  pub of_kind : link.kind ≡ set
  pub within : IsAtOrBelow (place link.records.owner) zone
  pub ds_above : link.records.rtype ≡ DS → place link.records.owner ≢ [] → IsStrictlyBelow (place link.records.owner) zone
  pub by_held : Contains keys link.signing_key
  pub signed : IsSigned accepts link zone t

-- from a zone and keys that are held, the links lead down to a zone and its keys, by pairs of a DS and a DNSKEY set (RFC 4033 2)
abbrev pub Leads : Accepts → Place → List (List ℕ) → List Link → Place → List (List ℕ) → ℕ → Type 0
Leads accepts held held_keys [] zone keys t = (held ≡ zone) × (held_keys ≡ keys)
Leads accepts held held_keys (above ∷ []) zone keys t = ⊥
Leads accepts held held_keys (above ∷ link ∷ links) zone keys t =
    IsDsLink accepts held held_keys above t × IsKeyLink accepts above link t
    × Leads accepts (place link.records.owner) link.records.datas links zone keys t

-- from an anchor, the links lead to a zone and its keys: an authentication chain (RFC 4033 2)
abbrev pub IsChain : Accepts → List Record → List Link → Place → List (List ℕ) → ℕ → Type 0
IsChain accepts anchors [] zone keys t = ⊥
IsChain accepts anchors (first ∷ links) zone keys t =
    (IsAnchorKeyLink accepts anchors first t ⊎ IsAnchorDsLink accepts anchors first t)
    × Leads accepts (place first.records.owner) first.records.datas links zone keys t

-- the links show the set at the moment t: they lead from an anchor to a zone, and the last is the set, signed by a key of that zone (RFC 4035 5)
pub record Holds (accepts : Accepts) (anchors : List Record) (links : List Link) (records : RecordSet) (t : ℕ) : Type 0 where
  pub chain : List Link
  pub last : Link
  pub zone : Place
  pub keys : List (List ℕ)
  pub are : links ≡ chain ++ last ∷ []
  pub leads : IsChain accepts anchors chain zone keys t
  pub shows : IsSetLink accepts zone keys last t
  pub same : last.records ≡ records
