-- What a node rests on when it is made: a zone that is held, and pairs of a signature and a key that are good (RFC 4035 5.2, 5.3).
use Rattle.std.specs.Prelude.{◌≡◌, ◌⊎◌, ℕ, ◌+◌, ◌≤◌, List, [], ◌∷◌, Contains, Some}
use Rattle.dsec_spec.specs.Names.{Place, place}
use Rattle.dsec_spec.specs.Numbers.{IN, DS, DNSKEY}
use Rattle.dsec_spec.specs.Records.{Record, RecordSet, Key, key_of, Ds, ds_of, Rrsig, rrsig_of, beside}
use Rattle.dsec_spec.specs.Accepts.{Accepts}
use Rattle.dsec_spec.specs.Signed.{Signed}
use Rattle.dsec_spec.specs.Groups.{Group, set_in}
use Rattle.dsec_spec.specs.DelegationSigner.{Matches}
use Rattle.dsec_spec.specs.Chain.{IsDsLink, IsChain}
use Rattle.dsec_nodes.specs.World.{World, moment, on_circle}
use Rattle.dsec_nodes.specs.Nodes.{Node, Kept}
use Rattle.dsec_nodes.specs.Signing.{data_of, time_left}
use Rattle.dsec_nodes.specs.Admission.{Admitted}
use Rattle.dsec_nodes.specs.ByDs.{Pending, Below, made, asks}

-- a zone with these keys: a chain leads to them, from the moment of judging on for as long as the node is kept (RFC 4035 4.5)
pub record HeldZone (w : World) (zone : Node) (keys : List (List ℕ)) : Type 0 where
  pub anchor : Record
  pub its : zone.anchor ≡ Some anchor
  pub chain_to : (s : ℕ) → w.now ≤ s → s ≤ w.now + time_left w zone
      → IsChain w.accepts (anchor ∷ []) zone.links zone.signer keys (on_circle s)

-- a node of this name that is kept, and counts at the moment of judging (RFC 4035 4.5)
abbrev pub KeptAt : World → Place → Node → Type 0
KeptAt w name n = Kept w.accepts n × (n.name ≡ name) × (n.made ≤ w.now) × (w.now ≤ n.made + n.valid_for)

-- a group of class IN and this type, at this place (RFC 2181 5)
pub record SetAt (name : Place) (rtype : ℕ) (group : Group) : Type 0 where
  pub at : place group.owner ≡ name
  pub of_class : group.class ≡ IN
  pub of_type : group.rtype ≡ rtype

-- a signature counts as a key's over a set, by data that say a signature (RFC 4035 5.3.1)
pub record Counts (accepts : Accepts) (set : RecordSet) (zone : Place) (t : ℕ) (p : Record × Key) : Type 0 where
  pub signature : Rrsig
  pub reads_signature : rrsig_of p.0.rdata ≡ Some signature
  pub signed : Signed accepts set (beside set signature) p.1 zone t

-- a key that DNSKEY data say, by the first of them that do (RFC 4034 2.1)
pub record SaysKey (datas : List (List ℕ)) (key : Key) : Type 0 where
  pub there : Contains datas (data_of datas key)
  pub reads : key_of (data_of datas key) ≡ Some key

-- a signature of the group and a key of the zone's by which it counts at the moment of judging (RFC 4035 5.3.1)
pub record GoodPair (w : World) (zone : Place) (keys : List (List ℕ)) (group : Group) (p : Record × Key) : Type 0 where
  pub counts : Counts w.accepts (set_in group) zone (moment w) p
  pub says : SaysKey keys p.1
  pub beside : Contains group.signatures p.0

-- a key of the set's own that DS data speak of (RFC 4035 5.2)
pub record IsAdmittedByDs (group : Group) (one : Admitted (List ℕ)) : Type 0 where
  pub its_own : Contains (set_in group).datas one.rdata
  pub reads : key_of one.rdata ≡ Some one.key
  pub ds : Ds
  pub says : ds_of one.way ≡ Some ds
  pub matches : Matches ds group.owner one.key

-- a signature of a DNSKEY set that counts as that of a key which one of these DS data admits (RFC 4035 5.2)
pub record GoodByDs (w : World) (group : Group) (ways : List (List ℕ)) (p : Record × Admitted (List ℕ)) : Type 0 where
  pub counts : Counts w.accepts (set_in group) (place group.owner) (moment w) (p.0, p.1.key)
  pub listed : Contains ways p.1.way
  pub is_admitted : IsAdmittedByDs group p.1

-- an anchor speaks of a key: it is a DNSKEY record with the key's data, or a DS record that speaks of the key (RFC 4035 5)
abbrev pub Speaks : Group → Record → List ℕ → Key → Type 0
Speaks group anchor rdata key =
    ((anchor.rtype ≡ DNSKEY) × (anchor.rdata ≡ rdata))
    ⊎ ((anchor.rtype ≡ DS) × ((ds : Ds) × (ds_of anchor.rdata ≡ Some ds) × Matches ds group.owner key))

-- a key of the set's own of which an anchor of class IN at the set's place speaks (RFC 4035 5)
pub record IsAdmittedByAnchor (group : Group) (one : Admitted Record) : Type 0 where
  pub stands_at : place one.way.owner ≡ place group.owner
  pub of_class : one.way.class ≡ IN
  pub its_own : Contains (set_in group).datas one.rdata
  pub reads : key_of one.rdata ≡ Some one.key
  pub speaks : Speaks group one.way one.rdata one.key

-- a signature of a DNSKEY set that counts as that of a key which one of the anchors admits (RFC 4035 5)
pub record GoodByAnchor (w : World) (group : Group) (p : Record × Admitted Record) : Type 0 where
  pub counts : Counts w.accepts (set_in group) (place group.owner) (moment w) (p.0, p.1.key)
  pub listed : Contains w.anchors p.1.way
  pub is_admitted : IsAdmittedByAnchor group p.1

-- a DS set that a zone has signed: it is one for as long as it may be kept, and that is no longer than the zone is (RFC 4035 5.2, 5.3.3)
pub record IsPending (w : World) (zone : Node) (keys : List (List ℕ)) (pending : Pending) : Type 0 where
  pub at : place pending.link.records.owner ≡ pending.name
  pub no_longer : pending.valid_for ≤ time_left w zone
  pub signed : (s : ℕ) → w.now ≤ s → s ≤ w.now + pending.valid_for → IsDsLink w.accepts zone.signer keys pending.link (on_circle s)

-- what a reply to the question for a DS set comes to is a kept node of the name, or a DS set at the name that the zone has signed
-- (RFC 4035 5.2)
abbrev pub BelowKept : World → Node → List (List ℕ) → Place → Below → Type 0
BelowKept w zone keys name (made n) = KeptAt w name n
BelowKept w zone keys name (asks pending) = IsPending w zone keys pending × (pending.name ≡ name)
