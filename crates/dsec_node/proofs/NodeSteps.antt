-- Nodes by their parts.
use Rattle.std.proofs.Common.{◌≡◌, ℕ, ◌<◌, List, [], ◌∷◌, ◌++◌, Option, Some, length, sym, ap, ◌∙◌, inl, inr, arith}
use Rattle.std.specs.Prelude.{min, slice_get, get_or}
use Rattle.std.proofs.lemmas.Option.{same_Some, slice_get_cases, slice_get_read}
use Rattle.dsec_spec.specs.Names.{Place, place}
use Rattle.dsec_spec.specs.Records.{Record, Key}
use Rattle.dsec_spec.specs.Groups.{Group, set_in}
use Rattle.dsec_spec.specs.Lasting.{least_ttl, ttl_for_sig}
use Rattle.dsec_spec.specs.Chain as chain
use Rattle.dsec_nodes.specs.World.{World, Bounds, moment}
use Rattle.dsec_nodes.specs.Nodes.{Node, Standing, Ground, apex, within, insecure}
use Rattle.dsec_nodes.specs.Admission.{Admitted, admitted_link}
use Rattle.dsec_nodes.specs.Causes.{Cause}
use Rattle.dsec_nodes.specs.Signing.{kept_for, link_under}
use Rattle.dsec_nodes.specs.MissingDs.{within_by, insecure_by}
use Rattle.dsec_nodes.specs.ByDs.{Pending, apex_by}
use Rattle.dsec_nodes.specs.Walk.{anchor_kind, anchored}
use Rattle.dsec_node.specs.Good.{IsPair}

-- the node of these parts, made now
abbrev pub node_by : World → Place → ℕ → Option Record → Place → List chain.Link → Standing → Node
node_by w name valid_for anchor signer links standing =
    record { name = name; made = w.now; valid_for = valid_for; anchor = anchor; signer = signer; links = links; standing = standing; bounds = w.bounds }

-- a node is the one of its parts
pub its_parts : (n : Node) (name : Place) (made valid_for : ℕ) (anchor : Option Record) (signer : Place) (links : List chain.Link) (standing : Standing) (bounds : Bounds)
    → name ≡ n.name → made ≡ n.made → valid_for ≡ n.valid_for → anchor ≡ n.anchor → signer ≡ n.signer → links ≡ n.links → standing ≡ n.standing → bounds ≡ n.bounds
    → record { name = name; made = made; valid_for = valid_for; anchor = anchor; signer = signer; links = links; standing = standing; bounds = bounds } ≡ n
its_parts n name made valid_for anchor signer links standing bounds a b c d e f g h =
    λ i. record { name = a i; made = b i; valid_for = c i; anchor = d i; signer = e i; links = f i; standing = g i; bounds = h i }

-- nodes of equal parts are equal
pub same_parts : (w : World) (name name' : Place) (valid valid' : ℕ) (anchor anchor' : Option Record) (signer signer' : Place) (links links' : List chain.Link) (standing standing' : Standing)
    → name ≡ name' → valid ≡ valid' → anchor ≡ anchor' → signer ≡ signer' → links ≡ links' → standing ≡ standing'
    → node_by w name valid anchor signer links standing ≡ node_by w name' valid' anchor' signer' links' standing'
same_parts w name name' valid valid' anchor anchor' signer signer' links links' standing standing' a b c d e f =
    λ i. node_by w (a i) (b i) (c i) (d i) (e i) (f i)

abbrev link_of : chain.LinkKind → Group → List ℕ → List ℕ → List ℕ → chain.Link
link_of kind group via key rrsig = record { kind = kind; records = set_in group; via = Some via; signing_key = key; rrsig = rrsig }

-- the link of a pair that stands at indexes
pub link_is : {A : Type 0} (kind : chain.LinkKind) (group : Group) (way : A) (via : List ℕ) (key signature : ℕ) (p : Record × Admitted A) (sig key_record : Record) (link : chain.Link)
    → IsPair group way key signature p → slice_get group.signatures signature ≡ Some sig → slice_get group.records key ≡ Some key_record
    → link ≡ record { kind = kind; records = set_in group; via = Some via; signing_key = key_record.rdata; rrsig = sig.rdata }
    → link ≡ admitted_link kind via group p
link_is kind group way via key signature p sig key_record link is sig_there key_there link_same =
    let sig_same : sig ≡ p.0 = same_Some sig p.0 (sym sig_there ∙ is.stands) in
    let key_same : key_record.rdata ≡ p.1.rdata = ap (λ (r : Record). r.rdata) (same_Some key_record is.key_record (sym key_there ∙ is.key_stands)) ∙ sym is.says in
    link_same ∙ (λ i. link_of kind group via (key_same i) (sig_same i).rdata)

-- a zone below a zone
pub apex_is : (w : World) (zone : Node) (pending : Pending) (group : Group) (via : List ℕ) (key signature : ℕ) (p : Record × Admitted (List ℕ)) (sig key_record : Record) (link : chain.Link) (links : List chain.Link)
    (keys : List (List ℕ)) (anchor : Option Record) (name signer : Place) (valid_for : ℕ)
    → IsPair group via key signature p → slice_get group.signatures signature ≡ Some sig → slice_get group.records key ≡ Some key_record
    → link ≡ record { kind = chain.key; records = set_in group; via = Some via; signing_key = key_record.rdata; rrsig = sig.rdata }
    → links ≡ zone.links ++ pending.link ∷ link ∷ [] → keys ≡ (set_in group).datas → anchor ≡ zone.anchor → name ≡ pending.name → signer ≡ pending.name
    → valid_for ≡ min pending.valid_for (min (least_ttl group.records) (ttl_for_sig sig (moment w)))
    → node_by w name valid_for anchor signer links (apex keys) ≡ apex_by w zone pending group p
apex_is w zone pending group via key signature p sig key_record link links keys anchor name signer valid_for is sig_there key_there link_same links_are keys_are anchor_is name_is signer_is valid_is =
    let sig_same : sig ≡ p.0 = same_Some sig p.0 (sym sig_there ∙ is.stands) in
    let its : link ≡ admitted_link chain.key p.1.way group p = link_is chain.key group via via key signature p sig key_record link is sig_there key_there link_same ∙ ap (λ (x : List ℕ). admitted_link chain.key x group p) (sym is.by_way) in
    same_parts w name pending.name valid_for (min pending.valid_for (min (least_ttl group.records) (ttl_for_sig p.0 (moment w)))) anchor zone.anchor signer pending.name links (zone.links ++ pending.link ∷ admitted_link chain.key p.1.way group p ∷ []) (apex keys) (apex (set_in group).datas)
    name_is (valid_is ∙ ap (λ (r : Record). min pending.valid_for (min (least_ttl group.records) (ttl_for_sig r (moment w)))) sig_same) anchor_is signer_is
    (links_are ∙ ap (λ (l : chain.Link). zone.links ++ pending.link ∷ l ∷ []) its) (ap (λ (ks : List (List ℕ)). apex ks) keys_are)

-- the zone of an island
pub anchored_is : (w : World) (group : Group) (anchor : Record) (key signature : ℕ) (p : Record × Admitted Record) (sig key_record : Record) (link : chain.Link) (links : List chain.Link)
    (keys : List (List ℕ)) (kind : chain.LinkKind) (via : List ℕ) (its_anchor : Record) (name signer : Place) (valid_for : ℕ)
    → IsPair group anchor key signature p → slice_get group.signatures signature ≡ Some sig → slice_get group.records key ≡ Some key_record
    → link ≡ record { kind = kind; records = set_in group; via = Some via; signing_key = key_record.rdata; rrsig = sig.rdata } → kind ≡ anchor_kind anchor → via ≡ anchor.rdata
    → links ≡ link ∷ [] → keys ≡ (set_in group).datas → its_anchor ≡ anchor → name ≡ place group.owner → signer ≡ place group.owner
    → valid_for ≡ min w.bounds.max_validity (min (least_ttl group.records) (ttl_for_sig sig (moment w)))
    → node_by w name valid_for (Some its_anchor) signer links (apex keys) ≡ anchored w (place group.owner) group p
anchored_is w group anchor key signature p sig key_record link links keys kind via its_anchor name signer valid_for is sig_there key_there link_same kind_is via_is links_are keys_are anchor_is name_is signer_is valid_is =
    let sig_same : sig ≡ p.0 = same_Some sig p.0 (sym sig_there ∙ is.stands) in
    let by_kind : link ≡ admitted_link kind via group p = link_is kind group anchor via key signature p sig key_record link is sig_there key_there link_same in
    let its : link ≡ admitted_link (anchor_kind p.1.way) p.1.way.rdata group p =
    by_kind ∙ ((λ i. admitted_link (kind_is i) (via_is i) group p) ∙ ap (λ (a : Record). admitted_link (anchor_kind a) a.rdata group p) (sym is.by_way)) in
    same_parts w name (place group.owner) valid_for (min w.bounds.max_validity (min (least_ttl group.records) (ttl_for_sig p.0 (moment w)))) (Some its_anchor) (Some p.1.way) signer (place group.owner) links (admitted_link (anchor_kind p.1.way) p.1.way.rdata group p ∷ []) (apex keys) (apex (set_in group).datas)
    name_is (valid_is ∙ ap (λ (r : Record). min w.bounds.max_validity (min (least_ttl group.records) (ttl_for_sig r (moment w)))) sig_same) (ap (λ (a : Record). Some a) (anchor_is ∙ sym is.by_way)) signer_is
    (links_are ∙ ap (λ (l : chain.Link). l ∷ []) its) (ap (λ (ks : List (List ℕ)). apex ks) keys_are)

-- a name within a zone
pub within_is : (w : World) (zone : Node) (keys : List (List ℕ)) (name : Place) (group : Group) (p : Record × Key) (valid_for : ℕ) (last : chain.Link)
    → valid_for ≡ kept_for w zone group p.0 → last ≡ link_under chain.set keys group p
    → node_by w name valid_for zone.anchor zone.signer zone.links (within last) ≡ within_by w zone keys name group p
within_is w zone keys name group p valid_for last a b = λ i. node_by w name (a i) zone.anchor zone.signer zone.links (within (b i))

-- a name to which no chain leads
pub insecure_is : (w : World) (zone : Node) (keys : List (List ℕ)) (name : Place) (cause : Option Cause) (basis : Ground) (group : Group) (p : Record × Key) (valid_for : ℕ) (link : chain.Link) (to_zone links : List chain.Link)
    → valid_for ≡ kept_for w zone group p.0 → link ≡ link_under chain.set keys group p → to_zone ≡ zone.links → links ≡ to_zone ++ link ∷ []
    → node_by w name valid_for zone.anchor name zone.links (insecure cause (record { basis = basis; links = links })) ≡ insecure_by w zone keys name cause basis group p
insecure_is w zone keys name cause basis group p valid_for link to_zone links a b c d =
    let its : links ≡ zone.links ++ link_under chain.set keys group p ∷ [] = d ∙ (λ i. c i ++ b i ∷ []) in
    λ i. node_by w name (a i) zone.anchor name zone.links (insecure cause (record { basis = basis; links = its i }))

-- what stands at an index within a list
pub stands : {A : Type 0} (xs : List A) (k : ℕ) → k < length xs → (x : A) × (slice_get xs k ≡ Some x)
stands xs k below = elim (slice_get_cases xs k).1 [
  | inl found ↦ (found.0, found.2)
  | inr past ↦ absurd (let e = past.0 in omega arith)
]

-- what the standing's index reads stands there
pub read : {A : Type 0} (xs ys : List A) (k : ℕ) (x : A) → xs ≡ ys → k < length ys → x ≡ get_or xs k x → slice_get ys k ≡ Some x
read xs ys k x same below is = ap (λ zs. slice_get zs k) (sym same) ∙ slice_get_read xs (length ys) k x (sym (ap length same)) below is
