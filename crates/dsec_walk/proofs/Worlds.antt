-- What is known of a name below a zone doesn't depend on the anchors.
use Rattle.std.proofs.Common.{◌≡◌, ℕ, ◌==◌, ◌&&◌, Bool, true, false, cond, List, [], ◌∷◌, length, Option, Some, None, refl, ap, ◌∙◌, subst}
use Rattle.std.specs.Prelude.{find, nat_lt}
use Rattle.std.specs.Str.{bytes_eq}
use Rattle.std.proofs.Math.Bool.{not}
use Rattle.dsec_spec.specs.Accepts.{Accepts}
use Rattle.dsec_spec.specs.Names.{Place, place, same_place, is_below, is_strictly_below}
use Rattle.dsec_spec.specs.Numbers.{IN, CNAME, DNAME, DS, DNSKEY, NSEC}
use Rattle.dsec_spec.specs.Records.{Record, Key}
use Rattle.dsec_spec.specs.RecordViews.{Nsec, nsec_of, Nsec3}
use Rattle.dsec_spec.specs.DenyingRecords.{hash_by}
use Rattle.dsec_spec.specs.TypeBitmaps.{has_type}
use Rattle.dsec_spec.specs.Chain.{IsDsLink}
use Rattle.dsec_spec.specs.Groups.{Group}
use Rattle.dsec_spec.specs.Trying.{Tried, good, nothing, all_bad, too_many_bad}
use Rattle.dsec_nodes.specs.World.{World, Bounds, on_circle}
use Rattle.dsec_nodes.specs.Nodes.{Node, apex}
use Rattle.dsec_nodes.specs.Signing.{under_keys, is_expanded, is_set_at}
use Rattle.dsec_nodes.specs.Admission.{Admitted, tried_by, ds_search}
use Rattle.dsec_nodes.specs.Replies.{Reply, failed, unreadable, sections}
use Rattle.dsec_nodes.specs.MissingDs.{Looked, decided, passed, if_signed, is_in_range, by_matching, by_covering, by_range, delegates, by_prefix, by_nsec, by_records, by_group, then_looked, looked_among, nsec_search, nsec3_search, looked_for, by_looked, missing_ds}
use Rattle.dsec_nodes.specs.MissingByHash.{is_between, by_own_hash, redirects, by_hash_gap, by_hashes, by_owner_hash, by_iterations, has_too_many, has_many, owner_hash_in, by_hashing, is_label_before, by_nsec3, nsec3_in, by_hashed_group}
use Rattle.dsec_nodes.specs.ByDs.{Below, Pending, made, if_one, by_alias, by_ds_set, by_ds_reply, by_tried, by_key_set, by_key_reply, ways}
use Rattle.dsec_nodes.specs.Held.{IsPending}
use Rattle.dsec_nodes.specs.Walk.{held_keys}
use Rattle.dsec_node.specs.Views.{world_of}

module _ (accepts : Accepts) (anchors : List Record) (bounds : Bounds) (now : ℕ) where
  abbrev here : World
  here = world_of accepts anchors bounds now

  abbrev bare : World
  bare = world_of accepts [] bounds now

  signed_same : (name : Place) (f g : Record × Key → Looked) (t : Tried (Record × Key)) → ((p : Record × Key) → f p ≡ g p) → if_signed here name t f ≡ if_signed bare name t g
  signed_same name f g (good p) e = e p
  signed_same name f g nothing e = refl
  signed_same name f g all_bad e = refl
  signed_same name f g too_many_bad e = refl

  one_same : (name : Place) (f g : Record × Key → Below) (t : Tried (Record × Key)) → ((p : Record × Key) → f p ≡ g p) → if_one here name t f ≡ if_one bare name t g
  one_same name f g (good p) e = e p
  one_same name f g nothing e = refl
  one_same name f g all_bad e = refl
  one_same name f g too_many_bad e = refl

  cond_same : {A : Type 0} (b : Bool) (x y u v : A) → x ≡ u → y ≡ v → cond b x y ≡ cond b u v
  cond_same true x y u v e f = e
  cond_same false x y u v e f = f

  module _ (zone : Node) (keys : List (List ℕ)) (name : Place) where
    range_same : (group : Group) (nsec : Nsec) → by_range here zone keys name group nsec ≡ by_range bare zone keys name group nsec
    range_same group nsec =
        cond_same (is_in_range (place group.owner) (place nsec.next_name) name && is_below (place nsec.next_name) name) _ _ _ _
        (signed_same name (by_covering here zone keys name group) (by_covering bare zone keys name group) (under_keys here zone.signer keys group) (λ p. refl)) refl

    prefix_same : (group : Group) (nsec : Nsec) (p : Record × Key) → by_prefix here zone keys name group nsec p ≡ by_prefix bare zone keys name group nsec p
    prefix_same group nsec p =
        cond_same (is_expanded group p.0) _ _ _ _ refl
        (cond_same (has_type nsec.types DNAME) _ _ _ _ refl (cond_same (delegates nsec) _ _ _ _ refl (range_same group nsec)))

    nsec_same : (group : Group) (o : Option Nsec) → by_nsec here zone keys name group o ≡ by_nsec bare zone keys name group o
    nsec_same group None = refl
    nsec_same group (Some nsec) =
        cond_same (same_place (place group.owner) name) _ _ _ _
        (signed_same name (by_matching here zone keys name group nsec) (by_matching bare zone keys name group nsec) (under_keys here zone.signer keys group) (λ p. refl))
        (cond_same (is_strictly_below name (place group.owner)) _ _ _ _
        (signed_same name (by_prefix here zone keys name group nsec) (by_prefix bare zone keys name group nsec) (under_keys here zone.signer keys group) (prefix_same group nsec))
        (range_same group nsec))

    records_same : (group : Group) (rs : List Record) → by_records here zone keys name group rs ≡ by_records bare zone keys name group rs
    records_same group [] = refl
    records_same group (r ∷ []) = nsec_same group (nsec_of r.rdata)
    records_same group (r ∷ s ∷ rs) = refl

    group_same : (group : Group) → by_group here zone keys name group ≡ by_group bare zone keys name group
    group_same group = cond_same ((group.rtype == NSEC) && (group.class == IN)) _ _ _ _ (records_same group group.records) refl

    hashes_same : (group : Group) (nsec3 : Nsec3) (owner_hash hash : List ℕ) → by_hashes here zone keys name group nsec3 owner_hash hash ≡ by_hashes bare zone keys name group nsec3 owner_hash hash
    hashes_same group nsec3 owner_hash hash =
        cond_same (bytes_eq hash owner_hash) _ _ _ _
        (signed_same name (by_own_hash here zone keys name group nsec3) (by_own_hash bare zone keys name group nsec3) (under_keys here zone.signer keys group) (λ p. refl))
        (cond_same (is_between owner_hash nsec3.next_owner hash) _ _ _ _
        (signed_same name (by_hash_gap here zone keys name group nsec3 (redirects zone.signer owner_hash nsec3)) (by_hash_gap bare zone keys name group nsec3 (redirects zone.signer owner_hash nsec3)) (under_keys here zone.signer keys group) (λ p. refl))
        refl)

    owner_hash_same : (group : Group) (nsec3 : Nsec3) (o : Option (List ℕ)) → by_owner_hash here zone keys name group nsec3 o ≡ by_owner_hash bare zone keys name group nsec3 o
    owner_hash_same group nsec3 None = refl
    owner_hash_same group nsec3 (Some owner_hash) = hashes_same group nsec3 owner_hash (hash_by nsec3.hashing name)

    hashing_same : (group : Group) (nsec3 : Nsec3) → by_hashing here zone keys name group nsec3 ≡ by_hashing bare zone keys name group nsec3
    hashing_same group nsec3 =
        cond_same (not (nsec3.hashing.hash_algorithm == 1)) _ _ _ _ refl
        (cond_same (has_many bounds nsec3) _ _ _ _
        (signed_same name (by_iterations here zone keys name group (has_too_many bounds nsec3)) (by_iterations bare zone keys name group (has_too_many bounds nsec3)) (under_keys here zone.signer keys group) (λ p. refl))
        (owner_hash_same group nsec3 (owner_hash_in group.owner)))

    nsec3_same : (group : Group) (o : Option Nsec3) → by_nsec3 here zone keys name group o ≡ by_nsec3 bare zone keys name group o
    nsec3_same group None = refl
    nsec3_same group (Some nsec3) =
        cond_same (nat_lt 1 nsec3.hashing.flags) _ _ _ _ refl
        (cond_same (is_label_before zone.signer group.owner) _ _ _ _ (hashing_same group nsec3) refl)

    among_same : (f g : Group → Looked) → ((group : Group) → f group ≡ g group) → (groups : List Group) → looked_among f groups ≡ looked_among g groups
    unfolding looked_among
    among_same f g each [] = refl
    among_same f g each (x ∷ xs) = ap (λ (l : Looked). then_looked l (looked_among f xs)) (each x) ∙ ap (then_looked (g x)) (among_same f g each xs)

    missing_same : (groups : List Group) → missing_ds here zone keys name groups ≡ missing_ds bare zone keys name groups
    missing_same groups =
        looked (looked_for here zone keys name groups)
        ∙ (ap (λ (x : Looked). by_looked bare name (then_looked x (nsec3_search here zone keys name groups))) (among_same (by_group here zone keys name) (by_group bare zone keys name) group_same groups)
        ∙ ap (λ (x : Looked). by_looked bare name (then_looked (nsec_search bare zone keys name groups) x))
        (among_same (by_hashed_group here zone keys name) (by_hashed_group bare zone keys name) (λ group. nsec3_same group (nsec3_in group)) groups))
      where
        looked : (x : Looked) → by_looked here name x ≡ by_looked bare name x
        looked (decided n) = refl
        looked (passed None) = refl
        looked (passed (Some cause)) = refl

    alias_same : (authorities : List Group) (o : Option Group) → by_alias here zone keys name authorities o ≡ by_alias bare zone keys name authorities o
    alias_same authorities None = ap (λ (n : Node). made n) (missing_same authorities)
    alias_same authorities (Some group) =
        cond_same (length group.records == 1) _ _ _ _
        (one_same name _ _ (under_keys here zone.signer keys group) (λ p.
        cond_same (is_expanded group p.0) _ _ _ _ (ap (λ (n : Node). made n) (missing_same authorities)) refl))
        (ap (λ (n : Node). made n) (missing_same authorities))

    ds_set_same : (answers authorities : List Group) (o : Option Group) → by_ds_set here zone keys name answers authorities o ≡ by_ds_set bare zone keys name answers authorities o
    ds_set_same answers authorities None = alias_same authorities (find (is_set_at name CNAME) answers)
    ds_set_same answers authorities (Some group) =
        one_same name _ _ (under_keys here zone.signer keys group) (λ p.
        cond_same (is_expanded group p.0) _ _ _ _ (alias_same authorities (find (is_set_at name CNAME) answers)) refl)

    -- so what the reply to the question for a name's DS set comes to
    pub ds_reply_same : (reply : Reply) → by_ds_reply here zone keys name reply ≡ by_ds_reply bare zone keys name reply
    ds_reply_same failed = refl
    ds_reply_same unreadable = refl
    ds_reply_same (sections answers authorities) = ds_set_same answers authorities (find (is_set_at name DS) answers)

  module _ (zone : Node) (pending : Pending) where
    tried_same : (group : Group) (t : Tried (Record × Admitted (List ℕ))) → by_tried here zone pending group t ≡ by_tried bare zone pending group t
    tried_same group (good p) = refl
    tried_same group nothing = refl
    tried_same group all_bad = refl
    tried_same group too_many_bad = refl

    key_set_same : (o : Option Group) → by_key_set here zone pending o ≡ by_key_set bare zone pending o
    key_set_same None = refl
    key_set_same (Some group) = tried_same group (tried_by here group (ds_search bounds.max_keys_for_ds group) (ways here pending))

    -- and what the reply to the question for its DNSKEY set does
    pub key_reply_same : (reply : Reply) → by_key_reply here zone pending reply ≡ by_key_reply bare zone pending reply
    key_reply_same failed = refl
    key_reply_same unreadable = refl
    key_reply_same (sections answers authorities) = key_set_same (find (is_set_at pending.name DNSKEY) answers)

    -- a DS set that the zone has signed is one whatever the anchors are
    pub pending_same : (keys : List (List ℕ)) → zone.standing ≡ apex keys → IsPending here zone (held_keys zone.standing) pending → IsPending bare zone keys pending
    pending_same keys e h = record {
      at = h.at;
      no_longer = h.no_longer;
      signed = λ s from to. subst (λ (ks : List (List ℕ)). IsDsLink accepts zone.signer ks pending.link (on_circle s)) (ap held_keys e) (h.signed s from to);
    }
