-- The island of the only anchor is a zone, with its key set.
use Rattle.std.proofs.Common.{◌≡◌, ℕ, ◌-◌, ◌<◌, ◌==◌, ◌&&◌, Bool, true, cond, List, [], ◌∷◌, length, map, Option, Some, None, sym, ap, ◌∙◌, arith, append-nil}
use Rattle.std.specs.Prelude.{Contains, filter, flat_map, position, slice_get}
use Rattle.std.specs.List.{position_or_len}
use Rattle.std.specs.Str.{bytes_eq}
use Rattle.std.proofs.lemmas.Bool.{and_parts, and_from, cond-true, eq-eqb, lt-ltb}
use Rattle.std.proofs.lemmas.Slice.Eq.{bytes_eq-Decides}
use Rattle.dsec_spec.specs.Reading.{◌>>=◌}
use Rattle.dsec_spec.specs.Names.{Place, place, same_place}
use Rattle.dsec_spec.specs.Numbers.{IN, DS, DNSKEY}
use Rattle.dsec_spec.specs.Records.{Record, Key, key_of}
use Rattle.dsec_spec.specs.KeySearch.{KeySearch, found_at, not_found}
use Rattle.dsec_spec.specs.Groups.{Group, set_in}
use Rattle.dsec_spec.specs.Trying.{tried, pair_signs, pair_matches}
use Rattle.dsec_spec.proofs.CanonicalNames.{same_place_decides}
use Rattle.dsec_spec.proofs.Members.{from_find, from_map}
use Rattle.dsec_nodes.specs.World.{World, Replies, moment}
use Rattle.dsec_nodes.specs.Nodes.{Node}
use Rattle.dsec_nodes.specs.Signing.{is_set_at}
use Rattle.dsec_nodes.specs.Admission.{Admitted, admitted_at, admitted_signs, anchor_search, ds_search, matching, matching_by, own_key}
use Rattle.dsec_nodes.specs.Walk.{anchored, anchored_by, anchored_in, by_anchor_reply, at_anchor, node_of, way}
use Rattle.dsec_plain.specs.PlainAnswers.{HasPlainKeys}
use Rattle.dsec_plain.proofs.TryingOnce.{tried_one, signs_told, one_passes, passes_at, IsFirst, first_passing}

-- a key at an index is admitted
admits : {A : Type 0} (group : Group) (way : A) (one : Record) (key : Key) (index : ℕ) → slice_get group.records index ≡ Some one → key_of one.rdata ≡ Some key
    → admitted_at group way (found_at index) ≡ Some (record { way = way; rdata = one.rdata; key = key })
admits {A} group way one key index stands reads =
    ap (λ (o : Option Record). o >>= λ r. key_of r.rdata >>= λ k. Some (record { way = way; rdata = r.rdata; key = k })) stands
    ∙ ap (λ (o : Option Key). o >>= λ k. Some (record { way = way; rdata = one.rdata; key = k })) reads

-- a DNSKEY record of class IN whose data are in the set at its owner admits its key
anchor_admits : (most : ℕ) (keys : Group) (anchor : Record) (key : Key) → place keys.owner ≡ place anchor.owner → anchor.class ≡ IN
    → anchor.rtype ≡ DNSKEY → Contains (set_in keys).datas anchor.rdata → key_of anchor.rdata ≡ Some key
    → admitted_at keys anchor (anchor_search most keys anchor) ≡ Some (record { way = anchor; rdata = anchor.rdata; key = key })
anchor_admits most keys anchor key at of_class of_type its_own reads =
    let there = from_map (λ (r : Record). r.rdata) keys.records anchor.rdata its_own in
    let first : IsFirst test keys.records =
    first_passing test keys.records (passes_at test keys.records there.0 there.1 ((bytes_eq-Decides there.0.rdata anchor.rdata).1 there.2)) in
    let same : first.one.rdata ≡ anchor.rdata = (bytes_eq-Decides first.one.rdata anchor.rdata).0 first.passes in
    let index : position test keys.records ≡ Some (position_or_len test keys.records) =
    ap (λ (b : Bool). cond b (Some (position_or_len test keys.records)) None) (lt-ltb (position_or_len test keys.records) (length keys.records) first.below) in
    let picked : anchor_search most keys anchor ≡ found_at (position_or_len test keys.records) =
    cond-true (same_place (place anchor.owner) (place keys.owner) && (anchor.class == IN)) by_type not_found
    (and_from _ _ ((same_place_decides (place anchor.owner) (place keys.owner)).1 (sym at)) (eq-eqb anchor.class IN of_class))
    ∙ (cond-true (anchor.rtype == DNSKEY) (own_key (position test keys.records)) by_ds (eq-eqb anchor.rtype DNSKEY of_type) ∙ ap own_key index) in
    ap (admitted_at keys anchor) picked
    ∙ (admits keys anchor first.one key (position_or_len test keys.records) first.stands (ap key_of same ∙ reads)
    ∙ ap (λ (x : List ℕ). Some (record { way = anchor; rdata = x; key = key })) same)
  where
    test : Record → Bool
    test r = bytes_eq r.rdata anchor.rdata

    by_ds : KeySearch
    by_ds = cond (anchor.rtype == DS) (ds_search most keys anchor.rdata) not_found

    by_type : KeySearch
    by_type = cond (anchor.rtype == DNSKEY) (own_key (position test keys.records)) by_ds

module _ (w : World) (replies : Replies) (keys : Group) (h : HasPlainKeys w replies keys) where
  abbrev top : Place
  top = place h.anchor.owner

  -- the key of the only anchor
  abbrev pub plain_key : Admitted Record
  plain_key = record { way = h.anchor; rdata = h.anchor.rdata; key = h.anchor_key }

  abbrev search : Record → KeySearch
  search = anchor_search w.bounds.max_keys_for_ds keys

  -- the node of the anchor's zone
  abbrev pub plain_node : Node
  plain_node = anchored w top keys (h.signed.signature, plain_key)

  keys_at : place keys.owner ≡ top
  keys_at =
      let tests = and_parts _ _ (from_find (is_set_at top DNSKEY) h.answers keys h.found).0 in
      (same_place_decides (place keys.owner) top).0 (and_parts _ _ tests.0).0

  -- the one pair that is tried
  candidates : flat_map (matching_by keys search) w.anchors ≡ (h.signed.signature, plain_key) ∷ []
  candidates =
      let s : Record = h.signed.signature in
      let its = anchor_admits w.bounds.max_keys_for_ds keys h.anchor h.anchor_key keys_at h.of_class h.of_type h.its_own h.reads in
      let only = one_passes (λ (k : Key). pair_matches top (s, k)) h.anchor_key h.signed.public_key h.signed.matches_one in
      let one_pair : matching keys (Some plain_key) ≡ (s, plain_key) ∷ [] =
      ap (λ (ss : List Record). map (λ (x : Record). (x, plain_key)) (filter (λ (x : Record). pair_matches (place keys.owner) (x, h.anchor_key)) ss)) h.signed.one
      ∙ ap (λ (b : Bool). map (λ (x : Record). (x, plain_key)) (cond b (s ∷ []) [])) (ap (λ (z : Place). pair_matches z (s, h.anchor_key)) keys_at ∙ only.0) in
      ap (flat_map (matching_by keys search)) h.only ∙ (append-nil (matching_by keys search h.anchor) ∙ (ap (matching keys) its ∙ one_pair))

  -- and it counts
  counts : admitted_signs w.accepts keys (moment w) (h.signed.signature, plain_key) ≡ true
  counts =
      let s : Record = h.signed.signature in
      let only = one_passes (λ (k : Key). pair_matches top (s, k)) h.anchor_key h.signed.public_key h.signed.matches_one in
      ap (λ (z : Place). pair_signs w.accepts (set_in keys) z (moment w) (s, h.anchor_key)) keys_at
      ∙ (ap (λ (k : Key). pair_signs w.accepts (set_in keys) top (moment w) (s, k)) only.1
      ∙ signs_told w keys top s h.signed.rrsig h.signed.public_key h.signed.reads h.signed.signed)

  -- the island of the only anchor is its zone
  pub at_plain_anchor : 0 < w.bounds.room → at_anchor w replies top ≡ plain_node
  at_plain_anchor some =
      ap (by_anchor_reply w top) h.replied
      ∙ (ap (anchored_in w top) h.found
      ∙ (ap (λ (ps : List (Record × Admitted Record)). anchored_by w top keys (tried (admitted_signs w.accepts keys (moment w)) w.bounds.room ps)) candidates
      ∙ ap (anchored_by w top keys) (tried_one (admitted_signs w.accepts keys (moment w)) w.bounds.room (h.signed.signature, plain_key) some counts)))

  -- and is the node of its own name
  pub node_at_top : 0 < w.bounds.room → node_of w replies top top ≡ plain_node
  node_at_top some =
      let none : length top - length top ≡ 0 = omega arith in
      ap (λ (k : ℕ). (way w replies top top k).node) none ∙ at_plain_anchor some
