-- DS data and what they say: trying the one comes to what trying the other does.
use Rattle.std.proofs.Common.{◌≡◌, ℕ, zero, suc, ◌<◌, ◌==◌, nat_lt, Bool, true, false, cond, List, [], ◌∷◌, ◌++◌, map, length, take, get_or, Option, Some, None, refl, sym, ap, ◌∙◌, subst, arith, inl, inr}
use Rattle.std.specs.Prelude.{Contains, filter, find, slice_get, Result, Ok, Err}
use Rattle.std.proofs.lemmas.List.{length-map, map-append}
use Rattle.std.proofs.lemmas.Option.{same_Some, slice_get_within}
use Rattle.dsec_link.specs.Sets.{octets_of}
use Rattle.dsec_wire.specs.DataViews.{ds_view}
use Rattle.dsec_wire.specs.TypedData.{TypedData}
use Rattle.dsec_wire.specs.declared.ds.Ds as read
use Rattle.dsec_spec.specs.Accepts.{Accepts}
use Rattle.dsec_spec.specs.Groups.{Group}
use Rattle.dsec_spec.specs.KeySearch.{KeySearch}
use Rattle.dsec_spec.specs.Numbers.{DNSKEY}
use Rattle.dsec_spec.specs.Records.{Record, Ds, ds_of, ds_octets}
use Rattle.dsec_spec.specs.Trying.{Tried, good, nothing, all_bad, too_many_bad}
use Rattle.dsec_spec.proofs.Members.{from_filter, from_take, in_more, not_in_none}
use Rattle.dsec_group.specs.Trials.{Trial, found, left, comes_to}
use Rattle.dsec_nodes.specs.Admission.{Admitted, cause_among, ds_search, search_for, tried_by}
use Rattle.dsec_nodes.specs.ByDs.{Pending, apex_by, by_key_reply, by_key_set, by_tried, is_supported, is_usable, none_by, usable, ways}
use Rattle.dsec_nodes.specs.Causes.{Cause, BadSignatureForDnskey, NoDnskey, TooManyBadSignaturesForDnskey, TooManyDsRecords}
use Rattle.dsec_nodes.specs.MissingDs.{bogus_at}
use Rattle.dsec_nodes.specs.Nodes.{Node}
use Rattle.dsec_nodes.specs.Replies.{Reply, sections}
use Rattle.dsec_nodes.specs.Signing.{is_set_at}
use Rattle.dsec_nodes.specs.World.{World, moment}
use Rattle.dsec_nodes.proofs.Signs.{from_tried_by}
use Rattle.dsec_node.specs.Good.{IsPair, IsGoodAt}
use Rattle.dsec_child.specs.Admissions.{IsAdmission, StandsAt, ds_cause, said_search, tried_at, tried_ds, usable_ds, ways_of}
use Rattle.dsec_child.specs.ChildKeys.{AreDs, HoldsByDs}
use Rattle.dsec_child.specs.Ways.{ways_trial}
use Rattle.dsec_child.specs.declared.admit.Admission.{Admission}
use Rattle.dsec_child.proofs.AdmitSteps.{by_trial, front_of_map, mapped_at}
use Rattle.dsec_child.proofs.TrialMaps.{filter_of_map, trial_map}
use Rattle.dsec_child.proofs.WayMaps.{cause_of_ways, pair_as_other, trial_of_ways}
use Rattle.dsec_child.proofs.WaySteps.{stands_at}

-- the data at an index
pub data_there : (typed : List TypedData) (datas : List (List ℕ)) (i : ℕ) (way : List ℕ) (d : TypedData) (via : List ℕ) → octets_of typed ≡ datas → slice_get datas i ≡ Some way
    → d ≡ get_or typed i d → via ≡ d.octets → slice_get datas i ≡ Some via
data_there typed datas i way d via are within is its =
    let below : i < length typed = subst (λ n. i < n) (ap length (sym are) ∙ length-map typed (λ (x : TypedData). x.octets)) (slice_get_within datas i way within) in
    subst (λ (xs : List (List ℕ)). slice_get xs i ≡ Some via) are (mapped_at (λ (x : TypedData). x.octets) typed i d (stands_at typed i d below is) ∙ ap (λ (x : List ℕ). Some x) (sym its))

-- one more of the data, and what it says
next_of : {X : Type 0} (xs : List X) (i : ℕ) (x : X) → i < length xs → x ≡ get_or xs i x → take (suc i) xs ≡ take i xs ++ x ∷ []
next_of [] i x below is = absurd (omega (arith, below))
next_of (y ∷ xs) zero x below is = ap (λ z. z ∷ []) (sym is)
next_of (y ∷ xs) (suc i) x below is = ap (λ zs. y ∷ zs) (next_of xs i x (omega (arith, below)) is)

pub one_more : (typed : List TypedData) (all : List read.Ds) (i : ℕ) (d : TypedData) (one : read.Ds) → i < length typed → d ≡ get_or typed i d
    → AreDs (octets_of (take i typed)) (map ds_view all) → Some (ds_view one) ≡ ds_of d.octets → ds_octets (ds_view one) ≡ d.octets
    → AreDs (octets_of (take (suc i) typed)) (map ds_view (all ++ one ∷ []))
one_more typed all i d one below is a says again =
    let front = octets_of (take i typed) in
    let data_next : octets_of (take (suc i) typed) ≡ front ++ d.octets ∷ [] = ap octets_of (next_of typed i d below is) ∙ map-append (λ (x : TypedData). x.octets) (take i typed) (d ∷ []) in
    let ds_next : map ds_view (all ++ one ∷ []) ≡ map ds_view all ++ ds_view one ∷ [] = map-append ds_view all (one ∷ []) in
    record {
      say =
          ap (map (λ ds. Some ds)) ds_next
          ∙ (map-append (λ (ds : Ds). Some ds) (map ds_view all) (ds_view one ∷ [])
          ∙ (ap (λ (xs : List (Option Ds)). xs ++ Some (ds_view one) ∷ []) a.say
          ∙ (ap (λ (x : Option Ds). map ds_of front ++ x ∷ []) says
          ∙ (sym (map-append ds_of front (d.octets ∷ []))
          ∙ ap (map ds_of) (sym data_next)))));
      are =
          ap (map ds_octets) ds_next
          ∙ (map-append ds_octets (map ds_view all) (ds_view one ∷ [])
          ∙ (ap (λ (xs : List (List ℕ)). xs ++ ds_octets (ds_view one) ∷ []) a.are
          ∙ (ap (λ (x : List ℕ). front ++ x ∷ []) again
          ∙ sym data_next)));
    }

abbrev tried_map : {P Q : Type 0} → (P → Q) → Tried P → Tried Q
tried_map h (good p) = good (h p)
tried_map h nothing = nothing
tried_map h all_bad = all_bad
tried_map h too_many_bad = too_many_bad

left_map : {P Q : Type 0} (h : P → Q) (a b : Bool) → cond a nothing (cond b too_many_bad all_bad) ≡ tried_map h (cond a nothing (cond b too_many_bad all_bad))
left_map h true b = refl
left_map h false true = refl
left_map h false false = refl

comes_map : {P Q : Type 0} (h : P → Q) (room : ℕ) (x : Trial P) → comes_to room (trial_map h x) ≡ tried_map h (comes_to room x)
comes_map h room (found p) = refl
comes_map h room (left more) = left_map h (more == room) (more == 0)

-- what trying with mapped ways comes to
tried_of_map : {A B : Type 0} (h : A → B) (accepts : Accepts) (group : Group) (t room : ℕ) (search : B → KeySearch) (ways : List A) → 0 < room
    → tried_at accepts group t room search (map h ways) ≡ tried_map (pair_as_other h) (tried_at accepts group t room (λ a. search (h a)) ways)
tried_of_map {A} {B} h accepts group t room search ways some =
    let x : Trial (Record × Admitted A) = ways_trial accepts group t room (λ a. search (h a)) ways in
    by_trial accepts group t room search (map h ways) (trial_map (pair_as_other h) x) some (trial_of_ways h group search accepts t room ways)
    ∙ (comes_map (pair_as_other h) room x
    ∙ ap (tried_map (pair_as_other h)) (sym (by_trial accepts group t room (λ a. search (h a)) ways x some refl)))

abbrev said : Ds → Option Ds
said ds = Some ds

-- data that say a DS record are its octets
octets_there : (datas : List (List ℕ)) (all : List Ds) → map said all ≡ map ds_of datas → map ds_octets all ≡ datas
    → (d : List ℕ) (ds : Ds) → Contains datas d → Some ds ≡ ds_of d → ds_octets ds ≡ d
octets_there [] all e f d ds h says = absurd (not_in_none d h)
octets_there (x ∷ datas) [] e f d ds h says = absurd cc
octets_there (x ∷ datas) (one ∷ all) e f d ds h says =
    let head : Some one ≡ ds_of x = cc in
    let rest : map said all ≡ map ds_of datas = cc in
    let its : ds_octets one ≡ x = cc in
    let others : map ds_octets all ≡ datas = cc in
    elim (in_more x d datas h) [
      | inl is ↦ ap ds_octets (same_Some ds one (says ∙ (ap ds_of (sym is) ∙ sym head))) ∙ (its ∙ is)
      | inr later ↦ octets_there datas all rest others d ds later says
    ]

module _ (w : World) (group : Group) (pending : Pending) (all : List Ds) (a : AreDs pending.link.records.datas all) where
  abbrev datas : List (List ℕ)
  datas = pending.link.records.datas

  abbrev most : ℕ
  most = w.bounds.max_keys_for_ds

  abbrev max : ℕ
  max = w.bounds.max_ds_records

  abbrev front : List Ds
  front = ways_of max all

  abbrev data_tried : Tried (Record × Admitted (List ℕ))
  data_tried = tried_by w group (ds_search most group) (ways w pending)

  abbrev data_cause : Cause
  data_cause = none_by w pending (cause_among BadSignatureForDnskey group (ds_search most group) (ways w pending))

  same_usable : map said (filter usable_ds all) ≡ map ds_of (usable datas)
  same_usable = sym (filter_of_map is_supported said all) ∙ (ap (filter is_supported) a.say ∙ filter_of_map is_supported ds_of datas)

  same_ways : map said front ≡ map ds_of (ways w pending)
  same_ways = front_of_map said max (filter usable_ds all) ∙ (ap (take max) same_usable ∙ sym (front_of_map ds_of max (usable datas)))

  same_number : length (filter usable_ds all) ≡ length (usable datas)
  same_number = sym (length-map (filter usable_ds all) said) ∙ (ap length same_usable ∙ length-map (usable datas) ds_of)

  same_causes : cause_among BadSignatureForDnskey group (said_search most group) front ≡ cause_among BadSignatureForDnskey group (ds_search most group) (ways w pending)
  same_causes =
      sym (cause_of_ways said group (search_for most group) BadSignatureForDnskey front)
      ∙ (ap (cause_among BadSignatureForDnskey group (search_for most group)) same_ways
      ∙ cause_of_ways ds_of group (search_for most group) BadSignatureForDnskey (ways w pending))

  same_cause : ds_cause most max group all ≡ data_cause
  same_cause =
      ap (λ n. cond (nat_lt max n) TooManyDsRecords (cause_among BadSignatureForDnskey group (said_search most group) front)) same_number
      ∙ ap (λ (c : Cause). cond (nat_lt max (length (usable datas))) TooManyDsRecords c) same_causes

  module _ (some : 0 < w.bounds.room) where
    abbrev ds_tried : Tried (Record × Admitted Ds)
    ds_tried = tried_ds w.accepts group (moment w) w.bounds.room most max all

    same_tried : tried_map (pair_as_other said) ds_tried ≡ tried_map (pair_as_other ds_of) data_tried
    same_tried =
        sym (tried_of_map said w.accepts group (moment w) w.bounds.room (search_for most group) front some)
        ∙ (ap (tried_at w.accepts group (moment w) w.bounds.room (search_for most group)) same_ways
        ∙ tried_of_map ds_of w.accepts group (moment w) w.bounds.room (search_for most group) (ways w pending) some)

    -- the pair of the data, where that of what they say stands
    stands : (at : Admission) (q : Record × Admitted Ds) (p : Record × Admitted (List ℕ)) → pair_as_other said q ≡ pair_as_other ds_of p → Contains datas p.1.way
        → StandsAt all group at q → StandsAt datas group at p
    stands at q p e there s =
        let way : Some q.1.way ≡ ds_of p.1.way = ap (λ (x : Record × Admitted (Option Ds)). x.1.way) e in
        let its : ds_octets q.1.way ≡ p.1.way = octets_there datas all a.say a.are p.1.way q.1.way there way in
        record {
          way_stands = subst (λ (xs : List (List ℕ)). slice_get xs at.via ≡ Some p.1.way) a.are (mapped_at ds_octets all at.via q.1.way s.way_stands ∙ ap (λ (x : List ℕ). Some x) its);
          key_record = s.key_record;
          key_stands = s.key_stands;
          says = sym (ap (λ (x : Record × Admitted (Option Ds)). x.1.rdata) e) ∙ s.says;
          signature_stands = s.signature_stands ∙ ap (λ (x : Record × Admitted (Option Ds)). Some x.0) e;
        }

    there_of : (p : Record × Admitted (List ℕ)) → data_tried ≡ good p → Contains datas p.1.way
    there_of p e = (from_filter is_usable datas p.1.way (from_take max (usable datas) p.1.way (from_tried_by w most group (ways w pending) p e).listed)).1

    -- an admission by what the data say is one by the data
    pub by_data : (r : Result Admission Cause) → IsAdmission all group (ds_cause most max group all) ds_tried r → IsAdmission datas group data_cause data_tried r
    by_data r h = by ds_tried data_tried same_tried (λ p e. there_of p e) h
      where
        by : (x : Tried (Record × Admitted Ds)) (y : Tried (Record × Admitted (List ℕ))) → tried_map (pair_as_other said) x ≡ tried_map (pair_as_other ds_of) y
            → ((p : Record × Admitted (List ℕ)) → y ≡ good p → Contains datas p.1.way)
            → IsAdmission all group (ds_cause most max group all) x r → IsAdmission datas group data_cause y r
        by (good q) (good p) e there (at, is, s) = let same : pair_as_other said q ≡ pair_as_other ds_of p = cc in (at, is, stands at q p same (there p refl) s)
        by (good q) nothing e there k = absurd cc
        by (good q) all_bad e there k = absurd cc
        by (good q) too_many_bad e there k = absurd cc
        by nothing (good p) e there k = absurd cc
        by nothing nothing e there k = k ∙ ap (λ c. Err c) same_cause
        by nothing all_bad e there k = absurd cc
        by nothing too_many_bad e there k = absurd cc
        by all_bad (good p) e there k = absurd cc
        by all_bad nothing e there k = absurd cc
        by all_bad all_bad e there k = k ∙ ap (λ c. Err c) same_cause
        by all_bad too_many_bad e there k = absurd cc
        by too_many_bad (good p) e there k = absurd cc
        by too_many_bad nothing e there k = absurd cc
        by too_many_bad all_bad e there k = absurd cc
        by too_many_bad too_many_bad e there k = k

module _ (w : World) (zone : Node) (pending : Pending) (group : Group) where
  abbrev tried_here : Tried (Record × Admitted (List ℕ))
  tried_here = tried_by w group (ds_search w.bounds.max_keys_for_ds group) (ways w pending)

  abbrev why : Cause
  why = none_by w pending (cause_among BadSignatureForDnskey group (ds_search w.bounds.max_keys_for_ds group) (ways w pending))

  -- an admission is that of a good pair
  pub from_ok : (it : Admission) → IsAdmission pending.link.records.datas group why tried_here (Ok it) → HoldsByDs w pending group it
  from_ok it h = by tried_here refl h
    where
      by : (x : Tried (Record × Admitted (List ℕ))) → tried_here ≡ x → IsAdmission pending.link.records.datas group why x (Ok it) → HoldsByDs w pending group it
      by (good p) e (at, r, s) = let same : at ≡ it = cc in record { pair = p; is_good = e; stands = subst (λ a. StandsAt pending.link.records.datas group a p) same s }
      by nothing e r = absurd cc
      by all_bad e r = absurd cc
      by too_many_bad e r = absurd cc

  -- without one the node is bogus
  pub from_err : (cause : Cause) → IsAdmission pending.link.records.datas group why tried_here (Err cause) → bogus_at w pending.name cause ≡ by_tried w zone pending group tried_here
  from_err cause h = by tried_here h
    where
      by : (x : Tried (Record × Admitted (List ℕ))) → IsAdmission pending.link.records.datas group why x (Err cause) → bogus_at w pending.name cause ≡ by_tried w zone pending group x
      by (good p) (at, r, s) = absurd cc
      by nothing r = let same : cause ≡ why = cc in ap (bogus_at w pending.name) same
      by all_bad r = let same : cause ≡ why = cc in ap (bogus_at w pending.name) same
      by too_many_bad r = let same : cause ≡ TooManyBadSignaturesForDnskey = cc in ap (bogus_at w pending.name) same

  module _ (it : Admission) (h : HoldsByDs w pending group it) (via : List ℕ) (there : slice_get pending.link.records.datas it.via ≡ Some via) where
    pub pair_is : IsPair group via it.key it.signature h.pair
    pair_is = record {
      stands = h.stands.signature_stands;
      by_way = same_Some h.pair.1.way via (sym h.stands.way_stands ∙ there);
      key_record = h.stands.key_record;
      key_stands = h.stands.key_stands;
      says = h.stands.says;
    }

    pub good_is : IsGoodAt w pending group via it.key it.signature
    good_is = record { pair = h.pair; is_pair = pair_is; is_good = from_tried_by w w.bounds.max_keys_for_ds group (ways w pending) h.pair h.is_good }

    pub node_is : (n : Node) → n ≡ apex_by w zone pending group h.pair → n ≡ by_tried w zone pending group tried_here
    node_is n e = e ∙ sym (ap (by_tried w zone pending group) h.is_good)

-- the node, by the set that the reply has
pub by_set : (w : World) (zone : Node) (pending : Pending) (reply : Reply) (answers authorities : List Group) (group : Group) → sections answers authorities ≡ reply → Some group ≡ find (is_set_at pending.name DNSKEY) answers
    → by_tried w zone pending group (tried_by w group (ds_search w.bounds.max_keys_for_ds group) (ways w pending)) ≡ by_key_reply w zone pending reply
by_set w zone pending reply answers authorities group e f = ap (by_key_set w zone pending) f ∙ ap (by_key_reply w zone pending) e

pub by_no_set : (w : World) (zone : Node) (pending : Pending) (reply : Reply) (answers authorities : List Group) → sections answers authorities ≡ reply → None ≡ find (is_set_at pending.name DNSKEY) answers
    → bogus_at w pending.name NoDnskey ≡ by_key_reply w zone pending reply
by_no_set w zone pending reply answers authorities e f = ap (by_key_set w zone pending) f ∙ ap (by_key_reply w zone pending) e
