-- What trying ways comes to, as the calls answer it.
use Rattle.std.proofs.Common.{◌≡◌, ℕ, zero, suc, ◌<◌, ◌≤◌, ◌==◌, nat_lt, Bool, true, false, cond, List, [], ◌∷◌, map, length, take, Option, Some, refl, sym, ap, ◌∙◌, subst, arith}
use Rattle.std.specs.Prelude.{◌&&◌, filter, flat_map, slice_get, unwrap_or, Ok, Err}
use Rattle.std.specs.Option.{option_map, is_some}
use Rattle.std.proofs.lemmas.Bool.{false≢true, ne_eqb, le-ltb, lt-ltb, ltb-true, ltb-false}
use Rattle.dsec_spec.specs.Accepts.{Accepts}
use Rattle.dsec_spec.specs.Groups.{Group}
use Rattle.dsec_spec.specs.KeySearch.{KeySearch}
use Rattle.dsec_spec.specs.Records.{Record, Ds}
use Rattle.dsec_spec.specs.Trying.{Tried, nothing, all_bad, too_many_bad}
use Rattle.dsec_group.specs.Trials.{Trial, found, left, comes_to}
use Rattle.dsec_group.proofs.TrialLaws.{trial_comes}
use Rattle.dsec_nodes.specs.Admission.{Admitted, admitted_signs, cause_among, matching_by}
use Rattle.dsec_nodes.specs.Causes.{Cause, NoSignature, BadSignatureForDnskey, TooManyBadSignaturesForDnskey, TooManyDsRecords}
use Rattle.dsec_child.specs.Admissions.{IsAdmission, StandsAt, cause_left, ds_cause, ds_cause_left, said_search, tried_at, tried_ds, usable_ds, ways_of}
use Rattle.dsec_child.specs.Tries.{FoundAt}
use Rattle.dsec_child.specs.Ways.{pairs_trial, ways_trial, supported_search}
use Rattle.dsec_child.specs.declared.admit.Admission.{Admission}
use Rattle.dsec_child.proofs.TrialMaps.{trial_map}
use Rattle.dsec_child.proofs.WayMaps.{pair_as_other, trial_of_ways, cause_of_ways, tested_matching, tested_cause_among}

-- a record that stands in the front of a list stands in the list
pub in_front : {X : Type 0} (n : ℕ) (xs : List X) (i : ℕ) (x : X) → slice_get (take n xs) i ≡ Some x → slice_get xs i ≡ Some x
in_front zero xs i x e = absurd (false≢true (ap is_some e))
in_front (suc n) [] i x e = e
in_front (suc n) (y ∷ ys) zero x e = e
in_front (suc n) (y ∷ ys) (suc i) x e = in_front n ys i x e

pub mapped_at : {X Y : Type 0} (f : X → Y) (xs : List X) (k : ℕ) (x : X) → slice_get xs k ≡ Some x → slice_get (map f xs) k ≡ Some (f x)
mapped_at f [] k x e = absurd (false≢true (ap is_some e))
mapped_at f (y ∷ ys) zero x e = ap (option_map f) e
mapped_at f (y ∷ ys) (suc k) x e = mapped_at f ys k x e

pub front_of_map : {X Y : Type 0} (f : X → Y) (n : ℕ) (xs : List X) → map f (take n xs) ≡ take n (map f xs)
front_of_map f zero xs = refl
front_of_map f (suc n) [] = refl
front_of_map f (suc n) (x ∷ xs) = ap (λ ys. f x ∷ ys) (front_of_map f n xs)

module _ {A : Type 0} (all : List A) (group : Group) (cause : Cause) (room : ℕ) (some : 0 < room) where
  -- the pair that was found
  pub good_admission : (tried : Tried (Record × Admitted A)) (p : Record × Admitted A) (at : Admission) → tried ≡ comes_to room (found p) → StandsAt all group at p
      → IsAdmission all group cause tried (Ok at)
  good_admission tried p at e stands = subst (λ x. IsAdmission all group cause x (Ok at)) (sym e) (at, refl, stands)

  -- none was found
  pub left_admission : (tried : Tried (Record × Admitted A)) (more : ℕ) (answer : Cause) → tried ≡ comes_to room (left more) → (more ≡ 0 → answer ≡ TooManyBadSignaturesForDnskey) → (0 < more → answer ≡ cause)
      → IsAdmission all group cause tried (Err answer)
  left_admission tried more answer e at_end otherwise = subst (λ x. IsAdmission all group cause x (Err answer)) (sym e) (by more at_end otherwise)
    where
      none : (b : Bool) → answer ≡ cause → IsAdmission all group cause (cond b nothing all_bad) (Err answer)
      none true same = ap (λ c. Err c) same
      none false same = ap (λ c. Err c) same

      by : (n : ℕ) → (n ≡ 0 → answer ≡ TooManyBadSignaturesForDnskey) → (0 < n → answer ≡ cause) → IsAdmission all group cause (comes_to room (left n)) (Err answer)
      by zero z p =
          let other : (0 == room) ≡ false = ne_eqb 0 room (λ q. absurd (omega (arith, q, some))) in
          subst (λ (b : Bool). IsAdmission all group cause (cond b nothing too_many_bad) (Err answer)) (sym other) (ap (λ c. Err c) (z refl))
      by (suc n) z p =
          let some_left : (suc n == 0) ≡ false = ne_eqb (suc n) 0 (λ q. omega (arith, q)) in
          subst (λ (b : Bool). IsAdmission all group cause (cond (suc n == room) nothing (cond b too_many_bad all_bad)) (Err answer)) (sym some_left) (none (suc n == room) (p (omega arith)))

-- the cause, where so many more may be tried
pub none_left : (more : ℕ) (cause : Option Cause) → more ≡ 0 → cause_left more cause ≡ TooManyBadSignaturesForDnskey
none_left more cause e = ap (λ n. cause_left n cause) e

pub some_left : (more : ℕ) (cause : Option Cause) → 0 < more → cause_left more cause ≡ unwrap_or cause NoSignature
some_left more cause some = ap (λ (b : Bool). cond b TooManyBadSignaturesForDnskey (unwrap_or cause NoSignature)) (ne_eqb more 0 (λ z. absurd (omega (arith, z, some))))

-- what trying comes to, by a trial
pub by_trial : {A : Type 0} (accepts : Accepts) (group : Group) (t room : ℕ) (search : A → KeySearch) (ways : List A) (x : Trial (Record × Admitted A)) → 0 < room
    → ways_trial accepts group t room search ways ≡ x → tried_at accepts group t room search ways ≡ comes_to room x
by_trial accepts group t room search ways x some e =
    trial_comes (admitted_signs accepts group t) room (flat_map (matching_by group search) ways) some ∙ ap (comes_to room) e

-- by anchors, where none is good
pub anchors_left : {A : Type 0} (accepts : Accepts) (group : Group) (t room : ℕ) (search : A → KeySearch) (ways : List A) (bad : Cause) (more : ℕ) (cause : Option Cause) → 0 < room
    → ways_trial accepts group t room search ways ≡ left more → (0 < more → cause_among bad group search ways ≡ unwrap_or cause NoSignature)
    → IsAdmission ways group (cause_among bad group search ways) (tried_at accepts group t room search ways) (Err (cause_left more cause))
anchors_left accepts group t room search ways bad more cause some e why =
    left_admission ways group (cause_among bad group search ways) room some (tried_at accepts group t room search ways) more (cause_left more cause)
    (by_trial accepts group t room search ways (left more) some e) (none_left more cause) (λ s. some_left more cause s ∙ sym (why s))

by_contradiction : (m n : ℕ) → (m < n → ⊥) → n ≤ m
by_contradiction m n h = by (nat_lt m n) refl
  where
    by : (b : Bool) → nat_lt m n ≡ b → n ≤ m
    by true e = absurd (h (ltb-true m n e))
    by false e = ltb-false m n e

-- DS records, of which those of an unknown algorithm or digest admit nothing
module _ {A : Type 0} (view : A → Ds) (accepts : Accepts) (group : Group) (t room most max front : ℕ) (all : List A)
    (fits : filter usable_ds (take front (map view all)) ≡ take max (filter usable_ds (map view all))) where
  abbrev picks : A → KeySearch
  picks ds = supported_search most group (view ds)

  tried_ones : filter usable_ds (map view (take front all)) ≡ ways_of max (map view all)
  tried_ones = ap (filter usable_ds) (front_of_map view front all) ∙ fits

  pub ds_trial : (x : Trial (Record × Admitted A)) → ways_trial accepts group t room picks (take front all) ≡ x
      → ways_trial accepts group t room (said_search most group) (ways_of max (map view all)) ≡ trial_map (pair_as_other view) x
  ds_trial x e =
      ap (ways_trial accepts group t room (said_search most group)) (sym tried_ones)
      ∙ (ap (pairs_trial accepts group t room) (sym (tested_matching group (said_search most group) usable_ds (map view (take front all))))
      ∙ (trial_of_ways view group (supported_search most group) accepts t room (take front all)
      ∙ ap (trial_map (pair_as_other view)) e))

  pub ds_causes : cause_among BadSignatureForDnskey group picks (take front all) ≡ cause_among BadSignatureForDnskey group (said_search most group) (ways_of max (map view all))
  ds_causes =
      sym (cause_of_ways view group (supported_search most group) BadSignatureForDnskey (take front all))
      ∙ (tested_cause_among group (said_search most group) usable_ds BadSignatureForDnskey (map view (take front all))
      ∙ ap (cause_among BadSignatureForDnskey group (said_search most group)) tried_ones)

  -- the pair that was found, at the record's index
  pub ds_stands : (signature via key : ℕ) (way : A) (x : Trial (Record × Admitted A)) (f : FoundAt group signature key way x) → slice_get (take front all) via ≡ Some way
      → StandsAt (map view all) group (record { via = via; key = key; signature = signature }) (pair_as_other view f.pair)
  ds_stands signature via key way x f e = record {
    way_stands = mapped_at view all via way (in_front front all via way e) ∙ ap (λ (w : A). Some (view w)) (sym f.is_pair.by_way);
    key_record = f.is_pair.key_record;
    key_stands = f.is_pair.key_stands;
    says = f.is_pair.says;
    signature_stands = f.is_pair.signature_stands;
  }

  module _ (some : 0 < room) where
    pub ds_good : (signature via key : ℕ) (way : A) → slice_get (take front all) via ≡ Some way → FoundAt group signature key way (ways_trial accepts group t room picks (take front all))
        → IsAdmission (map view all) group (ds_cause most max group (map view all)) (tried_ds accepts group t room most max (map view all)) (Ok (record { via = via; key = key; signature = signature }))
    ds_good signature via key way there f =
        good_admission (map view all) group (ds_cause most max group (map view all)) room some (tried_ds accepts group t room most max (map view all)) (pair_as_other view f.pair)
        (record { via = via; key = key; signature = signature })
        (by_trial accepts group t room (said_search most group) (ways_of max (map view all)) (found (pair_as_other view f.pair)) some (ds_trial (found f.pair) f.is_found))
        (ds_stands signature via key way (ways_trial accepts group t room picks (take front all)) f there)

    module _ (more : ℕ) (cause : Option Cause) (beyond : front < length all → max < length (filter usable_ds (map view all))) (no_more : max < length (filter usable_ds (map view all)) → front < length all)
        (e : ways_trial accepts group t room picks (take front all) ≡ left more) (why : 0 < more → cause_among BadSignatureForDnskey group picks (take front all) ≡ unwrap_or cause NoSignature) where
      spent : more ≡ 0 → ds_cause_left more cause (nat_lt front (length all)) ≡ TooManyBadSignaturesForDnskey
      spent z = ap (λ n. ds_cause_left n cause (nat_lt front (length all))) z

      abbrev first : Cause
      first = cause_among BadSignatureForDnskey group (said_search most group) (ways_of max (map view all))

      not_spent : 0 < more → (b : Bool) → nat_lt front (length all) ≡ b → ds_cause_left more cause b ≡ cond (nat_lt max (length (filter usable_ds (map view all)))) TooManyDsRecords first
      not_spent s true f =
          ap (λ (b : Bool). cond (b && true) TooManyDsRecords (cause_left more cause)) (lt-ltb 0 more s)
          ∙ sym (ap (λ (b : Bool). cond b TooManyDsRecords first) (lt-ltb max (length (filter usable_ds (map view all))) (beyond (ltb-true front (length all) f))))
      not_spent s false f =
          let past = ltb-false front (length all) f in
          let few : length (filter usable_ds (map view all)) ≤ max = by_contradiction max (length (filter usable_ds (map view all))) (λ m. let l = no_more m in omega (arith, l, past)) in
          ap (λ (b : Bool). cond (b && false) TooManyDsRecords (cause_left more cause)) (lt-ltb 0 more s)
          ∙ (some_left more cause s ∙ (sym (why s) ∙ (ds_causes
          ∙ sym (ap (λ (b : Bool). cond b TooManyDsRecords first) (le-ltb max (length (filter usable_ds (map view all))) few)))))

      pub ds_left : IsAdmission (map view all) group (ds_cause most max group (map view all)) (tried_ds accepts group t room most max (map view all)) (Err (ds_cause_left more cause (nat_lt front (length all))))
      ds_left =
          left_admission (map view all) group (ds_cause most max group (map view all)) room some (tried_ds accepts group t room most max (map view all)) more (ds_cause_left more cause (nat_lt front (length all)))
          (by_trial accepts group t room (said_search most group) (ways_of max (map view all)) (left more) some (ds_trial (left more) e)) spent (λ s. not_spent s (nat_lt front (length all)) refl)
