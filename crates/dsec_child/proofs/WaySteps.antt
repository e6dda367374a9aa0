-- Ways tried one after the other.
use Rattle.std.proofs.Common.{◌≡◌, ℕ, zero, suc, ◌+◌, ◌-◌, ◌<◌, ◌≤◌, ◌==◌, Bool, cond, List, [], ◌∷◌, length, drop, get_or, Option, Some, None, refl, sym, ap, ◌∙◌, arith}
use Rattle.std.specs.Prelude.{filter, filter_map, flat_map, nat_lt, slice_get, unwrap_or}
use Rattle.std.specs.List.{cons_option}
use Rattle.std.proofs.lemmas.Bool.{ltb-true, lt-ltb, ne_eqb, false_from_ne_true}
use Rattle.std.proofs.lemmas.List.{drop_all, length-map}
use Rattle.dsec_spec.specs.Reading.{◌>>=◌}
use Rattle.dsec_spec.specs.Names.{place}
use Rattle.dsec_spec.specs.Records.{Record, Key, key_of}
use Rattle.dsec_spec.specs.Accepts.{Accepts}
use Rattle.dsec_spec.specs.KeySearch.{KeySearch, found_at, not_found, too_many}
use Rattle.dsec_spec.specs.Groups.{Group, set_in}
use Rattle.dsec_spec.specs.Trying.{pair_matches, pair_signs}
use Rattle.dsec_spec.proofs.ListLemmas.{drop_here}
use Rattle.dsec_group.specs.Trials.{Trial, found, left, trial, pair_trial}
use Rattle.dsec_group.proofs.TrialLaws.{trial_none, trial_append, then_on}
use Rattle.dsec_nodes.specs.Causes.{Cause, NoSignature, TooManyDnskeysForDs}
use Rattle.dsec_nodes.specs.Admission.{Admitted, admitted_at, admitted_signs, matching, matching_by, cause_by, cause_among, first_or}
use Rattle.dsec_child.specs.Ways.{pairs_trial, ways_trial}
use Rattle.dsec_child.specs.Tries.{IsWayTry, earlier, cause_of_key}
use Rattle.dsec_child.specs.declared.tries.WayTry.TheVariants as one
use Rattle.dsec_child.proofs.TrialMaps.{trial_map, trial_of_map, more_left, filter_of_map, one_key}

-- why a key shows no key set, by how many more may be tried
cause_left : {P : Type 0} (bad : Cause) (room more : ℕ) (ps : List P) → more ≡ room - length ps → 0 < more → cause_of_key bad room more ≡ cond (length ps == 0) None (Some bad)
cause_left bad room more [] e some =
    let z : room - 0 ≡ room = omega arith in
    ap (λ (b : Bool). cond b (Some bad) None) (false_from_ne_true (nat_lt more room) (λ t. let l = ltb-true more room t in let n : more ≡ room - 0 = e in absurd (omega (arith, l, n, z))))
cause_left bad room more (p ∷ ps) e some =
    let l : more < room = (let n : more ≡ room - suc (length ps) = e in omega (arith, n, some)) in
    ap (λ (b : Bool). cond b (Some bad) None) (lt-ltb more room l)
    ∙ sym (ap (λ (b : Bool). cond b None (Some bad)) (ne_eqb (suc (length ps)) 0 (λ z. omega (arith, z))))

-- what stands at an index within a list
pub stands_at : {X : Type 0} (xs : List X) (i : ℕ) (x : X) → i < length xs → x ≡ get_or xs i x → slice_get xs i ≡ Some x
stands_at [] i x below is = absurd (omega (arith, below))
stands_at (y ∷ ys) zero x below is = ap (λ z. Some z) (sym is)
stands_at (y ∷ ys) (suc i) x below is = stands_at ys i x (omega (arith, below)) is

module _ (accepts : Accepts) (group : Group) (t : ℕ) where
  -- the signatures that match a key, and those of them that count
  abbrev named : Key → List Record
  named key = filter (λ s. pair_matches (place group.owner) (s, key)) group.signatures

  abbrev counts : Key → Record → Bool
  counts key s = pair_signs accepts (set_in group) (place group.owner) t (s, key)

  abbrev signatures_trial : ℕ → Key → Trial Record
  signatures_trial room key = trial (counts key) room (named key)

  by_pairs : (room : ℕ) (key : Key) → pair_trial accepts group (place group.owner) t room group.signatures (key ∷ []) ≡ trial_map {P = Record × Key} (λ s. (s, key)) (signatures_trial room key)
  by_pairs room key =
      ap (λ (ps : List (Record × Key)). trial (pair_signs accepts (set_in group) (place group.owner) t) room (filter (pair_matches (place group.owner)) ps)) (one_key key group.signatures)
      ∙ (ap (trial (pair_signs accepts (set_in group) (place group.owner) t) room) (filter_of_map (pair_matches (place group.owner)) (λ s. (s, key)) group.signatures)
      ∙ trial_of_map (λ s. (s, key)) (pair_signs accepts (set_in group) (place group.owner) t) room (named key))

  same_left : (room : ℕ) (key : Key) (more : ℕ) → pair_trial accepts group (place group.owner) t room group.signatures (key ∷ []) ≡ left more → signatures_trial room key ≡ left more
  same_left room key more e = by (signatures_trial room key) refl (sym (by_pairs room key) ∙ e)
    where
      by : (x : Trial Record) → signatures_trial room key ≡ x → trial_map {P = Record × Key} (λ s. (s, key)) x ≡ left more → signatures_trial room key ≡ left more
      by (found s) same f = absurd cc
      by (left n) same f = let is : n ≡ more = cc in same ∙ ap left is

module _ {A : Type 0} (accepts : Accepts) (group : Group) (t : ℕ) where
  abbrev is_good : Record × Admitted A → Bool
  is_good = admitted_signs accepts group t

  -- a way that admits the key at an index
  admits : (way : A) (one_record : Record) (key : Key) (index : ℕ) → slice_get group.records index ≡ Some one_record → key_of one_record.rdata ≡ Some key
      → admitted_at group way (found_at index) ≡ Some (record { way = way; rdata = one_record.rdata; key = key })
  admits way one_record key index stands reads =
      ap (λ (o : Option Record). o >>= λ r. key_of r.rdata >>= λ k. Some (record { way = way; rdata = r.rdata; key = k })) stands
      ∙ ap (λ (o : Option Key). o >>= λ k. Some (record { way = way; rdata = one_record.rdata; key = k })) reads

  by_admitted : (room : ℕ) (a : Admitted A) → pairs_trial accepts group t room (matching group (Some a)) ≡ trial_map {P = Record × Admitted A} (λ s. (s, a)) (signatures_trial accepts group t room a.key)
  by_admitted room a = trial_of_map (λ s. (s, a)) is_good room (named accepts group t a.key)

  -- what was found with a key is found with a way that admits it
  found_admitted : (room : ℕ) (a : Admitted A) (r : Record) (k : Key) → pair_trial accepts group (place group.owner) t room group.signatures (a.key ∷ []) ≡ found (r, k)
      → pairs_trial accepts group t room (matching group (Some a)) ≡ found (r, a)
  found_admitted room a r k e = by_admitted room a ∙ by (signatures_trial accepts group t room a.key) (sym (by_pairs accepts group t room a.key) ∙ e)
    where
      by : (x : Trial Record) → trial_map {P = Record × Key} (λ s. (s, a.key)) x ≡ found (r, k) → trial_map {P = Record × Admitted A} (λ s. (s, a)) x ≡ found (r, a)
      by (found s) f = let same : (s, a.key) ≡ (r, k) = cc in ap (λ (p : Record × Key). found (p.0, a)) same
      by (left n) f = absurd cc

  left_admitted : (room : ℕ) (a : Admitted A) (more : ℕ) → pair_trial accepts group (place group.owner) t room group.signatures (a.key ∷ []) ≡ left more
      → pairs_trial accepts group t room (matching group (Some a)) ≡ left more
  left_admitted room a more e = by_admitted room a ∙ ap (trial_map {P = Record × Admitted A} (λ s. (s, a))) (same_left accepts group t room a.key more e)

  -- trying with the key at an index
  pub key_found : (bad : Cause) (room index i : ℕ) (one_record : Record) (key : Key) (way : A) (r : Record) (k : Key) → slice_get group.records index ≡ Some one_record → key_of one_record.rdata ≡ Some key
      → slice_get group.signatures i ≡ Some r → pair_trial accepts group (place group.owner) t room group.signatures (key ∷ []) ≡ found (r, k)
      → IsWayTry accepts group bad t room way (found_at index) (one.Good i index)
  key_found bad room index i one_record key way r k stands reads there e = record {
    pair = (r, record { way = way; rdata = one_record.rdata; key = key });
    is_found = ap (λ (o : Option (Admitted A)). pairs_trial accepts group t room (matching group o)) (admits way one_record key index stands reads)
        ∙ found_admitted room (record { way = way; rdata = one_record.rdata; key = key }) r k e;
    is_pair = record { by_way = refl; signature_stands = there; key_record = one_record; key_stands = stands; says = refl };
  }

  pub key_left : (bad : Cause) (room index more : ℕ) (one_record : Record) (key : Key) (way : A) (cause : Option Cause) → slice_get group.records index ≡ Some one_record → key_of one_record.rdata ≡ Some key
      → pair_trial accepts group (place group.owner) t room group.signatures (key ∷ []) ≡ left more → cause ≡ cause_of_key bad room more
      → IsWayTry accepts group bad t room way (found_at index) (one.Left more cause)
  key_left bad room index more one_record key way cause stands reads e why = (
    ap (λ (o : Option (Admitted A)). pairs_trial accepts group t room (matching group o)) its ∙ left_admitted room a more e,
    λ some. why ∙ (cause_left bad room more (named accepts group t key) (more_left (counts accepts group t key) room more (named accepts group t key) (same_left accepts group t room key more e)) some
        ∙ (sym (ap (λ (n : ℕ). cond (n == 0) None (Some bad)) (length-map (named accepts group t key) (λ s. (s, a))))
        ∙ sym (ap (λ (o : Option (Admitted A)). cause_by bad (found_at index) (matching group o)) its))),
  )
    where
      a : Admitted A
      a = record { way = way; rdata = one_record.rdata; key = key }

      its : admitted_at group way (found_at index) ≡ Some a
      its = admits way one_record key index stands reads

  -- no key is admitted
  no_pairs : (bad : Cause) (room : ℕ) (way : A) (picked : KeySearch) (cause : Option Cause) → admitted_at group way picked ≡ None → cause ≡ cause_by {P = Record × Admitted A} bad picked []
      → IsWayTry accepts group bad t room way picked (one.Left room cause)
  no_pairs bad room way picked cause none why = (
    ap (λ (o : Option (Admitted A)). pairs_trial accepts group t room (matching group o)) none ∙ trial_none is_good room,
    λ some. why ∙ sym (ap (λ (o : Option (Admitted A)). cause_by bad picked (matching group o)) none),
  )

  pub no_key : (bad : Cause) (room : ℕ) (way : A) → IsWayTry accepts group bad t room way not_found (one.Left room None)
  no_key bad room way = no_pairs bad room way not_found None refl refl

  pub too_many_keys : (bad : Cause) (room : ℕ) (way : A) → IsWayTry accepts group bad t room way too_many (one.Left room (Some TooManyDnskeysForDs))
  too_many_keys bad room way = no_pairs bad room way too_many (Some TooManyDnskeysForDs) refl refl

  -- an index that says no key
  pub no_key_at : (bad : Cause) (room index : ℕ) (way : A) → (slice_get group.records index >>= λ r. key_of r.rdata) ≡ None → IsWayTry accepts group bad t room way (found_at index) (one.Left room None)
  no_key_at bad room index way e = no_pairs bad room way (found_at index) None (by (slice_get group.records index) e) refl
    where
      made : Record → Key → Option (Admitted A)
      made r k = Some (record { way = way; rdata = r.rdata; key = k })

      by_key : (r : Record) (o : Option Key) → o ≡ None → (o >>= made r) ≡ None
      by_key r None f = refl
      by_key r (Some k) f = absurd cc

      by : (o : Option Record) → (o >>= λ r. key_of r.rdata) ≡ None → (o >>= λ r. key_of r.rdata >>= made r) ≡ None
      by None f = refl
      by (Some r) f = by_key r (key_of r.rdata) f

  module _ (search : A → KeySearch) (goal : Trial (Record × Admitted A)) (ways : List A) (i n : ℕ) (way : A) (below : i < length ways) (is : way ≡ get_or ways i way) where
    next : suc i ≡ i + 1
    next = omega arith

    at_way : ways_trial accepts group t n search (drop i ways) ≡ then_on is_good (pairs_trial accepts group t n (matching_by group search way)) (flat_map (matching_by group search) (drop (i + 1) ways))
    at_way =
        ap (ways_trial accepts group t n search) (drop_here ways i way below is)
        ∙ (trial_append is_good n (matching_by group search way) (flat_map (matching_by group search) (drop (suc i) ways))
        ∙ ap (λ (k : ℕ). then_on is_good (pairs_trial accepts group t n (matching_by group search way)) (flat_map (matching_by group search) (drop k ways))) next)

    pub way_bad : (more : ℕ) → pairs_trial accepts group t n (matching_by group search way) ≡ left more → goal ≡ ways_trial accepts group t n search (drop i ways) → goal ≡ ways_trial accepts group t more search (drop (i + 1) ways)
    way_bad more bad so_far = so_far ∙ (at_way ∙ ap (λ (x : Trial (Record × Admitted A)). then_on is_good x (flat_map (matching_by group search) (drop (i + 1) ways))) bad)

    pub way_good : (p : Record × Admitted A) → pairs_trial accepts group t n (matching_by group search way) ≡ found p → goal ≡ ways_trial accepts group t n search (drop i ways) → goal ≡ found p
    way_good p fine so_far = so_far ∙ (at_way ∙ ap (λ (x : Trial (Record × Admitted A)). then_on is_good x (flat_map (matching_by group search) (drop (i + 1) ways))) fine)

  -- there was at least as much left before
  pub was_left : (n more : ℕ) (ps : List (Record × Admitted A)) → pairs_trial accepts group t n ps ≡ left more → 0 < more → 0 < n
  was_left n more ps e some = let m = more_left is_good n more ps e in omega (arith, m, some)

  pub no_way_left : (search : A → KeySearch) (n : ℕ) (ways : List A) (i : ℕ) (goal : Trial (Record × Admitted A)) → length ways ≤ i → goal ≡ ways_trial accepts group t n search (drop i ways) → goal ≡ left n
  no_way_left search n ways i goal past so_far = so_far ∙ (ap (ways_trial accepts group t n search) (drop_all i ways past) ∙ trial_none is_good n)

one_cause : (o : Option Cause) (causes : List Cause) → first_or NoSignature (cons_option o causes) ≡ unwrap_or o (first_or NoSignature causes)
one_cause None causes = refl
one_cause (Some cause) causes = refl

earlier_of : (o p : Option Cause) (otherwise : Cause) → unwrap_or o (unwrap_or p otherwise) ≡ unwrap_or (earlier o p) otherwise
earlier_of None p otherwise = refl
earlier_of (Some cause) p otherwise = refl

-- the first cause of the ways from an index on
module _ {A : Type 0} (bad : Cause) (group : Group) (search : A → KeySearch) (goal : Cause) (ways : List A) (i : ℕ) where
  abbrev cause_at : A → Option Cause
  cause_at way = cause_by bad (search way) (matching_by group search way)

  pub next_cause : (way : A) (o p : Option Cause) → i < length ways → way ≡ get_or ways i way → p ≡ cause_by bad (search way) (matching_by group search way)
      → goal ≡ unwrap_or o (cause_among bad group search (drop i ways)) → goal ≡ unwrap_or (earlier o p) (cause_among bad group search (drop (i + 1) ways))
  next_cause way o p below is same so_far =
      let next : suc i ≡ i + 1 = omega arith in
      so_far
      ∙ (ap (λ (as_ : List A). unwrap_or o (cause_among bad group search as_)) (drop_here ways i way below is)
      ∙ (ap (unwrap_or o) (one_cause (cause_at way) (filter_map cause_at (drop (suc i) ways)))
      ∙ (ap (λ (x : Option Cause). unwrap_or o (unwrap_or x (cause_among bad group search (drop (suc i) ways)))) (sym same)
      ∙ (earlier_of o p (cause_among bad group search (drop (suc i) ways))
      ∙ ap (λ (k : ℕ). unwrap_or (earlier o p) (cause_among bad group search (drop k ways))) next))))

  pub no_cause_left : (o : Option Cause) → length ways ≤ i → goal ≡ unwrap_or o (cause_among bad group search (drop i ways)) → goal ≡ unwrap_or o NoSignature
  no_cause_left o past so_far = so_far ∙ ap (λ (as_ : List A). unwrap_or o (cause_among bad group search as_)) (drop_all i ways past)
