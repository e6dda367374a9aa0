-- Candidates tried one after the other.
use Rattle.std.proofs.Common.{◌≡◌, ℕ, zero, suc, ◌+◌, ◌-◌, ◌<◌, ◌≤◌, ◌==◌, nat_lt, Bool, true, false, cond, List, [], ◌∷◌, ◌++◌, map, length, take, drop, Option, Some, None, refl, sym, ap, ◌∙◌, arith}
use Rattle.std.specs.Prelude.{find, filter, slice_get, unwrap_or}
use Rattle.std.specs.Option.{is_some}
use Rattle.std.proofs.lemmas.Bool.{false≢true, ltb-true, ltb-false, eq-eqb, eqb-true}
use Rattle.std.proofs.lemmas.List.{drop_all}
use Rattle.std.proofs.lemmas.List.Elements.{filter-append}
use Rattle.dsec_spec.specs.Records.{Record, Key}
use Rattle.dsec_spec.specs.Trying.{none_good, first_or, tried, pairs}
use Rattle.dsec_group.specs.Trials.{Trial, found, left, found_or, trial, comes_to}

neq-eqb : (m n : ℕ) → (m ≡ n → ⊥) → (m == n) ≡ false
neq-eqb m n h = go (m == n) refl where
  go : (b : Bool) → (m == n) ≡ b → (m == n) ≡ false
  go true e = absurd (h (eqb-true m n e))
  go false e = e

-- what stands at an index, and after it
pub drop_at : {A : Type 0} (xs : List A) (i : ℕ) (x : A) → slice_get xs i ≡ Some x → drop i xs ≡ x ∷ drop (i + 1) xs
drop_at xs i x h = let e : i + 1 ≡ suc i = omega arith in rw e (go xs i h) where
  go : {A : Type 0} (xs : List A) (i : ℕ) {x : A} → slice_get xs i ≡ Some x → drop i xs ≡ x ∷ drop (suc i) xs
  go [] i h = absurd (false≢true (ap is_some h))
  go (y ∷ xs) zero h = ap (λ z. z ∷ xs) (ap (λ o. unwrap_or o y) h)
  go (y ∷ xs) (suc i) h = go xs i h

module _ {P : Type 0} (is_good : P → Bool) where
  pub trial_none : (n : ℕ) → trial is_good n [] ≡ left n
  trial_none zero = refl
  trial_none (suc n) = let all : suc n - 0 ≡ suc n = omega arith in ap left all

  pub trial_full : (ps : List P) → trial is_good 0 ps ≡ left 0
  trial_full ps = let z : 0 - length ps ≡ 0 = omega arith in ap left z

  more_is : (n k : ℕ) → suc n - suc k ≡ n - k
  more_is n k = omega arith

  pub trial_good : (n : ℕ) (p : P) (ps : List P) → is_good p ≡ true → trial is_good (suc n) (p ∷ ps) ≡ found p
  trial_good n p ps e = ap (λ b. found_or (suc n - suc (length ps)) (cond b (Some p) (find is_good (take n ps)))) e

  pub trial_bad : (n : ℕ) (p : P) (ps : List P) → is_good p ≡ false → trial is_good (suc n) (p ∷ ps) ≡ trial is_good n ps
  trial_bad n p ps e =
      ap (λ b. found_or (suc n - suc (length ps)) (cond b (Some p) (find is_good (take n ps)))) e
      ∙ ap (λ k. found_or k (find is_good (take n ps))) (more_is n (length ps))

  -- what comes after a trial that found nothing
  abbrev pub then_on : Trial P → List P → Trial P
  then_on (found p) ps = found p
  then_on (left n) ps = trial is_good n ps

  pub trial_append : (n : ℕ) (ps qs : List P) → trial is_good n (ps ++ qs) ≡ then_on (trial is_good n ps) qs
  trial_append n [] qs = ap (λ t. then_on t qs) (sym (trial_none n))
  trial_append zero (p ∷ ps) qs = trial_full (p ∷ (ps ++ qs)) ∙ sym (trial_full qs) ∙ ap (λ t. then_on t qs) (sym (trial_full (p ∷ ps)))
  trial_append (suc n) (p ∷ ps) qs = go (is_good p) refl (trial_append n ps qs) where
    go : (b : Bool) → is_good p ≡ b → trial is_good n (ps ++ qs) ≡ then_on (trial is_good n ps) qs
        → trial is_good (suc n) (p ∷ (ps ++ qs)) ≡ then_on (trial is_good (suc n) (p ∷ ps)) qs
    go true e rest = trial_good n p (ps ++ qs) e ∙ ap (λ t. then_on t qs) (sym (trial_good n p ps e))
    go false e rest = trial_bad n p (ps ++ qs) e ∙ rest ∙ ap (λ t. then_on t qs) (sym (trial_bad n p ps e))

  -- what trying so many comes to
  pub trial_comes : (room : ℕ) (ps : List P) → 0 < room → tried is_good room ps ≡ comes_to room (trial is_good room ps)
  trial_comes room ps some = go (find is_good (take room ps)) where
    none : (n : ℕ) → none_good {P = P} room n ≡ comes_to {P = P} room (left (room - n))
    none zero = let all : room - 0 ≡ room = omega arith in rw (all, eq-eqb room room refl) refl
    none (suc n) = below (nat_lt (suc n) room) refl where
      below : (b : Bool) → nat_lt (suc n) room ≡ b → none_good {P = P} room (suc n) ≡ comes_to {P = P} room (left (room - suc n))
      below true e =
          let fewer = ltb-true (suc n) room e in
          rw (e, neq-eqb (room - suc n) room (λ (x : room - suc n ≡ room). absurd (omega (arith, x, fewer))), neq-eqb (room - suc n) 0 (λ (x : room - suc n ≡ 0). absurd (omega (arith, x, fewer)))) refl
      below false e =
          let more = ltb-false (suc n) room e in
          let z : room - suc n ≡ 0 = omega (arith, more) in
          rw (e, z, neq-eqb 0 room (λ (x : 0 ≡ room). absurd (omega (arith, x, some)))) refl

    go : (o : Option P) → first_or (none_good room (length ps)) o ≡ comes_to room (found_or (room - length ps) o)
    go (Some p) = refl
    go None = none (length ps)

-- what is left of a list of pairs, at a key
module _ (is_good matches : Record × Key → Bool) (goal : Trial (Record × Key)) (r : Record) (ks : List Key) (i n : ℕ) where
  abbrev others : ℕ → List (Record × Key)
  others j = filter matches (map (λ k. (r, k)) (drop j ks))

  at_key : (k : Key) → slice_get ks i ≡ Some k → (b : Bool) → matches (r, k) ≡ b → others i ≡ cond b ((r, k) ∷ others (i + 1)) (others (i + 1))
  at_key k there b e = ap (λ xs. filter matches (map (λ x. (r, x)) xs)) (drop_at ks i k there) ∙ ap (λ c. cond c ((r, k) ∷ others (i + 1)) (others (i + 1))) e

  pub key_bad : (k : Key) (more : ℕ) → slice_get ks i ≡ Some k → matches (r, k) ≡ true → is_good (r, k) ≡ false → n ≡ suc more → goal ≡ trial is_good n (others i)
      → goal ≡ trial is_good more (others (i + 1))
  key_bad k more there e bad one so_far =
      so_far ∙ ap (trial is_good n) (at_key k there true e) ∙ ap (λ m. trial is_good m ((r, k) ∷ others (i + 1))) one ∙ trial_bad is_good more (r, k) (others (i + 1)) bad

  pub key_good : (k : Key) (more : ℕ) → slice_get ks i ≡ Some k → matches (r, k) ≡ true → is_good (r, k) ≡ true → n ≡ suc more → goal ≡ trial is_good n (others i)
      → goal ≡ found (r, k)
  key_good k more there e yes_good one so_far =
      so_far ∙ ap (trial is_good n) (at_key k there true e) ∙ ap (λ m. trial is_good m ((r, k) ∷ others (i + 1))) one ∙ trial_good is_good more (r, k) (others (i + 1)) yes_good

-- keys that a signature doesn't match are passed over at once
module _ (matches : Record × Key → Bool) (r : Record) (ks : List Key) where
  abbrev pub rest : ℕ → List (Record × Key)
  rest j = filter matches (map (λ k. (r, k)) (drop j ks))

  past : {A : Type 0} (xs : List A) (i : ℕ) → slice_get xs i ≡ None → length xs ≤ i
  past [] i e = omega arith
  past (x ∷ xs) zero e = absurd (false≢true (sym (ap is_some e)))
  past (x ∷ xs) (suc i) e = let p = past xs i e in omega (arith, p)

  one_passed : (i : ℕ) → ((key : Key) → slice_get ks i ≡ Some key → matches (r, key) ≡ false) → rest i ≡ rest (i + 1)
  one_passed i other = by (slice_get ks i) refl
    where
      by : (o : Option Key) → slice_get ks i ≡ o → rest i ≡ rest (i + 1)
      by None e = let p = past ks i e in ap (λ xs. filter matches (map (λ k. (r, k)) xs)) (drop_all i ks p ∙ sym (drop_all (i + 1) ks (omega (arith, p))))
      by (Some key) e = ap (λ xs. filter matches (map (λ k. (r, k)) xs)) (drop_at ks i key e) ∙ ap (λ b. cond b ((r, key) ∷ rest (i + 1)) (rest (i + 1))) (other key e)

  so_many : (i d : ℕ) → ((j : ℕ) (key : Key) → i ≤ j → j < i + d → slice_get ks j ≡ Some key → matches (r, key) ≡ false) → rest i ≡ rest (i + d)
  so_many i zero others = ap rest (omega arith)
  so_many i (suc d) others =
      let next : i + d + 1 ≡ i + suc d = omega arith in
      so_many i d (λ j key on below there. others j key on (omega (arith, below)) there) ∙ (one_passed (i + d) (λ key there. others (i + d) key (omega arith) (omega arith) there) ∙ ap rest next)

  pub passed_to : (i j : ℕ) → i ≤ j → ((k : ℕ) (key : Key) → i ≤ k → k < j → slice_get ks k ≡ Some key → matches (r, key) ≡ false) → rest i ≡ rest j
  passed_to i j le others =
      let there : i + (j - i) ≡ j = omega (arith, le) in
      so_many i (j - i) (λ k key on below at. others k key on (omega (arith, below, there)) at) ∙ ap rest there

-- the same, at a signature
module _ (is_good matches : Record × Key → Bool) (goal : Trial (Record × Key)) (rs : List Record) (ks : List Key) (i n : ℕ) where
  abbrev rows : ℕ → List (Record × Key)
  rows j = filter matches (pairs (drop j rs) ks)

  abbrev row : Record → List (Record × Key)
  row r = filter matches (map (λ k. (r, k)) ks)

  at_signature : (r : Record) → slice_get rs i ≡ Some r → rows i ≡ row r ++ rows (i + 1)
  at_signature r there =
      ap (λ xs. filter matches (pairs xs ks)) (drop_at rs i r there) ∙ filter-append matches (map (λ k. (r, k)) ks) (pairs (drop (i + 1) rs) ks)

  pub signature_bad : (r : Record) (more : ℕ) → slice_get rs i ≡ Some r → trial is_good n (row r) ≡ left more → goal ≡ trial is_good n (rows i)
      → goal ≡ trial is_good more (rows (i + 1))
  signature_bad r more there bad so_far =
      so_far ∙ ap (trial is_good n) (at_signature r there) ∙ trial_append is_good n (row r) (rows (i + 1)) ∙ ap (λ x. then_on is_good x (rows (i + 1))) bad

  pub signature_good : (r : Record) (p : Record × Key) → slice_get rs i ≡ Some r → trial is_good n (row r) ≡ found p → goal ≡ trial is_good n (rows i) → goal ≡ found p
  signature_good r p there is_found so_far =
      so_far ∙ ap (trial is_good n) (at_signature r there) ∙ trial_append is_good n (row r) (rows (i + 1)) ∙ ap (λ x. then_on is_good x (rows (i + 1))) is_found
