-- The index of a key among the keys of groups.
use Rattle.std.proofs.Common.{◌≡◌, ℕ, zero, suc, ◌+◌, ◌<◌, Bool, true, false, cond, ◌||◌, List, [], ◌∷◌, ◌++◌, map, length, get_or, Option, Some, None, refl, sym, ap, ◌∙◌, arith}
use Rattle.std.specs.Prelude.{slice_get, slice_set, nat_lt, unwrap_or}
use Rattle.std.specs.Prelude.{Result, Ok, Err, OnOk, OnErr}
use Rattle.std.specs.Option.{is_some, option_map, IfSome, IfNone}
use Rattle.std.specs.List.{list_any, position, position_or_len}
use Rattle.std.proofs.lemmas.Bool.{lt-ltb, ltb-true, ltb-false, le-ltb, true≢false, false≢true}
use Rattle.std.proofs.lemmas.List.{length-map, map-append}
use Rattle.std.proofs.lemmas.List.Quantifiers.{position-Some}
use Rattle.dsec_spec.specs.Records.{Record}
use Rattle.dsec_spec.specs.Groups.{Group}
use Rattle.dsec_group.specs.Adding.{belongs_to, new_group, placed, put_in}
use Rattle.dsec_group.specs.Keys.{GroupKey, AreKeys, group_key, has_key, is_key, key_of, same_key}
use Rattle.dsec_group.proofs.KeyLaws.{belongs_is_key, group_key_stays}

module _ {X : Type 0} (p : X → Bool) where
  one_later : (b : Bool) (n : ℕ) → cond b (Some (suc n)) None ≡ option_map suc (cond b (Some n) None)
  one_later true n = refl
  one_later false n = refl

  both_more : (n m : ℕ) → nat_lt (suc n) (suc m) ≡ nat_lt n m
  both_more n m = go (nat_lt n m) refl where
    go : (b : Bool) → nat_lt n m ≡ b → nat_lt (suc n) (suc m) ≡ b
    go true e = lt-ltb (suc n) (suc m) (omega (arith, ltb-true n m e))
    go false e = le-ltb (suc n) (suc m) (omega (arith, ltb-false n m e))

  one_more : (n m : ℕ) → cond (nat_lt (1 + n) (suc m)) (Some (1 + n)) None ≡ option_map suc (cond (nat_lt n m) (Some n) None)
  one_more n m = let s : 1 + n ≡ suc n = omega arith in rw (s, both_more n m) (one_later (nat_lt n m) n)

  pub position_step : (x : X) (xs : List X) → position p (x ∷ xs) ≡ cond (p x) (Some 0) (option_map suc (position p xs))
  position_step x xs = go (p x) refl where
    go : (b : Bool) → p x ≡ b → position p (x ∷ xs) ≡ cond b (Some 0) (option_map suc (position p xs))
    go true e = rw (e, lt-ltb 0 (suc (length xs)) (omega arith)) refl
    go false e = rw e (one_more (position_or_len p xs) (length xs))

  later_none : (b : Bool) (o : Option ℕ) → cond b (Some 0) (option_map suc o) ≡ None → (b ≡ false) × (o ≡ None)
  later_none true o h = absurd (true≢false (ap is_some h))
  later_none false None h = (refl, refl)
  later_none false (Some n) h = absurd (true≢false (ap is_some h))

  -- none passes where there is no index of one
  pub none_any : (xs : List X) → position p xs ≡ None → list_any p xs ≡ false
  none_any [] h = refl
  none_any (x ∷ xs) h =
      let q = later_none (p x) (position p xs) (sym (position_step x xs) ∙ h) in
      rw (q.0, none_any xs q.1) refl

-- the index of one among things made of others
pub position_of : {X Y : Type 0} (p : Y → Bool) (f : X → Y) (xs : List X) → position (λ x. p (f x)) xs ≡ position p (map f xs)
position_of p f [] = refl
position_of p f (x ∷ xs) =
    position_step (λ y. p (f y)) x xs ∙ ap (λ o. cond (p (f x)) (Some 0) (option_map suc o)) (position_of p f xs) ∙ sym (position_step p (f x) (map f xs))

pub any_of : {X Y : Type 0} (p : Y → Bool) (f : X → Y) (xs : List X) → list_any (λ x. p (f x)) xs ≡ list_any p (map f xs)
any_of p f [] = refl
any_of p f (x ∷ xs) = ap (λ b. p (f x) || b) (any_of p f xs)

-- a key's index among the keys of groups, and whether it is one of them
pub key_position : (k : GroupKey) (keys : List GroupKey) (gs : List Group) → AreKeys keys gs → position (same_key k) keys ≡ position (is_key k) (map group_key gs)
key_position k keys gs h = position_of (is_key k) (λ x. Some x) keys ∙ ap (position (is_key k)) h

pub key_among_keys : (k : GroupKey) (keys : List GroupKey) (gs : List Group) → AreKeys keys gs → has_key k gs ≡ list_any (same_key k) keys
key_among_keys k keys gs h = any_of (is_key k) group_key gs ∙ ap (list_any (is_key k)) (sym h) ∙ sym (any_of (is_key k) (λ x. Some x) keys)

pub no_such_key : (k : GroupKey) (gs : List Group) → position (is_key k) (map group_key gs) ≡ None → has_key k gs ≡ false
no_such_key k gs h = any_of (is_key k) group_key gs ∙ none_any (is_key k) (map group_key gs) h

not_later : (o : Option ℕ) → option_map suc o ≡ Some 0 → ⊥
not_later None h = false≢true (ap is_some h)
not_later (Some n) h = let e : suc n ≡ 0 = ap (λ o. unwrap_or o 0) h in absurd (omega (arith, e))

abbrev before : ℕ → ℕ
before zero = 0
before (suc n) = n

one_before : (o : Option ℕ) (i : ℕ) → option_map suc o ≡ Some (suc i) → o ≡ Some i
one_before None i h = absurd (false≢true (ap is_some h))
one_before (Some n) i h = ap Some (ap (λ o. before (unwrap_or o 0)) h)

module _ (r : Record) where
  -- what follows where a record's key is a group's
  pub record Found (gs : List Group) (i : ℕ) (g : Group) : Type 0 where
    pub placed_is : placed r gs ≡ slice_set gs i (put_in r g)
    pub belongs : belongs_to r g ≡ true
    pub keys_stay : map group_key (slice_set gs i (put_in r g)) ≡ map group_key gs

  placed_step : (b : Bool) (g : Group) (gs : List Group) → belongs_to r g ≡ b → placed r (g ∷ gs) ≡ cond b (put_in r g ∷ gs) (g ∷ placed r gs)
  unfolding placed
  placed_step b g gs e = rw e refl

  placed_none : placed r [] ≡ new_group r ∷ []
  unfolding placed
  placed_none = refl

  abbrev where_is : List Group → Option ℕ
  where_is gs = position (is_key (key_of r)) (map group_key gs)

  where_step : (x : Group) (gs : List Group) → where_is (x ∷ gs) ≡ cond (belongs_to r x) (Some 0) (option_map suc (where_is gs))
  where_step x gs =
      position_step (is_key (key_of r)) (group_key x) (map group_key gs) ∙ ap (λ b. cond b (Some 0) (option_map suc (where_is gs))) (belongs_is_key r x)

  pub found : (gs : List Group) (i : ℕ) → where_is gs ≡ Some i → (g : Group) → slice_get gs i ≡ Some g → Found gs i g
  found [] i h g at = absurd (false≢true (ap is_some at))
  found (x ∷ gs) i h g at = go (λ j. found gs j) (belongs_to r x) refl i (sym (where_step x gs) ∙ h) at where
    go : ((j : ℕ) → where_is gs ≡ Some j → (g : Group) → slice_get gs j ≡ Some g → Found gs j g)
        → (b : Bool) → belongs_to r x ≡ b → (i : ℕ) → cond b (Some 0) (option_map suc (where_is gs)) ≡ Some i → slice_get (x ∷ gs) i ≡ Some g → Found (x ∷ gs) i g
    go rest true e zero h at =
        let one : x ≡ g = ap (λ o. unwrap_or o x) at in
        record {
          belongs = ap (belongs_to r) (sym one) ∙ e;
          placed_is = placed_step true x gs e ∙ ap (λ y. put_in r y ∷ gs) one;
          keys_stay = ap (λ o. o ∷ map group_key gs) (ap (λ y. group_key (put_in r y)) (sym one) ∙ group_key_stays r x e);
        }
    go rest true e (suc i) h at = let z : 0 ≡ suc i = ap (λ o. unwrap_or o 0) h in absurd (omega (arith, z))
    go rest false e zero h at = absurd (not_later (where_is gs) h)
    go rest false e (suc i) h at =
        let after = rest i (one_before (where_is gs) i h) g at in
        record {
          belongs = after.belongs;
          placed_is = placed_step false x gs e ∙ ap (λ ys. x ∷ ys) after.placed_is;
          keys_stay = ap (λ ks. group_key x ∷ ks) after.keys_stay;
        }

  later : (b : Bool) (o : Option ℕ) → cond b (Some 0) (option_map suc o) ≡ None → (b ≡ false) × (o ≡ None)
  later true o h = absurd (true≢false (ap is_some h))
  later false None h = (refl, refl)
  later false (Some n) h = absurd (true≢false (ap is_some h))

  -- a record whose key is no group's makes a group at the end
  pub not_found : (gs : List Group) → where_is gs ≡ None → placed r gs ≡ gs ++ new_group r ∷ []
  not_found [] h = placed_none
  not_found (x ∷ gs) h =
      let q = later (belongs_to r x) (where_is gs) (sym (where_step x gs) ∙ h) in
      placed_step false x gs q.0 ∙ ap (λ ys. x ∷ ys) (not_found gs q.1)

  pub found_within : (gs : List Group) (i : ℕ) → where_is gs ≡ Some i → i < length gs
  found_within gs i h =
      let p = (position-Some (is_key (key_of r)) (map group_key gs) i None h).0 in
      omega (arith, p, length-map gs group_key)

-- what the index of a record's key among those of groups is
module _ (r : Record) (gs : List Group) (k : GroupKey) (keyed : k ≡ key_of r) (o : Option ℕ) (answer : o ≡ position (is_key k) (map group_key gs)) where
  is_where : o ≡ position (is_key (key_of r)) (map group_key gs)
  is_where = answer ∙ ap (λ x. position (is_key x) (map group_key gs)) keyed

  pub some_placed : IfSome o (λ i. (g : Group) → slice_get gs i ≡ Some g → placed r gs ≡ slice_set gs i (put_in r g))
  some_placed = go o is_where where
    go : (o : Option ℕ) → o ≡ position (is_key (key_of r)) (map group_key gs) → IfSome o (λ i. (g : Group) → slice_get gs i ≡ Some g → placed r gs ≡ slice_set gs i (put_in r g))
    go None e = tt
    go (Some i) e = λ g at. (found r gs i (sym e) g at).placed_is

  pub some_stays : IfSome o (λ i. (g : Group) → slice_get gs i ≡ Some g → map group_key (slice_set gs i (put_in r g)) ≡ map group_key gs)
  some_stays = go o is_where where
    go : (o : Option ℕ) → o ≡ position (is_key (key_of r)) (map group_key gs)
        → IfSome o (λ i. (g : Group) → slice_get gs i ≡ Some g → map group_key (slice_set gs i (put_in r g)) ≡ map group_key gs)
    go None e = tt
    go (Some i) e = λ g at. (found r gs i (sym e) g at).keys_stay

  pub some_belongs : IfSome o (λ i. (g : Group) → slice_get gs i ≡ Some g → belongs_to r g ≡ true)
  some_belongs = go o is_where where
    go : (o : Option ℕ) → o ≡ position (is_key (key_of r)) (map group_key gs) → IfSome o (λ i. (g : Group) → slice_get gs i ≡ Some g → belongs_to r g ≡ true)
    go None e = tt
    go (Some i) e = λ g at. (found r gs i (sym e) g at).belongs

  pub some_within : IfSome o (λ i. i < length gs)
  some_within = go o is_where where
    go : (o : Option ℕ) → o ≡ position (is_key (key_of r)) (map group_key gs) → IfSome o (λ i. i < length gs)
    go None e = tt
    go (Some i) e = found_within r gs i (sym e)

  pub none_there : IfNone o (has_key k gs ≡ false)
  none_there = go o answer where
    go : (o : Option ℕ) → o ≡ position (is_key k) (map group_key gs) → IfNone o (has_key k gs ≡ false)
    go None e = no_such_key k gs (sym e)
    go (Some i) e = tt

  pub none_placed : IfNone o (placed r gs ≡ gs ++ new_group r ∷ [])
  none_placed = go o is_where where
    go : (o : Option ℕ) → o ≡ position (is_key (key_of r)) (map group_key gs) → IfNone o (placed r gs ≡ gs ++ new_group r ∷ [])
    go None e = not_found r gs (sym e)
    go (Some i) e = tt

-- the keys of groups and one more
pub keys_more : (k : GroupKey) (g : Group) (keys : List GroupKey) (gs : List Group) → AreKeys keys gs → group_key g ≡ Some k → AreKeys (keys ++ k ∷ []) (gs ++ g ∷ [])
keys_more k g keys gs h e =
    map-append (λ x. Some x) keys (k ∷ []) ∙ ap (λ ks. ks ++ Some k ∷ []) h ∙ ap (λ x. map group_key gs ++ x ∷ []) (sym e) ∙ sym (map-append group_key gs (g ∷ []))

set_same : {A : Type 0} (xs : List A) (i : ℕ) (x : A) → slice_get xs i ≡ Some x → slice_set xs i x ≡ xs
set_same [] i x h = absurd (false≢true (ap is_some h))
set_same (y ∷ xs) zero x h = ap (λ z. z ∷ xs) (sym (ap (λ o. unwrap_or o y) h))
set_same (y ∷ xs) (suc i) x h = ap (λ ys. y ∷ ys) (set_same xs i x h)

pub there_is : {A : Type 0} (xs : List A) (i : ℕ) (d x : A) → i < length xs → x ≡ get_or xs i d → slice_get xs i ≡ Some x
there_is [] i d x below h = absurd (omega arith)
there_is (y ∷ xs) zero d x below h = ap Some (sym h)
there_is (y ∷ xs) (suc i) d x below h = there_is xs i d x (omega arith) h

-- the same of what a function makes of them
pub there_by : {A B : Type 0} (f : A → B) (xs : List A) (i : ℕ) (x : A) → i < length xs → x ≡ get_or xs i x → slice_get (map f xs) i ≡ Some (f x)
there_by f [] i x below h = absurd (omega arith)
there_by f (y ∷ xs) zero x below h = ap (λ z. Some (f z)) (sym h)
there_by f (y ∷ xs) (suc i) x below h = there_by f xs i x (omega arith) h

-- a group that took a record, or is as it was
module _ {A E : Type 0} (r : Record) (gs : List Group) (i : ℕ) (was is : Group) (there : slice_get gs i ≡ Some was) where
  pub set_keys : (result : Result A E) → OnOk result (is ≡ put_in r was) → OnErr result (is ≡ was)
      → ((g : Group) → slice_get gs i ≡ Some g → map group_key (slice_set gs i (put_in r g)) ≡ map group_key gs) → map group_key (slice_set gs i is) ≡ map group_key gs
  set_keys (Ok a) ok err stays = ap (λ x. map group_key (slice_set gs i x)) ok ∙ stays was there
  set_keys (Err e) ok err stays = ap (λ x. map group_key (slice_set gs i x)) err ∙ ap (map group_key) (set_same gs i was there)

  pub set_placed : (result : Result A E) → OnOk result (is ≡ put_in r was) → ((g : Group) → slice_get gs i ≡ Some g → placed r gs ≡ slice_set gs i (put_in r g))
      → OnOk result (slice_set gs i is ≡ placed r gs)
  set_placed (Ok a) ok found = ap (slice_set gs i) ok ∙ sym (found was there)
  set_placed (Err e) ok found = tt

  pub set_back : (result : Result A E) → OnErr result (is ≡ was) → OnErr result (slice_set gs i is ≡ gs)
  set_back (Ok a) err = tt
  set_back (Err e) err = ap (slice_set gs i) err ∙ set_same gs i was there
