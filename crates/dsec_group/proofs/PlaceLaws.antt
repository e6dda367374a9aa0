-- Where groups are found: what their places say, and what these are with one more group.
use Rattle.std.proofs.Common.{◌≡◌, ℕ, zero, suc, ◌<◌, Bool, true, false, cond, List, [], ◌∷◌, ◌++◌, map, length, Option, Some, None, refl, sym, ap, subst, ◌∙◌, arith, get_or}
use Rattle.std.specs.Prelude.{slice_get, nat_eq}
use Rattle.std.specs.Prelude.{Result, Ok, Err, OnOk}
use Rattle.std.specs.Map.{lookup}
use Rattle.std.specs.List.{AllByRecursion, IsDistinct, list_any, position}
use Rattle.std.specs.Option.{is_some, option_map}
use Rattle.std.proofs.lemmas.Bool.{eq-eqb, true≢false, false≢true}
use Rattle.std.proofs.lemmas.List.{map-append}
use Rattle.indexmap.specs.IndexMap.{IndexMap, get, hasher_of}
use Rattle.dsec_spec.specs.Records.{Record}
use Rattle.dsec_spec.specs.Groups.{Group}
use Rattle.dsec_group.specs.Adding.{belongs_to, leader_in}
use Rattle.dsec_group.specs.Keys.{GroupKey, HasFreshKey, group_key, has_key, is_key, key_of, same_key}
use Rattle.dsec_group.specs.Places.{AreApart, AreKept, HasPlace, Knows, KnowsGroups, KnowsOnce, key_hash}
use Rattle.dsec_group.specs.declared.places.Places.{Places}
use Rattle.dsec_group.specs.declared.seed.Seed.{Seed}
use Rattle.dsec_group.proofs.KeyLaws.{belongs_is_key, key_decides}
use Rattle.dsec_group.proofs.IndexLaws.{key_among_keys, key_position, keys_more, position_of, position_step}
use Rattle.dsec_group.proofs.SetLaws.{apart_from, either, key_at, other_way}

-- a record has the key of the group that it belongs to
pub its_key : (r : Record) (g : Group) → belongs_to r g ≡ true → group_key g ≡ Some (key_of r)
its_key r g h = go (group_key g) (belongs_is_key r g ∙ h) where
  go : (o : Option GroupKey) → is_key (key_of r) o ≡ true → o ≡ Some (key_of r)
  go None h = absurd (false≢true h)
  go (Some x) h = ap Some (sym ((key_decides (key_of r) x).0 h))

-- of distinct keys each is the first that is like it
key_position_at : (k : GroupKey) (keys : List GroupKey) (i : ℕ) → IsDistinct same_key keys → i < length keys → get_or keys i k ≡ k → position (same_key k) keys ≡ Some i
unfolding IsDistinct
key_position_at k [] i d within at = absurd (omega (arith, within))
key_position_at k (j ∷ keys) zero d within at =
    position_step (same_key k) j keys ∙ ap (λ b. cond b (Some 0) (option_map suc (position (same_key k) keys))) ((key_decides k j).1 (sym at))
key_position_at k (j ∷ keys) (suc i) d within at =
    let apart : same_key k j ≡ false = other_way j k (ap (same_key j) (sym at) ∙ apart_from j keys i k d.0 (omega (arith, within))) in
    position_step (same_key k) j keys
    ∙ ap (λ b. cond b (Some 0) (option_map suc (position (same_key k) keys))) apart
    ∙ ap (option_map suc) (key_position_at k keys i d.1 (omega (arith, within)) at)

-- the group at an index that a record belongs to is the first
pub guessed : (r : Record) (gs : List Group) (i : ℕ) (g : Group) → AreApart gs → slice_get gs i ≡ Some g → belongs_to r g ≡ true
    → position (is_key (key_of r)) (map group_key gs) ≡ Some i
guessed r gs i g a at h =
    let k = key_at a.0 gs i g (key_of r) a.1 at (its_key r g h) in
    sym (key_position (key_of r) a.0 gs a.1) ∙ key_position_at (key_of r) a.0 i a.2 k.0 k.1

-- the first group that a record belongs to is the first with its key
pub scanned : (r : Record) (gs : List Group) → position (belongs_to r) gs ≡ position (is_key (key_of r)) (map group_key gs)
scanned r gs = ap (λ p. position p gs) (λ i g. sym (belongs_is_key r g) i) ∙ position_of (is_key (key_of r)) group_key gs

-- a key without a place is none of those that have one
pub absent : (places : IndexMap ℕ ℕ Seed) (ks : List (Option GroupKey)) (k : GroupKey) → Knows places ks → is_some (get nat_eq places (key_hash (hasher_of places) k)) ≡ false → position (is_key k) ks ≡ None
absent places [] k h n = refl
absent places (None ∷ ks) k h n = position_step (is_key k) None ks ∙ ap (option_map suc) (absent places ks k h.1 n)
absent places (Some x ∷ ks) k h n = position_step (is_key k) (Some x) ks ∙ go (absent places ks k h.1 n) (same_key k x) refl where
  go : position (is_key k) ks ≡ None → (b : Bool) → same_key k x ≡ b → cond b (Some 0) (option_map suc (position (is_key k) ks)) ≡ None
  go rest true e = absurd (true≢false (sym h.0 ∙ ap (λ y. is_some (get nat_eq places (key_hash (hasher_of places) y))) (sym ((key_decides k x).0 e)) ∙ n))
  go rest false e = ap (option_map suc) rest

-- a place more
module _ (was is : IndexMap ℕ ℕ Seed) (h v : ℕ) (puts : (q : ℕ) → get nat_eq is q ≡ cond (nat_eq h q) (Some v) (get nat_eq was q)) (same : hasher_of is ≡ hasher_of was) where
  place_at : (k : GroupKey) → get nat_eq is (key_hash (hasher_of is) k) ≡ cond (nat_eq h (key_hash (hasher_of was) k)) (Some v) (get nat_eq was (key_hash (hasher_of was) k))
  place_at k = ap (λ s. get nat_eq is (key_hash s k)) same ∙ puts (key_hash (hasher_of was) k)

  place_stays : (o : Option GroupKey) → HasPlace was o → HasPlace is o
  place_stays None s = tt
  place_stays (Some k) s = ap is_some (place_at k) ∙ go (nat_eq h (key_hash (hasher_of was) k)) where
    go : (b : Bool) → is_some (cond b (Some v) (get nat_eq was (key_hash (hasher_of was) k))) ≡ true
    go true = refl
    go false = s

  pub places_stay : (ks : List (Option GroupKey)) → Knows was ks → Knows is ks
  places_stay [] s = tt
  places_stay (o ∷ ks) s = (place_stays o s.0, places_stay ks s.1)

  pub place_put : (k : GroupKey) → h ≡ key_hash (hasher_of was) k → HasPlace is (Some k)
  place_put k e = ap is_some (place_at k ∙ ap (λ b. cond b (Some v) (get nat_eq was (key_hash (hasher_of was) k))) (eq-eqb h (key_hash (hasher_of was) k) e))

-- a map with the same entries
pub places_same : (was is : IndexMap ℕ ℕ Seed) → is.entries ≡ was.entries → hasher_of is ≡ hasher_of was → (ks : List (Option GroupKey)) → Knows was ks → Knows is ks
places_same was is entries same [] s = tt
places_same was is entries same (None ∷ ks) s = (tt, places_same was is entries same ks s.1)
places_same was is entries same (Some k ∷ ks) s =
    (ap (λ h. is_some (get nat_eq is (key_hash h k))) same ∙ ap (λ es. is_some (lookup (nat_eq (key_hash (hasher_of was) k)) es)) entries ∙ s.0, places_same was is entries same ks s.1)

all_more : {X : Type 0} (P : X → Type 0) (xs : List X) (x : X) → AllByRecursion P xs → P x → AllByRecursion P (xs ++ x ∷ [])
all_more P [] x a p = (p, tt)
all_more P (y ∷ xs) x a p = (a.0, all_more P xs x a.1 p)

pub knows_more : (places : IndexMap ℕ ℕ Seed) (ks : List (Option GroupKey)) (o : Option GroupKey) → Knows places ks → HasPlace places o → Knows places (ks ++ o ∷ [])
knows_more places ks o s p = all_more (HasPlace places) ks o s p

distinct_more : (k : GroupKey) (keys : List GroupKey) → IsDistinct same_key keys → list_any (same_key k) keys ≡ false → IsDistinct same_key (keys ++ k ∷ [])
unfolding IsDistinct
distinct_more k [] d h = (tt, tt)
distinct_more k (j ∷ keys) d h =
    let q = either (same_key k j) (list_any (same_key k) keys) h in
    (all_more (λ y. same_key j y ≡ false) keys k d.0 (other_way k j q.0), distinct_more k keys d.1 q.1)

-- groups stay apart with one more of another key
pub apart_more : (gs : List Group) (g : Group) (k : GroupKey) → AreApart gs → group_key g ≡ Some k → has_key k gs ≡ false → AreApart (gs ++ g ∷ [])
apart_more gs g k a e fresh =
    (a.0 ++ k ∷ [], keys_more k g a.0 gs a.1 e, distinct_more k a.0 a.2 (sym (key_among_keys k a.0 gs a.1) ∙ fresh))

-- groups with the same keys are as far apart
pub apart_same : (gs hs : List Group) → AreApart gs → map group_key hs ≡ map group_key gs → AreApart hs
apart_same gs hs a e = (a.0, a.1 ∙ sym e, a.2)

-- once places are made, what holds of them is kept
pub once_kept : (made : Bool) (was is : IndexMap ℕ ℕ Seed) (ks js : List (Option GroupKey)) → made ≡ true → (Knows was ks → Knows is js) → KnowsOnce made was ks → KnowsOnce made is js
once_kept true was is ks js e kept h = kept h
once_kept false was is ks js e kept h = absurd (false≢true e)

-- the same with one more
pub once_noted : {A E : Type 0} (result : Result A E) (made : Bool) (was is : IndexMap ℕ ℕ Seed) (ks : List (Option GroupKey)) (o : Option GroupKey) → made ≡ true → (Knows was ks → Knows is ks)
    → OnOk result (HasPlace is o) → OnOk result (KnowsOnce made was ks → KnowsOnce made is (ks ++ o ∷ []))
once_noted (Ok a) made was is ks o e kept put = once_kept made was is ks (ks ++ o ∷ []) e (λ h. knows_more is ks o (kept h) put)
once_noted (Err x) made was is ks o e kept put = tt

-- places that are made, and a key without one
pub absent_at : (places : IndexMap ℕ ℕ Seed) (ks : List (Option GroupKey)) (k : GroupKey) (made : Bool) (seed : Seed) (hash : ℕ) → KnowsOnce made places ks → made ≡ true → seed ≡ hasher_of places
    → hash ≡ key_hash seed k → get nat_eq places hash ≡ None → position (is_key k) ks ≡ None
absent_at places ks k made seed hash h made_is seed_is hash_is none =
    absent places ks k (subst (λ b. KnowsOnce b places ks) made_is h)
    (ap (λ n. is_some (get nat_eq places n)) (sym (hash_is ∙ ap (λ s. key_hash s k) seed_is)) ∙ ap is_some none)

distinct_none : IsDistinct same_key []
unfolding IsDistinct
distinct_none = tt

-- no groups
pub kept_none : (it : Places) (gs : List Group) → gs ≡ [] → it.is_made ≡ false → AreKept it gs
kept_none it gs none unmade = subst (AreKept it) (sym none) (([], refl, distinct_none), subst (λ b. KnowsOnce b it.places []) (sym unmade) tt)

-- groups with the same keys
pub kept_same : (it : Places) (gs hs : List Group) → AreKept it gs → map group_key hs ≡ map group_key gs → AreKept it hs
kept_same it gs hs kept e = (apart_same gs hs kept.0 e, subst (KnowsGroups it) (sym e) kept.1)

-- one more group, of another key, whose place was noted
pub kept_more : (old it : Places) (seen was is : List Group) (g : Group) (leader : Record) → seen ≡ was → AreKept old was → HasFreshKey g was → leader_in g.records g.signatures ≡ Some leader → is ≡ was ++ g ∷ []
    → (KnowsGroups old (map group_key seen) → KnowsGroups it (map group_key seen ++ Some (key_of leader) ∷ [])) → AreKept it is
kept_more old it seen was is g leader same kept fresh leads more noted =
    let its : group_key g ≡ Some (key_of leader) = ap (option_map key_of) leads in
    let keys : map group_key is ≡ map group_key was ++ Some (key_of leader) ∷ [] = ap (map group_key) more ∙ map-append group_key was (g ∷ []) ∙ ap (λ o. map group_key was ++ o ∷ []) its in
    let knows = subst (λ gs. KnowsGroups old (map group_key gs) → KnowsGroups it (map group_key gs ++ Some (key_of leader) ∷ [])) same noted kept.1 in
    (subst AreApart (sym more) (apart_more was g (key_of leader) kept.0 its (fresh (key_of leader) its)), subst (KnowsGroups it) (sym keys) knows)
