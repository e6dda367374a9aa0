-- The longest anchor at or above a place, found from the last anchor on.
use Rattle.std.proofs.Common.{◌≡◌, ℕ, suc, ◌<◌, ◌≤◌, Bool, true, false, cond, List, [], ◌∷◌, map, length, drop, get_or, Option, Some, None, refl, sym, ap, ◌∙◌, subst, arith, inl, inr}
use Rattle.std.specs.Prelude.{filter, find, nat_lt}
use Rattle.std.specs.Option.{option_map, option_and_then}
use Rattle.std.proofs.lemmas.Bool.{true≢false, cases_Bool, cond-true, cond-false, ltb-true}
use Rattle.std.proofs.lemmas.List.{drop_all}
use Rattle.std.proofs.lemmas.Option.{same_Some}
use Rattle.dsec_spec.specs.Names.{Labels, Place, place, is_below, same_place}
use Rattle.dsec_spec.specs.Records.{Record}
use Rattle.dsec_spec.specs.Islands.{island, looked_for_at, longer, longest}
use Rattle.dsec_spec.proofs.CanonicalNames.{same_place_decides}
use Rattle.dsec_spec.proofs.ListLemmas.{drop_here}
use Rattle.dsec_spec.proofs.Members.{from_filter, from_find}
use Rattle.dsec_anchors.specs.Anchors.{longer_name, told_island}

-- the longest of names, the first of those that have as many labels
unfoldable pub longest_name : List Labels → Option Labels
longest_name [] = None
longest_name (n ∷ ns) = Some (longer_name n (longest_name ns))

-- the owners of the anchors from an index on that are at or above a place
abbrev pub owners_from : List Record → Place → ℕ → List Labels
owners_from anchors from index = filter (λ (n : Labels). is_below from (place n)) (map (λ anchor. anchor.owner) (drop index anchors))

-- the longest of them
abbrev pub best_from : List Record → Place → ℕ → Option Labels
best_from anchors from index = longest_name (owners_from anchors from index)

at_anchor : (anchors : List Record) (from : Place) (i : ℕ) (anchor : Record) (b : Bool) → i < length anchors → anchor ≡ get_or anchors i anchor → is_below from (place anchor.owner) ≡ b
    → best_from anchors from i ≡ longest_name (cond b (anchor.owner ∷ owners_from anchors from (suc i)) (owners_from anchors from (suc i)))
at_anchor anchors from i anchor b below is test =
    ap (λ (rest : List Record). longest_name (filter (λ (n : Labels). is_below from (place n)) (map (λ a. a.owner) rest))) (drop_here anchors i anchor below is)
    ∙ ap (λ (t : Bool). longest_name (cond t (anchor.owner ∷ owners_from anchors from (suc i)) (owners_from anchors from (suc i)))) test

pub one_longer : (anchors : List Record) (from : Place) (i j : ℕ) (anchor : Record) (best : Option Labels) → j ≡ suc i → i < length anchors → anchor ≡ get_or anchors i anchor → is_below from (place anchor.owner) ≡ true
    → best ≡ best_from anchors from j → Some (longer_name anchor.owner best) ≡ best_from anchors from i
unfolding longest_name
one_longer anchors from i j anchor best next below is yes_below so_far =
    ap (λ (o : Option Labels). Some (longer_name anchor.owner o)) (so_far ∙ ap (best_from anchors from) next)
    ∙ sym (at_anchor anchors from i anchor true below is yes_below)

pub one_skipped : (anchors : List Record) (from : Place) (i j : ℕ) (anchor : Record) (best : Option Labels) → j ≡ suc i → i < length anchors → anchor ≡ get_or anchors i anchor → is_below from (place anchor.owner) ≡ false
    → best ≡ best_from anchors from j → best ≡ best_from anchors from i
one_skipped anchors from i j anchor best next below is not_below so_far =
    so_far ∙ (ap (best_from anchors from) next ∙ sym (at_anchor anchors from i anchor false below is not_below))

pub none_yet : (anchors : List Record) (from : Place) (i : ℕ) → length anchors ≤ i → None ≡ best_from anchors from i
unfolding longest_name
none_yet anchors from i past = sym (ap (λ (rest : List Record). longest_name (filter (λ (n : Labels). is_below from (place n)) (map (λ a. a.owner) rest))) (drop_all i anchors past))

-- the longest of names stands at the longest place
longest_place : (ns : List Labels) → option_map place (longest_name ns) ≡ longest (map place ns)
unfolding longest_name longest
longest_place [] = refl
longest_place (n ∷ ns) = one (longest_name ns) ∙ ap (λ (o : Option Place). Some (longer (place n) o)) (longest_place ns)
  where
    by : (m : Labels) (b : Bool) → ◌≡◌ {A = Option Place} (Some (place (cond b m n))) (Some (cond b (place m) (place n)))
    by m true = refl
    by m false = refl

    one : (o : Option Labels) → ◌≡◌ {A = Option Place} (Some (place (longer_name n o))) (Some (longer (place n) (option_map place o)))
    one None = refl
    one (Some m) = by m (nat_lt (length (place n)) (length (place m)))

-- the places of what is seen as names
pub placed : {A : Type 0} (name : A → Labels) (o : Option A) → option_map (λ (a : A). place (name a)) o ≡ option_map place (option_map name o)
placed name None = refl
placed name (Some a) = refl

-- whether a name stands where another does
abbrev is_at : Labels → Labels → Bool
is_at m n = same_place (place n) (place m)

itself : (m n : Labels) → n ≡ m → is_at m n ≡ true
itself m n e = (same_place_decides (place n) (place m)).1 (ap place e)

shorter : (m n : Labels) → length (place n) < length (place m) → is_at m n ≡ false
shorter m n less = elim (cases_Bool (is_at m n)) [
  | inl t ↦ absurd (let same : length (place n) ≡ length (place m) = ap length ((same_place_decides (place n) (place m)).0 t) in omega (arith, less, same))
  | inr f ↦ f
]

-- it is the first of the names that stand there
longest_first : (ns : List Labels) (m : Labels) → longest_name ns ≡ Some m → find (is_at m) ns ≡ Some m
unfolding longest_name
longest_first [] m e = absurd cc
longest_first (n ∷ ns) m e = by (longest_first ns) (longest_name ns) refl
  where
    same : (o : Option Labels) → longest_name ns ≡ o → longer_name n o ≡ m
    same o f = ap (longer_name n) (sym f) ∙ same_Some (longer_name n (longest_name ns)) m e

    here : n ≡ m → find (is_at m) (n ∷ ns) ≡ Some m
    here is = cond-true (is_at m n) (Some n) (find (is_at m) ns) (itself m n is) ∙ ap (λ (k : Labels). Some k) is

    by : ((k : Labels) → longest_name ns ≡ Some k → find (is_at k) ns ≡ Some k) → (o : Option Labels) → longest_name ns ≡ o → find (is_at m) (n ∷ ns) ≡ Some m
    by others None f = here (same None f)
    by others (Some k) f = elim (cases_Bool (nat_lt (length (place n)) (length (place k)))) [
      | inl t ↦
          let is : k ≡ m = sym (cond-true (nat_lt (length (place n)) (length (place k))) k n t) ∙ same (Some k) f in
          subst (λ (l : Labels). find (is_at l) (n ∷ ns) ≡ Some l) is
          (cond-false (is_at k n) (Some n) (find (is_at k) ns) (shorter k n (ltb-true (length (place n)) (length (place k)) t)) ∙ others k f)
      | inr t ↦ here (sym (cond-false (nat_lt (length (place n)) (length (place k))) k n t) ∙ same (Some k) f)
    ]

-- what is found first of those that pass a test is found first of all, where all that is looked for passes it
found_of_all : (test passes : Labels → Bool) (ns : List Labels) (m : Labels) → ((n : Labels) → test n ≡ true → passes n ≡ true) → find test (filter passes ns) ≡ Some m → find test ns ≡ Some m
found_of_all test passes [] m all e = e
found_of_all test passes (n ∷ ns) m all e = by (found_of_all test passes ns m all) (passes n) refl e
  where
    tested : (find test (filter passes ns) ≡ Some m → find test ns ≡ Some m) → (c : Bool) → cond c (Some n) (find test (filter passes ns)) ≡ Some m → cond c (Some n) (find test ns) ≡ Some m
    tested others true f = f
    tested others false f = others f

    failed : passes n ≡ false → test n ≡ false
    failed fails = elim (cases_Bool (test n)) [
      | inl t ↦ absurd (true≢false (sym (all n t) ∙ fails))
      | inr f ↦ f
    ]

    by : (find test (filter passes ns) ≡ Some m → find test ns ≡ Some m) → (b : Bool) → passes n ≡ b → find test (cond b (n ∷ filter passes ns) (filter passes ns)) ≡ Some m
        → find test (n ∷ ns) ≡ Some m
    by others true p f = tested others (test n) f
    by others false p f = cond-false (test n) (Some n) (find test ns) (failed p) ∙ others f

-- places that pass a test are those of the names whose places do
filtered_places : (from : Place) (anchors : List Record)
    → map place (filter (λ (n : Labels). is_below from (place n)) (map (λ (a : Record). a.owner) anchors)) ≡ filter (is_below from) (map (λ (a : Record). place a.owner) anchors)
filtered_places from [] = refl
filtered_places from (a ∷ anchors) = by (is_below from (place a.owner)) ∙ ap (λ (ps : List Place). cond (is_below from (place a.owner)) (place a.owner ∷ ps) ps) (filtered_places from anchors)
  where
    rest : List Labels
    rest = filter (λ (n : Labels). is_below from (place n)) (map (λ (r : Record). r.owner) anchors)

    by : (b : Bool) → map place (cond b (a.owner ∷ rest) rest) ≡ cond b (place a.owner ∷ map place rest) (map place rest)
    by true = refl
    by false = refl

-- the longest of all the owners is at the island, in the letters of the first that is there
module _ (anchors : List Record) (name : Place) (rtype : ℕ) where
  abbrev from : Place
  from = looked_for_at name rtype

  abbrev owners : List Labels
  owners = map (λ (a : Record). a.owner) anchors

  abbrev above : Labels → Bool
  above n = is_below from (place n)

  at_island : option_map place (longest_name (filter above owners)) ≡ island anchors name rtype
  at_island = longest_place (filter above owners) ∙ ap longest (filtered_places from anchors)

  by_best : (o : Option Labels) → longest_name (filter above owners) ≡ o
      → o ≡ option_and_then (λ (top : Place). find (λ (owner : Labels). same_place (place owner) top) owners) (option_map place o)
  by_best None e = refl
  by_best (Some m) e =
      let first = longest_first (filter above owners) m e in
      let passes = (from_filter above owners m (from_find (is_at m) (filter above owners) m first).1).0 in
      sym (found_of_all (is_at m) above owners m (λ n t. ap (is_below from) ((same_place_decides (place n) (place m)).0 t) ∙ passes) first)

  pub island_place : (i : ℕ) (best : Option Labels) → i ≡ 0 → best ≡ best_from anchors from i → option_map place best ≡ island anchors name rtype
  island_place i best e so_far = ap (option_map place) (so_far ∙ ap (best_from anchors from) e) ∙ at_island

  pub island_first : (i : ℕ) (best : Option Labels) → i ≡ 0 → best ≡ best_from anchors from i → best ≡ told_island anchors name rtype
  island_first i best e so_far =
      so_far ∙ (ap (best_from anchors from) e ∙ (by_best (longest_name (filter above owners)) refl
      ∙ ap (option_and_then (λ (top : Place). find (λ (owner : Labels). same_place (place owner) top) owners)) at_island))
